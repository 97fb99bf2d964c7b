-- The table with which a script starts has the text that a `try` binds of each exception that is listed, so that it stays as it is.
use Rattle.std.proofs.Common.{◌≡◌, ◌<◌, ℕ, zero, suc, false, All, Contains, List, [], ◌∷◌, length, get_or, map, fold, sym, subst, arith}
use Rattle.std.proofs.lemmas.List.Elements.{All-append, All-map, All-contains, All-from_recursion}
use Rattle.eio_value.specs.Exceptions.{bound_text, reason, HasTextsOfPlain}
use Rattle.eio_value.specs.declared.plain.Member.{Member}
use Rattle.eio_value.specs.declared.plain.Plain.{Plain}
use Rattle.eio_value.specs.declared.plain.Plain.TheVariants as plain
use Rattle.eio_value.specs.declared.raised.Raised.{Raised}
use Rattle.eio_value.specs.declared.raised.Raised.TheVariants as raised
use Rattle.spec_script.specs.Opening.{textless, exceptions_of, with_text, with_bound, opening_texts}
use Rattle.spec_script.specs.Scripts.{Script}
use Rattle.law_fiber.specs.Texts.Texts.{BeginsWith}
use Rattle.law_fiber.specs.Texts.Laws.{HasFailureTexts, BoundTextsStand}
use Rattle.law_fiber.proofs.Texts.Tables.{begins_self, begins_then, still_has, still_contains, interned, interned_stands, same_bound}

abbrev Texts : Type 0
Texts = List (List ℕ)

-- ## One exception

text_begins : (t : Texts) (text : List ℕ) → BeginsWith t (with_text t text)
text_begins t text = (interned t text).begins

module _ (t : Texts) (what : Plain) where
  abbrev member : Member
  member = record { serial = 0; what = what }

  -- the texts of an exception that stands alone, of a cancellation, and of several
  abbrev alone_text : List ℕ
  alone_text = bound_text t (raised.One member)

  abbrev cancelled_text : List ℕ
  cancelled_text = bound_text t (raised.Cancelled member)

  abbrev several_text : List ℕ
  several_text = bound_text t (raised.Many (record { members = member ∷ []; cut = false }))

  -- the table with the first, and with the first two
  abbrev with_one : Texts
  with_one = with_text t alone_text

  abbrev with_two : Texts
  with_two = with_text with_one cancelled_text

  two_begins : BeginsWith with_two (with_bound t what)
  two_begins = text_begins with_two several_text

  one_begins : BeginsWith with_one (with_bound t what)
  one_begins = begins_then with_one with_two (with_bound t what) (text_begins with_one cancelled_text) two_begins

  plain_begins : BeginsWith t (with_bound t what)
  plain_begins = begins_then t with_one (with_bound t what) (text_begins t alone_text) one_begins

-- the table that a listed exception makes has its bound text, however it is raised
bound_there : (t : Texts) (r : Raised) → Contains (with_bound t (reason r)) (bound_text t r)
bound_there t (raised.One it) =
    still_contains (with_one t it.what) (with_bound t it.what) (alone_text t it.what) (one_begins t it.what) (interned t (alone_text t it.what)).there
bound_there t (raised.Cancelled it) =
    still_contains (with_two t it.what) (with_bound t it.what) (cancelled_text t it.what) (two_begins t it.what)
    (interned (with_one t it.what) (cancelled_text t it.what)).there
bound_there t (raised.Many several) =
    let what = reason (raised.Many several) in
    (interned (with_two t what) (several_text t what)).there

-- ## All exceptions

all_begin : (t : Texts) (whats : List Plain) → BeginsWith t (fold with_bound t whats)
all_begin t [] = begins_self t
all_begin t (what ∷ whats) =
    begins_then t (with_bound t what) (fold with_bound (with_bound t what) whats) (plain_begins t what) (all_begin (with_bound t what) whats)

pub still_has_plain : (t u : Texts) → BeginsWith t u → (what : Plain) → HasTextsOfPlain t what → HasTextsOfPlain u what
still_has_plain t u begins (plain.Failure id) has = still_has t u begins id has
still_has_plain t u begins (plain.Path fault id) has = still_has t u begins id has
still_has_plain t u begins other has = tt

all_bound_there : (t : Texts) (whats : List Plain) (r : Raised) → HasTextsOfPlain t (reason r) → (k : ℕ) → k < length whats
    → get_or whats k (reason r) ≡ reason r → Contains (fold with_bound t whats) (bound_text t r)
all_bound_there t [] r has k less is = absurd (omega (arith, less))
all_bound_there t (what ∷ whats) r has zero less is =
    still_contains (with_bound t what) (fold with_bound (with_bound t what) whats) (bound_text t r) (all_begin (with_bound t what) whats)
    (subst (λ it. Contains (with_bound t it) (bound_text t r)) (sym is) (bound_there t r))
all_bound_there t (what ∷ whats) r has (suc k) less is =
    let u = with_bound t what in
    let begins = plain_begins t what in
    subst (λ text. Contains (fold with_bound u whats) text) (same_bound t u begins r has)
    (all_bound_there u whats r (still_has_plain t u begins (reason r) has) k (omega (arith, less)) is)

-- ## Scripts

textless_stand : (t : Texts) → All (HasTextsOfPlain t) textless
textless_stand t = All-from_recursion (HasTextsOfPlain t) textless (tt, (tt, (tt, (tt, (tt, (tt, (tt, (tt, (tt, (tt, (tt, (tt, (tt, tt)))))))))))))

pub listed_stand : (script : Script) → HasFailureTexts script → All (HasTextsOfPlain script.texts) (exceptions_of script)
listed_stand script has =
    All-append (HasTextsOfPlain script.texts) (map plain.Failure script.failures) textless
    (All-map (HasTextsOfPlain script.texts) plain.Failure script.failures has) (textless_stand script.texts)

pub opening_begins : (script : Script) → BeginsWith script.texts (opening_texts script)
unfolding opening_texts
opening_begins script = all_begin script.texts (exceptions_of script)

-- the table has the text of each exception that is listed
pub known_has_text : (script : Script) → HasFailureTexts script → (what : Plain) → Contains (exceptions_of script) what
    → HasTextsOfPlain (opening_texts script) what
known_has_text script has what known =
    still_has_plain script.texts (opening_texts script) (opening_begins script) what
    (All-contains (HasTextsOfPlain script.texts) (exceptions_of script) what (listed_stand script has) known)

pub bound_texts_stand : BoundTextsStand
unfolding opening_texts
bound_texts_stand script r has known =
    let t = script.texts in
    let all = opening_texts script in
    let held = All-contains (HasTextsOfPlain t) (exceptions_of script) (reason r) (listed_stand script has) known in
    interned_stands all (bound_text all r)
    (subst (λ text. Contains all text) (sym (same_bound t all (opening_begins script) r held))
    (all_bound_there t (exceptions_of script) r held known.0 known.1 known.2))
