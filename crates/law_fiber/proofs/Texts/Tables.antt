-- Texts that are put into a table: it begins with what it was, and has the text then. A text that stands in it leaves it as it is.
use Rattle.std.proofs.Common.{◌≡◌, ◌<◌, ◌≤◌, ℕ, Bool, false, Contains, List, [], ◌∷◌, ◌++◌, length, get_or, Option, Some, None, position, bytes_eq, codes, refl, sym, ap, subst, ◌∙◌, arith}
use Rattle.std.specs.Cmp.Lexicographic.{bytes_decides}
use Rattle.std.specs.List.{position_or_len}
use Rattle.std.proofs.lemmas.Bool.{both_ways}
use Rattle.std.proofs.lemmas.Grind.{common_steps}
use Rattle.std.proofs.lemmas.List.{append-nil, append_assoc, get_or_append_left, length-append}
use Rattle.std.proofs.lemmas.List.Elements.{Contains-append_left, Contains-get_or, Contains-push}
use Rattle.std.proofs.lemmas.List.Quantifiers.{position-Some}
use Rattle.std.proofs.lemmas.List.Sums.{fails_before_first}
use Rattle.std.proofs.lemmas.Option.{unwrap_or-slice_get}
use Rattle.eio_value.specs.Escapes.{quoted}
use Rattle.eio_value.specs.Exceptions.{bound_text, plain_text, fault_text, reason, HasTextsOfPlain}
use Rattle.eio_value.specs.Table.{HasText, text_at, text_id, Interned, intern}
use Rattle.eio_value.specs.declared.plain.Plain.{Plain}
use Rattle.eio_value.specs.declared.plain.Plain.TheVariants as plain
use Rattle.eio_value.specs.declared.raised.Raised.{Raised}
use Rattle.eio_value.specs.declared.raised.Raised.TheVariants as raised
use Rattle.eio_value.specs.declared.value.TextId.{TextId}
use Rattle.law_fiber.specs.Texts.Texts.{BeginsWith}

-- ## Tables that begin with others

pub begins_self : (t : List (List ℕ)) → BeginsWith t t
begins_self t = ([], sym (append-nil t))

pub begins_then : (t u v : List (List ℕ)) → BeginsWith t u → BeginsWith u v → BeginsWith t v
begins_then t u v one two = (one.0 ++ two.0, two.1 ∙ (ap (λ texts. texts ++ two.0) one.1 ∙ append_assoc t one.0 two.0))

pub begins_longer : (t u : List (List ℕ)) → BeginsWith t u → length t ≤ length u
begins_longer t u begins =
    let long : length u ≡ length (t ++ begins.0) = ap length begins.1 in
    let both = length-append t begins.0 in
    omega (arith, long, both)

pub still_has : (t u : List (List ℕ)) → BeginsWith t u → (id : TextId) → HasText t id → HasText u id
still_has t u begins id has = let long = begins_longer t u begins in omega (arith, long, has)

pub still_contains : (t u : List (List ℕ)) (text : List ℕ) → BeginsWith t u → Contains t text → Contains u text
still_contains t u text begins there = subst (λ texts. Contains texts text) (sym begins.1) (Contains-append_left t begins.0 text there)

text_is : (texts : List (List ℕ)) (id : TextId) → text_at texts id ≡ get_or texts id.0 []
text_is texts id = unwrap_or-slice_get texts id.0 []

same_text : (t u : List (List ℕ)) → BeginsWith t u → (id : TextId) → HasText t id → text_at u id ≡ text_at t id
same_text t u begins id has =
    ap (λ texts. text_at texts id) begins.1
    ∙ (text_is (t ++ begins.0) id ∙ (get_or_append_left t begins.0 [] id.0 has ∙ sym (text_is t id)))

-- ## Texts that are put into a table

pub record IsInterned (t : List (List ℕ)) (text : List ℕ) (new : Interned) : Type 0 where
  pub begins : BeginsWith t new.texts
  pub has : HasText new.texts new.id
  pub there : Contains new.texts text

abbrev put_by : List (List ℕ) → List ℕ → Option ℕ → Interned
put_by t text found = elim found [
  | Some at ↦ record { id = text_id at; texts = t }
  | None ↦ record { id = text_id (length t); texts = t ++ text ∷ [] }
]

interned_by : (t : List (List ℕ)) (text : List ℕ) (found : Option ℕ) → position (bytes_eq text) t ≡ found → IsInterned t text (put_by t text found)
interned_by t text (Some at) e =
    let there = position-Some (bytes_eq text) t at [] e in
    record {
      begins = begins_self t;
      has = there.0;
      there = subst (λ it. Contains t it) (sym ((bytes_decides text (get_or t at [])).0 there.1)) (Contains-get_or t at [] there.0);
    }
interned_by t text None e =
    let long = length-append t (text ∷ []) in
    record { begins = (text ∷ [], refl); has = omega (arith, long); there = Contains-push t text }

pub interned : (t : List (List ℕ)) (text : List ℕ) → IsInterned t text (intern t text)
interned t text = interned_by t text (position (bytes_eq text) t) refl

none_passes : {X : Type 0} (p : X → Bool) (xs : List X) (d : X) → position p xs ≡ None → (k : ℕ) → k < length xs → p (get_or xs k d) ≡ false
none_passes p xs d e k less =
    let past : length xs ≤ position_or_len p xs = grind (arith, common_steps) in
    fails_before_first p xs k d (omega (arith, past, less))

stands_by : (t : List (List ℕ)) (text : List ℕ) (found : Option ℕ) → position (bytes_eq text) t ≡ found → Contains t text → (put_by t text found).texts ≡ t
stands_by t text (Some at) e there = refl
stands_by t text None e there =
    absurd (both_ways _ (none_passes (bytes_eq text) t text e there.0 there.1) ((bytes_decides text (get_or t there.0 text)).1 (sym there.2)))

pub interned_stands : (t : List (List ℕ)) (text : List ℕ) → Contains t text → (intern t text).texts ≡ t
interned_stands t text there = stands_by t text (position (bytes_eq text) t) refl there

-- ## Texts of exceptions

same_plain : (t u : List (List ℕ)) → BeginsWith t u → (what : Plain) → HasTextsOfPlain t what → plain_text u what ≡ plain_text t what
same_plain t u begins (plain.Failure id) has = ap (λ text. codes "Failure " ++ quoted text) (same_text t u begins id has)
same_plain t u begins (plain.Path fault id) has = ap (λ text. fault_text fault ++ 32 ∷ quoted text) (same_text t u begins id has)
same_plain t u begins other has = refl

-- an exception whose texts stand has the same bound text by a table that begins with theirs
pub same_bound : (t u : List (List ℕ)) → BeginsWith t u → (r : Raised) → HasTextsOfPlain t (reason r) → bound_text u r ≡ bound_text t r
same_bound t u begins (raised.One member) has = same_plain t u begins member.what has
same_bound t u begins (raised.Cancelled member) has = ap (λ text. codes "Cancelled: " ++ text) (same_plain t u begins member.what has)
same_bound t u begins (raised.Many several) has =
    ap (λ text. codes "Multiple [" ++ (text ++ codes "; ...]")) (same_plain t u begins (reason (raised.Many several)) has)
