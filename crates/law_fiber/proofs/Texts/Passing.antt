-- The two ways in which tables go along with fibers: they grow, and have the texts of what stands there; or they stay, where all exceptions are known.
use Rattle.std.proofs.Common.{◌≡◌, ℕ, ◌≤◌, Contains, List, [], ◌∷◌, map, length, refl, sym, subst, arith}
use Rattle.std.specs.List.{AllByRecursion as Each}
use Rattle.std.proofs.lemmas.List.Elements.{All-contains, Contains-append_left, Contains-append_right}
use Rattle.eio_value.specs.Exceptions.{bound_text, reason}
use Rattle.eio_value.specs.Table.{HasText, intern}
use Rattle.eio_value.specs.declared.plain.Member.{Member}
use Rattle.eio_value.specs.declared.plain.Misuse.{Misuse}
use Rattle.eio_value.specs.declared.plain.Misuse.TheVariants.{SwitchFinished, Overflow, NotNumber, NotText, Resolved, NotLocked, Closed, ContextFinished}
use Rattle.eio_value.specs.declared.plain.Plain.{Plain}
use Rattle.eio_value.specs.declared.plain.Plain.TheVariants as plain
use Rattle.eio_value.specs.declared.raised.Raised.{Raised}
use Rattle.eio_value.specs.declared.raised.Raised.TheVariants as raised
use Rattle.eio_value.specs.declared.value.TextId.{TextId}
use Rattle.spec_script.specs.Opening.{textless, exceptions_of, opening_texts}
use Rattle.spec_script.specs.Scripts.{Script}
use Rattle.law_fiber.specs.Texts.Texts.{Held, IsHeldRaised, written_in, in_table, known_in, BeginsWith}
use Rattle.law_fiber.specs.Texts.Laws.{HasFailureTexts, TextsStay, KnownStay}
use Rattle.law_fiber.proofs.Texts.Lists.{contains_map}
use Rattle.law_fiber.proofs.Texts.Tables.{begins_self, begins_then, begins_longer, still_has, interned}
use Rattle.law_fiber.proofs.Texts.Bound.{still_has_plain, opening_begins, bound_texts_stand}
use Rattle.law_fiber.proofs.Texts.Going.{IsTextedCarry, Tables}
use Rattle.law_fiber.proofs.Texts.Settling.{passes_texted}

-- ## Tables that grow

module _ (script : Script) (has : HasFailureTexts script) where
  long_enough : (t : List (List ℕ)) (r : Raised) → length script.texts ≤ length t → length script.texts ≤ length (intern t (bound_text t r)).texts
  long_enough t r own = let longer = begins_longer t (intern t (bound_text t r)).texts (interned t (bound_text t r)).begins in omega (arith, own, longer)

  failure_has : (t : List (List ℕ)) → length script.texts ≤ length t → (id : TextId) → Contains script.failures id → HasText t id
  failure_has t own id listed = let less = All-contains (HasText script.texts) script.failures id has listed in omega (arith, own, less)

  abbrev growing : Tables
  growing = record {
    written = written_in script;
    held = in_table;
    stands = λ t. length script.texts ≤ length t;
    grows = BeginsWith;
    stays = begins_self;
    further = begins_then;
    weaker = λ t u begins. record { text = still_has t u begins; exception = still_has_plain t u begins };
    writes = λ t own id less. omega (arith, own, less);
    fails = failure_has;
    refuses = λ t own why. tt;
    binds = λ t r own is. (interned t (bound_text t r)).has;
    grown = λ t r own is. (interned t (bound_text t r)).begins;
    standing = λ t r own is. long_enough t r own;
  }

pub texts_stay : TextsStay
texts_stay script came rest c has own is are variables =
    let carry : IsTextedCarry (growing script has) c.texts c = record { grows = begins_self c.texts; stands = own; variables = variables } in
    let settled = passes_texted (growing script has) came rest c carry is are in
    record { begins = settled.carry.grows; settled = record { call = settled.call; behind = settled.behind; variables = settled.carry.variables } }

-- ## Tables that stay

module _ (script : Script) where
  pub failure_known : (id : TextId) → Contains script.failures id → Contains (exceptions_of script) (plain.Failure id)
  failure_known id listed =
      Contains-append_left (map plain.Failure script.failures) textless (plain.Failure id) (contains_map plain.Failure script.failures id listed)

  pub textless_known : (what : Plain) → Contains textless what → Contains (exceptions_of script) what
  textless_known what listed = Contains-append_right (map plain.Failure script.failures) textless what listed

  misuse_listed : (why : Misuse) → Contains textless (plain.Invalid why)
  misuse_listed SwitchFinished = (0, omega arith, refl)
  misuse_listed Overflow = (1, omega arith, refl)
  misuse_listed NotNumber = (2, omega arith, refl)
  misuse_listed NotText = (3, omega arith, refl)
  misuse_listed Resolved = (4, omega arith, refl)
  misuse_listed NotLocked = (5, omega arith, refl)
  misuse_listed Closed = (6, omega arith, refl)
  misuse_listed ContextFinished = (7, omega arith, refl)

  pub invalid_known : (why : Misuse) → Contains (exceptions_of script) (plain.Invalid why)
  invalid_known why = textless_known (plain.Invalid why) (misuse_listed why)

  pub exit_known : Contains (exceptions_of script) plain.Exit
  exit_known = textless_known plain.Exit (11, omega arith, refl)

  pub not_first_known : Contains (exceptions_of script) plain.NotFirst
  not_first_known = textless_known plain.NotFirst (12, omega arith, refl)

-- the first of several is held, as the reason that stands where there is none is
pub reason_held : (held : Held) → held.exception plain.Exit → (r : Raised) → IsHeldRaised held r → held.exception (reason r)
reason_held held exit (raised.One member) is = is
reason_held held exit (raised.Cancelled member) is = is
reason_held held exit (raised.Many several) is = by several.members is
  where
    by : (members : List Member) → Each (λ member. held.exception member.what) members
        → held.exception (reason (raised.Many (record several { members = members })))
    by [] are = exit
    by (first ∷ others) are = are.0

module _ (script : Script) (has : HasFailureTexts script) where
  pub bound_stays : (t : List (List ℕ)) (r : Raised) → t ≡ opening_texts script → IsHeldRaised (known_in script) r
      → (intern t (bound_text t r)).texts ≡ opening_texts script
  bound_stays t r is known =
      subst (λ it. (intern it (bound_text it r)).texts ≡ opening_texts script) (sym is)
      (bound_texts_stand script r has (reason_held (known_in script) (exit_known script) r known))

  pub bound_held : (t : List (List ℕ)) (r : Raised) → t ≡ opening_texts script → IsHeldRaised (known_in script) r
      → HasText (opening_texts script) (intern t (bound_text t r)).id
  bound_held t r is known = subst (λ it. HasText it (intern t (bound_text t r)).id) (bound_stays t r is known) (interned t (bound_text t r)).has

  abbrev pub staying : Tables
  staying = record {
    written = written_in script;
    held = λ t. known_in script;
    stands = λ t. t ≡ opening_texts script;
    grows = λ t u. Unit {0};
    stays = λ t. tt;
    further = λ t u v one two. tt;
    weaker = λ t u begins. record { text = λ id is. is; exception = λ what is. is };
    writes = λ t is id less. still_has script.texts (opening_texts script) (opening_begins script) id less;
    fails = λ t is id listed. failure_known script id listed;
    refuses = λ t is why. invalid_known script why;
    binds = bound_held;
    grown = λ t r is known. tt;
    standing = bound_stays;
  }

pub known_stay : KnownStay
known_stay script came rest c has own is are variables =
    let carry : IsTextedCarry (staying script has) c.texts c = record { grows = tt; stands = own; variables = variables } in
    let settled = passes_texted (staying script has) came rest c carry is are in
    record { table = settled.carry.stands; settled = record { call = settled.call; behind = settled.behind; variables = settled.carry.variables } }
