-- Silent statements of a fiber whose slots have kinds, and what follows them.
use Rattle.std.proofs.Common.{◌≡◌, ℕ, Bool, true, false, List, [], ◌∷◌, ◌++◌, length, refl, sym, subst}
use Rattle.std.proofs.lemmas.List.{append_assoc}
use Rattle.eio_value.specs.declared.plain.Plain.{Plain}
use Rattle.eio_value.specs.declared.raised.Raised.{Raised}
use Rattle.eio_value.specs.declared.value.Value.{Value}
use Rattle.spec_script.specs.Kinds.{Kind}
use Rattle.spec_fiber.specs.Asks.{Ask}
use Rattle.spec_fiber.specs.Evaluation.{Evaluated, Is, Raises}
use Rattle.spec_fiber.specs.Silent.{Went, Past, Called, Threw, and_then, within, raises, with_value, asks}
use Rattle.spec_fiber.specs.Work as work
use Rattle.spec_fiber.specs.Work.{Work, Carry}
use Rattle.law_fiber.specs.Kinded.Kinds.{Facts, HasKinds, StartsWith, HasKindsOfCall, Behind, asked_by, HasKindsOfWork}
use Rattle.law_fiber.proofs.Kinded.Variables.{starts_self, starts_then, cut_back, kinds_back}

-- work may stand behind statements that began with these slots: a value leaves some of those that it may leave, and an exception some with more behind
abbrev pub MayStand : Facts → (slots : List Kind) → (Left : List Kind → Type 0) → List Work → Type 0
MayStand facts slots Left rest = ((left : List Kind) → Left left → (asked_by facts rest).at_value left) × Behind slots (asked_by facts rest).at_exception

-- what a call leaves behind it has kinds before all work that may stand behind the statements
abbrev pub LeavesWork : Facts → (slots : List Kind) → (Left : List Kind → Type 0) → (now : List Kind) → List Work → Type 0
LeavesWork facts slots Left now behind = (rest : List Work) → MayStand facts slots Left rest → HasKindsOfWork facts now (behind ++ rest)

-- statements that began with slots of these kinds come to a value, an exception or a call
pub data KindsOfWent (facts : Facts) (slots : List Kind) (Left : List Kind → Type 0) : Went → Type 0 where
  Pasts : (left : List Kind) {it : Value} {c : Carry} → Left left → HasKinds facts left c.variables → KindsOfWent facts slots Left (Past it c)
  Calls : (now : List Kind) {call : Ask} {behind : List Work} {c : Carry} → HasKinds facts now c.variables → HasKindsOfCall facts now call
      → LeavesWork facts slots Left now behind → KindsOfWent facts slots Left (Called call behind c)
  Throws : (longer : List Kind) {r : Raised} {c : Carry} → StartsWith slots longer → HasKinds facts longer c.variables
      → KindsOfWent facts slots Left (Threw r c)

-- a value leaves these slots
abbrev pub Exactly : List Kind → List Kind → Type 0
Exactly slots left = left ≡ slots

module _ (facts : Facts) where
  -- statements that began with some slots more, and leave what they may
  pub went_within : {slots base : List Kind} {Left More : List Kind → Type 0} {went : Went} → StartsWith slots base
      → ((left : List Kind) → Left left → More left) → KindsOfWent facts base Left went → KindsOfWent facts slots More went
  went_within starts grows (Pasts left is has) = Pasts left (grows left is) has
  went_within {slots} {base} starts grows (Calls now has call leaves) =
      Calls now has call (λ rest stands. leaves rest
      (λ left is. stands.0 left (grows left is), λ longer more. stands.1 longer (starts_then slots base longer starts more)))
  went_within {slots} {base} starts grows (Throws longer more has) = Throws longer (starts_then slots base longer starts more) has

  -- ## What follows

  pub followed : {slots base : List Kind} {Left After : List Kind → Type 0} {went : Went} {next : Value → Carry → Went} {catch : Raised → Carry → Went}
      (more : List Work) → KindsOfWent facts slots Left went
      → ((left : List Kind) (it : Value) (c : Carry) → Left left → HasKinds facts left c.variables → KindsOfWent facts base After (next it c))
      → ((longer : List Kind) (r : Raised) (c : Carry) → StartsWith slots longer → HasKinds facts longer c.variables
      → KindsOfWent facts base After (catch r c))
      → ((rest : List Work) → MayStand facts base After rest → MayStand facts slots Left (more ++ rest))
      → KindsOfWent facts base After (and_then went next catch more)
  followed more (Pasts left {it = it} {c = c} is has) nexts catches stands = nexts left it c is has
  followed more (Calls now {behind = behind} has call leaves) nexts catches stands =
      Calls now has call (λ rest may.
      subst (λ all. HasKindsOfWork facts now all) (sym (append_assoc behind more rest)) (leaves (more ++ rest) (stands rest may)))
  followed more (Throws longer {r = r} {c = c} starts has) nexts catches stands = catches longer r c starts has

  -- a block whose end cuts the variables
  pub within_kinds : {slots base : List Kind} {went : Went} (keep : ℕ) → keep ≡ length slots → StartsWith slots base
      → KindsOfWent facts base (StartsWith base) went → KindsOfWent facts slots (Exactly slots) (within keep went)
  unfolding asked_by
  within_kinds {slots} {base} keep same starts went =
      followed (work.Cut keep ∷ []) went
      (λ left it c more has. Pasts slots refl (kinds_back facts keep slots left c.variables same (starts_then slots base left starts more) has))
      (λ longer r c more has. Throws longer (starts_then slots base longer starts more) has)
      (λ rest stands. (
        λ left more. subst (asked_by facts rest).at_value (sym (cut_back keep slots left same (starts_then slots base left starts more))) (stands.0 slots refl),
        λ longer more. stands.1 longer (starts_then slots base longer starts more),
      ))

  -- ## Ways to go

  pub asks_kinds : {slots : List Kind} {Left : List Kind → Type 0} {call : Ask} (c : Carry) → Left slots → HasKinds facts slots c.variables
      → HasKindsOfCall facts slots call → KindsOfWent facts slots Left (asks call c)
  asks_kinds {slots} c is has call = Calls slots has call (λ rest stands. (stands.0 slots is, stands.1))

  pub raises_kinds : {slots : List Kind} {Left : List Kind → Type 0} (what : Plain) (c : Carry) → HasKinds facts slots c.variables
      → KindsOfWent facts slots Left (raises what c)
  raises_kinds {slots} what c has = Throws slots (starts_self slots) has

  pub with_value_kinds : {slots : List Kind} {Left : List Kind → Type 0} {A : Type 0} (e : Evaluated A) (c : Carry) (next : A → Went)
      → HasKinds facts slots c.variables → ((it : A) → KindsOfWent facts slots Left (next it)) → KindsOfWent facts slots Left (with_value e c next)
  with_value_kinds (Is it) c next has nexts = nexts it
  with_value_kinds (Raises what) c next has nexts = raises_kinds what c has

  pub either : {slots : List Kind} {Left : List Kind → Type 0} {went other : Went} (b : Bool) → KindsOfWent facts slots Left went
      → KindsOfWent facts slots Left other → KindsOfWent facts slots Left (elim b [ true ↦ other | false ↦ went ])
  either true first second = second
  either false first second = first
