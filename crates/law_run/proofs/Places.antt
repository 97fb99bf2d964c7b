-- Something that holds of all exceptions in a place: what keeps it.
use Rattle.std.proofs.Common.{◌≡◌, ℕ, zero, suc, Bool, true, false, List, [], ◌∷◌, ◌++◌, length, Option, Some, None, refl, sym, subst, arith}
use Rattle.std.specs.Prelude.{slice_get, unwrap_or, take, filter, ◌||◌, nat_lt}
use Rattle.std.specs.List.{All, Contains}
use Rattle.std.proofs.lemmas.List.Elements.{All-append, All-contains, All-contains_itself, All-take, All-filter}
use Rattle.eio_value.specs.declared.plain.Member.{Member}
use Rattle.eio_value.specs.declared.raised.Outcome.{Outcome}
use Rattle.eio_value.specs.declared.raised.Raised.{Raised}
use Rattle.eio_value.specs.declared.raised.Raised.TheVariants.{One, Cancelled, Many}
use Rattle.eio_value.specs.Joining as joining
use Rattle.eio_value.specs.Joining.{members_of, is_cut, raised_of, at_most_eight, is_new_to, combine, are_one_raise}
use Rattle.eio_value.specs.declared.message.Message.{Message}
use Rattle.spec_parts.specs.Errors as collected
use Rattle.spec_parts.specs.Data.{Data}
use Rattle.spec_fiber.specs.Asks.{Ask}
use Rattle.spec_machine.specs.Domain.{Next, Wait, Standing}
use Rattle.trace_lines.specs.declared.line.Did.{Did}
use Rattle.trace_lines.specs.declared.line.Said2.{Said2}
use Rattle.law_run.specs.Exceptions.{InRaised, InOutcome, InErrors, InResult, InCall, InNext, InWait, InStanding, InData, InMessage, InDid, InReply}

module _ {X : Type 0} (P : X → Type 0) where
  -- what stands under a number
  pub at_is : (xs : List X) (n : ℕ) (otherwise : X) → All P xs → P otherwise → P (unwrap_or (slice_get xs n) otherwise)
  at_is [] n otherwise all it = it
  at_is (x ∷ xs) zero otherwise all it = All-contains P (x ∷ xs) x all (zero, omega arith, refl)
  at_is (x ∷ xs) (suc n) otherwise all it = at_is xs n otherwise (λ k d below. all (suc k) d (omega (arith, below))) it

  pub all_head : (x : X) (xs : List X) → All P (x ∷ xs) → P x
  all_head x xs all = All-contains P (x ∷ xs) x all (zero, omega arith, refl)

  pub all_tail : (x : X) (xs : List X) → All P (x ∷ xs) → All P xs
  all_tail x xs all = λ k d below. all (suc k) d (omega (arith, below))

  pub all_but : {Q : X → Type 0} (xs : List X) → ((x : X) → P x → Q x) → All P xs → All Q xs
  all_but xs f all = λ k d below. f _ (all k d below)

  pub each_to_all : (xs : List X) → ((x : X) → Contains xs x → P x) → All P xs
  each_to_all xs each = λ k d below. each _ (All-contains_itself xs k d below)

-- of one alone
pub only_one : {X : Type 0} (x y : X) → Contains (x ∷ []) y → y ≡ x
only_one x y (zero, below, is) = sym is
only_one x y (suc k, below, is) = absurd (omega (arith, below))

-- ## All of a place

module _ (P : Member → Type 0) where
  abbrev pub AllRaised : Raised → Type 0
  AllRaised raised = (x : Member) → InRaised x raised → P x

  abbrev pub AllOutcome : Outcome → Type 0
  AllOutcome it = (x : Member) → InOutcome x it → P x

  abbrev pub AllErrors : Option Raised → Type 0
  AllErrors errors = (x : Member) → InErrors x errors → P x

  abbrev pub AllResult : Option Outcome → Type 0
  AllResult result = (x : Member) → InResult x result → P x

  abbrev pub AllCall : Ask → Type 0
  AllCall call = (x : Member) → InCall x call → P x

  abbrev pub AllNext : Next → Type 0
  AllNext next = (x : Member) → InNext x next → P x

  abbrev pub AllWait : Wait → Type 0
  AllWait wait = (x : Member) → InWait x wait → P x

  abbrev pub AllStanding : Standing → Type 0
  AllStanding standing = (x : Member) → InStanding x standing → P x

  abbrev pub AllData : Data → Type 0
  AllData values = (x : Member) → InData x values → P x

  abbrev pub AllMessage : Message → Type 0
  AllMessage it = (x : Member) → InMessage x it → P x

  abbrev pub AllDid : Did → Type 0
  AllDid it = (x : Member) → InDid x it → P x

  abbrev pub AllReply : Said2 → Type 0
  AllReply reply = (x : Member) → InReply x reply → P x

  -- a place without exceptions
  abbrev pub none : (x : Member) → ⊥ → P x
  none x i = absurd i

  pub all_one : (member : Member) → P member → AllRaised (One member)
  all_one member it x i = subst P (sym (only_one member x i)) it

  pub all_cancelled : (member : Member) → P member → AllRaised (Cancelled member)
  all_cancelled member it x i = subst P (sym (only_one member x i)) it

  -- ## Exceptions that join others

  members_raised : (members : List Member) (cut : Bool) → members_of (raised_of members cut) ≡ members
  members_raised [] cut = refl
  members_raised (x ∷ []) cut = refl
  members_raised (x ∷ y ∷ members) cut = refl

  all_at_most_eight : (members : List Member) (cut : Bool) → All P members → AllRaised (at_most_eight members cut)
  all_at_most_eight members cut all x i =
      All-contains P (take 8 members) x (All-take P 8 members all)
      (subst (λ (l : List Member). Contains l x) (members_raised (take 8 members) (cut || nat_lt 8 (length members))) i)

  all_more : (a b : Raised) → AllRaised a → AllRaised b → AllRaised (at_most_eight (members_of a ++ filter (is_new_to (members_of a)) (members_of b)) (is_cut a || is_cut b))
  all_more a b all_a all_b =
      all_at_most_eight (members_of a ++ filter (is_new_to (members_of a)) (members_of b)) (is_cut a || is_cut b)
      (All-append P (members_of a) (filter (is_new_to (members_of a)) (members_of b)) (each_to_all P (members_of a) all_a)
      (All-filter (is_new_to (members_of a)) P (members_of b) (each_to_all P (members_of b) all_b)))

  all_joining : (a b : Raised) → AllRaised a → AllRaised b → AllRaised (joining.joined a b)
  all_joining (Cancelled m) (Cancelled n) all_a all_b = all_a
  all_joining (Cancelled m) (One n) all_a all_b = all_b
  all_joining (Cancelled m) (Many several) all_a all_b = all_b
  all_joining (One m) (Cancelled n) all_a all_b = all_a
  all_joining (Many several) (Cancelled n) all_a all_b = all_a
  all_joining (One m) (One n) all_a all_b = all_more (One m) (One n) all_a all_b
  all_joining (One m) (Many others) all_a all_b = all_more (One m) (Many others) all_a all_b
  all_joining (Many several) (One n) all_a all_b = all_more (Many several) (One n) all_a all_b
  all_joining (Many several) (Many others) all_a all_b = all_more (Many several) (Many others) all_a all_b

  pub all_joined : (errors : Option Raised) (raised : Raised) → AllErrors errors → AllRaised raised → AllRaised (collected.joined errors raised)
  all_joined None raised all_errors all_raised = all_raised
  all_joined (Some a) raised all_errors all_raised = by (are_one_raise a raised)
    where
      by : (one : Bool) → AllRaised (elim one [ true ↦ a | false ↦ joining.joined a raised ])
      by true = all_errors
      by false = all_joining a raised all_errors all_raised
