-- How many branches of a group are still to end.
-- Each branch that a fiber of its own runs ends with that fiber, and the caller's own one at the mark in its work. A debt is an end that has come and isn't counted yet.
use Rattle.std.proofs.Common.{◌≡◌, ℕ, zero, suc, ◌+◌, ◌-◌, ◌≤◌, ◌<◌, List, [], ◌∷◌, ◌++◌, length, Option, Some, None, refl, ap, ◌∙◌, arith, slice_set}
use Rattle.spec_parts.specs.Groups.{Group, group_at}
use Rattle.eio_value.specs.declared.raised.Outcome.{Outcome}
use Rattle.spec_fiber.specs.Asks as ask
use Rattle.spec_fiber.specs.Asks.{Ask}
use Rattle.spec_fiber.specs.Work.{Work, Join}
use Rattle.spec_machine.specs.Domain.{Role, OfGroup, Standing, Ready, Parked, Ended, Fiber, fiber_at, never_made}
use Rattle.law_domain.proofs.Scopes.Counts.{times, one, one_self}

-- ## Fibers of a group

abbrev pub member : (group : ℕ) → Role → ℕ
member n (OfGroup other) = one n other
member n role = 0

abbrev pub live_as : (group : ℕ) → Role → Standing → ℕ
live_as n role standing = elim standing [ Ended it ↦ 0 | Ready next ↦ member n role | Parked wait ↦ member n role ]

-- a fiber of the group that hasn't ended
abbrev pub live_in : (group : ℕ) → Fiber → ℕ
live_in n fiber = live_as n fiber.role fiber.standing

-- the marks of the group in work
abbrev pub joining : (group : ℕ) → List Work → ℕ
joining n [] = 0
joining n (Join other keep ∷ work) = one n other + joining n work
joining n (mark ∷ work) = joining n work

abbrev pub total : (Fiber → ℕ) → List Fiber → ℕ
total weight [] = 0
total weight (fiber ∷ fibers) = weight fiber + total weight fibers

abbrev pub lives : (group : ℕ) → List Fiber → ℕ
lives n fibers = total (live_in n) fibers

abbrev pub owns : (group : ℕ) → List Fiber → ℕ
owns n fibers = total (λ fiber. joining n fiber.work) fibers

pub live_most : (n : ℕ) (role : Role) (standing : Standing) → live_as n role standing ≤ member n role
live_most n role (Ended it) = omega arith
live_most n role (Ready next) = omega arith
live_most n role (Parked wait) = omega arith

pub live_same : (n : ℕ) (f k : Fiber) → f.role ≡ k.role → f.standing ≡ k.standing → live_in n f ≡ live_in n k
live_same n f k role standing = ap (λ (r : Role). live_as n r f.standing) role ∙ ap (live_as n k.role) standing

-- ## Sums

pub total_set : (weight : Fiber → ℕ) (fibers : List Fiber) (g : ℕ) (f : Fiber) (gain loss : ℕ) → weight never_made ≡ 0 → weight f + gain ≤ weight (fiber_at fibers g) + loss
    → total weight (slice_set fibers g f) + gain ≤ total weight fibers + loss
total_set weight [] g f gain loss none less = omega (arith, none, less)
total_set weight (k ∷ fibers) zero f gain loss none less = omega (arith, less)
total_set weight (k ∷ fibers) (suc g) f gain loss none less =
    let rest : total weight (slice_set fibers g f) + gain ≤ total weight fibers + loss = total_set weight fibers g f gain loss none less in omega (arith, rest)

pub total_more : (weight : Fiber → ℕ) (fibers : List Fiber) (f : Fiber) → total weight (fibers ++ f ∷ []) ≡ total weight fibers + weight f
total_more weight [] f = omega arith
total_more weight (k ∷ fibers) f = let rest : total weight (fibers ++ f ∷ []) ≡ total weight fibers + weight f = total_more weight fibers f in omega (arith, rest)

pub at_most : (weight : Fiber → ℕ) (fibers : List Fiber) (g : ℕ) → weight never_made ≡ 0 → weight (fiber_at fibers g) ≤ total weight fibers
at_most weight [] g none = omega (arith, none)
at_most weight (k ∷ fibers) zero none = omega arith
at_most weight (k ∷ fibers) (suc g) none = let rest : weight (fiber_at fibers g) ≤ total weight fibers = at_most weight fibers g none in omega (arith, rest)

-- ## What holds of groups

-- as long as a fiber of a group lives, at least as many branches are left as ends will come; and a number that no group has is nobody's
pub record Gathered (fibers : List Fiber) (groups : List Group) (debts : List ℕ) : Type 0 where
  pub counted : (n : ℕ) → 0 < lives n fibers → lives n fibers + owns n fibers + times n debts ≤ (group_at groups n).left
  pub fresh : (n : ℕ) → length groups ≤ n → lives n fibers + owns n fibers + times n debts ≡ 0

-- no more ends will come
pub shifted : (fibers later : List Fiber) (groups : List Group) (debts next : List ℕ) → ((n : ℕ) → lives n later ≤ lives n fibers)
    → ((n : ℕ) → lives n later + owns n later + times n next ≤ lives n fibers + owns n fibers + times n debts) → Gathered fibers groups debts → Gathered later groups next
shifted fibers later groups debts next fewer less h = record {
  counted = (λ n some. omega (arith, less n, h.counted n (omega (arith, some, fewer n))));
  fresh = (λ n past. omega (arith, less n, h.fresh n past));
}

-- a fiber is another one, which lives as a fiber of no other group
pub set_gathered : (fibers : List Fiber) (groups : List Group) (debts next : List ℕ) (g : ℕ) (f : Fiber) → ((n : ℕ) → live_in n f ≤ live_in n (fiber_at fibers g))
    → ((n : ℕ) → joining n f.work + times n next ≤ joining n (fiber_at fibers g).work + times n debts) → Gathered fibers groups debts → Gathered (slice_set fibers g f) groups next
set_gathered fibers groups debts next g f live less = shifted fibers (slice_set fibers g f) groups debts next fewer (λ n. omega (arith, fewer n, works n))
  where
    fewer : (n : ℕ) → lives n (slice_set fibers g f) ≤ lives n fibers
    fewer n = (let most : lives n (slice_set fibers g f) + 0 ≤ lives n fibers + 0 = total_set (live_in n) fibers g f 0 0 refl (omega (arith, live n)) in omega (arith, most))

    works : (n : ℕ) → owns n (slice_set fibers g f) + times n next ≤ owns n fibers + times n debts
    works n = total_set (λ (k : Fiber). joining n k.work) fibers g f (times n next) (times n debts) refl (less n)

-- ## Ends

-- the end of a fiber that was made for a group is one that is to be counted
abbrev pub owed_by : Role → List ℕ → List ℕ
owed_by (OfGroup n) debts = n ∷ debts
owed_by role debts = debts

owed_is : (n : ℕ) (role : Role) (debts : List ℕ) → times n (owed_by role debts) ≡ member n role + times n debts
owed_is n (OfGroup other) debts = refl
owed_is n role debts = omega arith

-- a fiber that lived has ended, with no work left
pub ended_gathered : (fibers : List Fiber) (groups : List Group) (debts : List ℕ) (g : ℕ) (f : Fiber) → ((n : ℕ) → live_in n f ≡ 0) → ((n : ℕ) → live_in n (fiber_at fibers g) ≡ member n (fiber_at fibers g).role) → f.work ≡ []
    → Gathered fibers groups debts → Gathered (slice_set fibers g f) groups (owed_by (fiber_at fibers g).role debts)
ended_gathered fibers groups debts g f over lived none =
    shifted fibers (slice_set fibers g f) groups debts (owed_by (fiber_at fibers g).role debts) (λ n. omega (arith, fewer n)) (λ n. omega (arith, fewer n, works n, owed_is n (fiber_at fibers g).role debts))
  where
    fewer : (n : ℕ) → lives n (slice_set fibers g f) + member n (fiber_at fibers g).role ≤ lives n fibers + 0
    fewer n = total_set (live_in n) fibers g f (member n (fiber_at fibers g).role) 0 refl (omega (arith, over n, lived n))

    no_marks : (n : ℕ) → joining n f.work ≡ 0
    no_marks n = ap (joining n) none

    works : (n : ℕ) → owns n (slice_set fibers g f) + 0 ≤ owns n fibers + 0
    works n = total_set (λ (k : Fiber). joining n k.work) fibers g f 0 0 refl (omega (arith, no_marks n))

-- the call at the end of the caller's own branch counts that end
abbrev pub owed_own : (group : ℕ) → Option Outcome → List ℕ
owed_own n None = []
owed_own n (Some result) = n ∷ []

abbrev pub owed_call : Ask → List ℕ
owed_call (ask.Join n own) = owed_own n own
owed_call call = []

-- a further call joins a group that was made
abbrev pub JoinsOwn : (bound group : ℕ) → Option Outcome → Type 0
JoinsOwn bound n None = n < bound
JoinsOwn bound n (Some result) = Unit {0}

abbrev pub JoinsMade : (bound : ℕ) → Ask → Type 0
JoinsMade bound (ask.Join n own) = JoinsOwn bound n own
JoinsMade bound call = Unit {0}

-- who owes something to a group owes it to one that was made
pub owed_inside : (fibers : List Fiber) (groups : List Group) (n : ℕ) (own : Option Outcome) → JoinsOwn (length groups) n own → Gathered fibers groups (owed_own n own) → n < length groups
owed_inside fibers groups n None made h = made
owed_inside fibers groups n (Some result) made h = by (length groups - n) refl
  where
    by : (k : ℕ) → length groups - n ≡ k → n < length groups
    by (suc k) is = omega (arith, is)
    by zero is = absurd (omega (arith, h.fresh n (omega (arith, is)), one_self n))

-- ## New fibers

-- a new fiber for a group ends what was owed to it before, and there is room for it
pub record Credited (f : Fiber) (fibers : List Fiber) (groups : List Group) (debts next : List ℕ) : Type 0 where
  pub credit : (n : ℕ) → member n f.role + times n next ≤ times n debts
  pub room : (n : ℕ) → 0 < member n f.role → lives n fibers + owns n fibers + times n debts ≤ (group_at groups n).left
  pub unmarked : (n : ℕ) → joining n f.work ≡ 0

pub made_gathered : (f : Fiber) (fibers : List Fiber) (groups : List Group) (debts next : List ℕ) → Credited f fibers groups debts next → Gathered fibers groups debts → Gathered (fibers ++ f ∷ []) groups next
made_gathered f fibers groups debts next it h = record {
  counted = (λ n some. counted_by n (member n f.role) refl some);
  fresh = (λ n past. omega (arith, lives_are n, owns_are n, live_most n f.role f.standing, it.credit n, it.unmarked n, h.fresh n past));
}
  where
    lives_are : (n : ℕ) → lives n (fibers ++ f ∷ []) ≡ lives n fibers + live_in n f
    lives_are n = total_more (live_in n) fibers f

    owns_are : (n : ℕ) → owns n (fibers ++ f ∷ []) ≡ owns n fibers + joining n f.work
    owns_are n = total_more (λ (k : Fiber). joining n k.work) fibers f

    counted_by : (n count : ℕ) → member n f.role ≡ count → 0 < lives n (fibers ++ f ∷ []) → lives n (fibers ++ f ∷ []) + owns n (fibers ++ f ∷ []) + times n next ≤ (group_at groups n).left
    counted_by n zero is some =
        omega (arith, is, lives_are n, owns_are n, live_most n f.role f.standing, it.credit n, it.unmarked n, h.counted n (omega (arith, is, some, lives_are n, live_most n f.role f.standing)))
    counted_by n (suc count) is some = omega (arith, lives_are n, owns_are n, live_most n f.role f.standing, it.credit n, it.unmarked n, it.room n (omega (arith, is)))

-- a fiber of no group owes nothing
pub uncredited : (f : Fiber) (fibers : List Fiber) (groups : List Group) (debts : List ℕ) → ((n : ℕ) → member n f.role ≡ 0) → ((n : ℕ) → joining n f.work ≡ 0) → Credited f fibers groups debts debts
uncredited f fibers groups debts none unmarked = record { credit = (λ n. omega (arith, none n)); room = (λ n some. absurd (omega (arith, some, none n))); unmarked = unmarked }

-- so many more debts to one group
abbrev pub owing : (group count : ℕ) → List ℕ → List ℕ
owing n zero debts = debts
owing n (suc count) debts = n ∷ owing n count debts

pub owing_here : (n count : ℕ) (debts : List ℕ) → times n (owing n count debts) ≡ count + times n debts
owing_here n zero debts = omega arith
owing_here n (suc count) debts = omega (arith, one_self n, owing_here n count debts)

pub owing_elsewhere : (m n count : ℕ) (debts : List ℕ) → one m n ≡ 0 → times m (owing n count debts) ≡ times m debts
owing_elsewhere m n zero debts none = refl
owing_elsewhere m n (suc count) debts none = omega (arith, none, owing_elsewhere m n count debts none)

-- ## Groups that are over

-- no branch of a group that was made is left
pub record IsJoined (groups : List Group) (n : ℕ) : Type 0 where
  pub gathered : n < length groups
  pub over : (group_at groups n).left ≡ 0
