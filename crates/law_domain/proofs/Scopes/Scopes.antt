-- What stays true of the scopes of a domain in each move.
-- A fiber in the ready list is ready, and stands there once; one with a timer sleeps, and has one timer. So nothing that has ended is moved on. A fiber that was
-- forked onto a switch and lives is attached to it; nothing is attached to a finished switch; and fibers close only switches that were opened.
-- The fibers in hand are those that a move has taken off the ready list, or made, and not yet put anywhere.
use Rattle.std.proofs.Common.{◌≡◌, ℕ, zero, suc, ◌+◌, ◌≤◌, ◌<◌, Bool, true, false, List, [], ◌∷◌, ◌++◌, length, Some, None, refl, sym, ap, subst, arith, slice_set, slice_get}
use Rattle.std.specs.Prelude.{map, unwrap_or}
use Rattle.eio_value.specs.declared.message.Waiter.{Waiter}
use Rattle.spec_parts.specs.Groups.{Group}
use Rattle.spec_parts.specs.Switches.{Switch, switch_at}
use Rattle.spec_parts.specs.Timers.{Timer}
use Rattle.spec_fiber.specs.Asks as ask
use Rattle.spec_fiber.specs.Asks.{Ask}
use Rattle.spec_fiber.specs.Work.{Work, Close, Closing}
use Rattle.spec_machine.specs.Domain.{OfSwitch, Next, CallsAgain, Wait, OnObject, Asleep, ForOthers, Standing, Ready, Parked, Ended, Fiber, DomainState, fiber_at}
use Rattle.law_domain.proofs.Scopes.Counts.{times}
use Rattle.law_domain.proofs.Scopes.Gathered.{Gathered, IsJoined}

-- ## Marks of switches

-- all switches that this work closes have numbers below a bound
abbrev pub Closes : (bound : ℕ) → List Work → Type 0
Closes bound [] = Unit {0}
Closes bound (Close switch keep ∷ work) = (switch < bound) × Closes bound work
Closes bound (Closing switch kept ∷ work) = (switch < bound) × Closes bound work
Closes bound (mark ∷ work) = Closes bound work

abbrev pub ClosesCall : (bound : ℕ) → Ask → Type 0
ClosesCall bound (ask.Close switch came kept) = switch < bound
ClosesCall bound call = Unit {0}

-- a call that a fiber is to make again, which joins no branch of its own, and only a group that was made
abbrev pub JoinsCall : (bound : ℕ) → Ask → Type 0
JoinsCall bound (ask.Join group None) = group < bound
JoinsCall bound (ask.Join group (Some result)) = ⊥
JoinsCall bound call = Unit {0}

abbrev pub ClosesNext : (switches groups : ℕ) → Next → Type 0
ClosesNext s n (CallsAgain call) = ClosesCall s call × JoinsCall n call
ClosesNext s n next = Unit {0}

abbrev pub ClosesWait : (switches groups : ℕ) → Wait → Type 0
ClosesWait s n (ForOthers call) = ClosesCall s call × JoinsCall n call
ClosesWait s n wait = Unit {0}

abbrev pub ClosesStanding : (switches groups : ℕ) → Standing → Type 0
ClosesStanding s n (Ready next) = ClosesNext s n next
ClosesStanding s n (Parked wait) = ClosesWait s n wait
ClosesStanding s n (Ended it) = Unit {0}

pub closes_more : (low high : ℕ) → low ≤ high → (work : List Work) → Closes low work → Closes high work
closes_more low high le [] h = tt
closes_more low high le (Close switch keep ∷ work) h = (omega (arith, h.0), closes_more low high le work h.1)
closes_more low high le (Closing switch kept ∷ work) h = (omega (arith, h.0), closes_more low high le work h.1)
closes_more low high le (mark ∷ work) h = closes_more low high le work h

call_more : (low high : ℕ) → low ≤ high → (call : Ask) → ClosesCall low call → ClosesCall high call
call_more low high le (ask.Close switch came kept) h = omega (arith, h)
call_more low high le call h = tt

joins_more : (low high : ℕ) → low ≤ high → (call : Ask) → JoinsCall low call → JoinsCall high call
joins_more low high le (ask.Join group None) h = omega (arith, h)
joins_more low high le (ask.Join group (Some result)) h = absurd h
joins_more low high le call h = tt

pub standing_more : (s n s_high n_high : ℕ) → s ≤ s_high → n ≤ n_high → (standing : Standing) → ClosesStanding s n standing → ClosesStanding s_high n_high standing
standing_more s n s_high n_high le more (Ready (CallsAgain call)) h = (call_more s s_high le call h.0, joins_more n n_high more call h.1)
standing_more s n s_high n_high le more (Ready next) h = tt
standing_more s n s_high n_high le more (Parked (ForOthers call)) h = (call_more s s_high le call h.0, joins_more n n_high more call h.1)
standing_more s n s_high n_high le more (Parked wait) h = tt
standing_more s n s_high n_high le more (Ended it) h = tt

-- ## The part of a domain that is looked at

-- and the groups in which an end has come that isn't counted yet
pub record View : Type 0 where
  pub fibers : List Fiber
  pub ready : List ℕ
  pub sleeping : List Timer
  pub switches : List Switch
  pub groups : List Group
  pub debts : List ℕ

abbrev pub view : DomainState → View
view l = record { fibers = l.fibers; ready = l.ready; sleeping = l.timers.standing; switches = l.switches; groups = l.groups; debts = [] }

abbrev pub owing_view : (debts : List ℕ) → DomainState → View
owing_view debts l = record { fibers = l.fibers; ready = l.ready; sleeping = l.timers.standing; switches = l.switches; groups = l.groups; debts = debts }

abbrev pub standing_at : View → ℕ → Standing
standing_at v x = (fiber_at v.fibers x).standing

abbrev pub sleepers : List Timer → List ℕ
sleepers timers = map (λ timer. timer.fiber) timers

abbrev pub attached_to : (daemon : Bool) → Switch → List ℕ
attached_to true switch = switch.daemons
attached_to false switch = switch.fibers

abbrev pub is_over : Standing → Bool
is_over standing = elim standing [ Ended it ↦ true | Ready next ↦ false | Parked wait ↦ false ]

abbrev pub IsReady : Standing → Type 0
IsReady (Ready next) = Unit {0}
IsReady standing = ⊥

-- nothing is attached to a finished switch
abbrev pub IsEmptied : Switch → Type 0
IsEmptied switch = switch.finished ≡ true → (switch.fibers ≡ []) × (switch.daemons ≡ [])

pub record Sound (hand : List ℕ) (v : View) : Type 0 where
  pub once : (x : ℕ) → times x hand + times x v.ready ≤ 1
  pub ready : (x : ℕ) → 0 < times x hand + times x v.ready → IsReady (standing_at v x)
  pub slept : (x : ℕ) → times x (sleepers v.sleeping) ≤ 1
  pub asleep : (x : ℕ) → 0 < times x (sleepers v.sleeping) → standing_at v x ≡ Parked Asleep
  pub attached : (n x : ℕ) (daemon : Bool) → (fiber_at v.fibers x).role ≡ OfSwitch n daemon → is_over (standing_at v x) ≡ false → 0 < times x (attached_to daemon (switch_at v.switches n))
  pub emptied : (n : ℕ) → IsEmptied (switch_at v.switches n)
  pub marks : (x : ℕ) → Closes (length v.switches) (fiber_at v.fibers x).work
  pub calls : (x : ℕ) → ClosesStanding (length v.switches) (length v.groups) (standing_at v x)
  pub gathered : Gathered v.fibers v.groups v.debts

-- a switch that was opened has finished
pub record IsFinished (switches : List Switch) (n : ℕ) : Type 0 where
  pub opened : n < length switches
  pub finished : (switch_at switches n).finished ≡ true

-- a switch or a group; or the number of a switch that was opened
pub data Tracked : Type 0 where
  OnSwitch : (switch : ℕ) → Tracked
  OnGroup : (group : ℕ) → Tracked
  IsOpened : (switch : ℕ) → Tracked

-- a scope that is over stays so
abbrev pub IsOver : List Switch → List Group → Tracked → Type 0
IsOver switches groups (OnSwitch n) = IsFinished switches n
IsOver switches groups (OnGroup n) = IsJoined groups n
IsOver switches groups (IsOpened n) = n < length switches

-- what a part of a move leaves
pub record Goes (v : View) (next : List ℕ) (w : View) : Type 0 where
  pub sound : Sound next w
  pub waits : (x : ℕ) (who : Waiter) → standing_at v x ≡ Parked (OnObject who) → standing_at w x ≡ Parked (OnObject who)
  pub finished : (n : Tracked) → IsOver v.switches v.groups n → IsOver w.switches w.groups n
  pub made : length v.switches ≤ length w.switches
  pub gathers : length v.groups ≤ length w.groups

-- a part of a move leads from here to there
abbrev pub Leads : (hand : List ℕ) → View → (next : List ℕ) → View → Type 0
Leads hand v next w = Sound hand v → Goes v next w

pub stays : (hand : List ℕ) (v : View) → Leads hand v hand v
stays hand v h = record { sound = h; waits = (λ x who is. is); finished = (λ n it. it); made = omega arith; gathers = omega arith }

pub both : {mid next : List ℕ} {v u w : View} → Goes v mid u → (Sound mid u → Goes u next w) → Goes v next w
both first second =
    let rest = second first.sound in
    record {
      sound = rest.sound;
      waits = (λ x who is. rest.waits x who (first.waits x who is));
      finished = (λ n it. rest.finished n (first.finished n it));
      made = omega (arith, first.made, rest.made);
      gathers = omega (arith, first.gathers, rest.gathers);
    }

-- ## Places of a list

-- what stands at a place of a list in which one was put
pub data SetAt {A : Type 0} (d : A) (xs : List A) (k x : ℕ) (a : A) : Type 0 where
  Here : x ≡ k → unwrap_or (slice_get (slice_set xs k a) x) d ≡ a → SetAt d xs k x a
  There : unwrap_or (slice_get (slice_set xs k a) x) d ≡ unwrap_or (slice_get xs x) d → SetAt d xs k x a

pub set_at : {A : Type 0} (d : A) (xs : List A) (k x : ℕ) (a : A) → SetAt d xs k x a
set_at d [] k x a = There refl
set_at d (b ∷ xs) zero zero a = Here refl refl
set_at d (b ∷ xs) zero (suc x) a = There refl
set_at d (b ∷ xs) (suc k) zero a = There refl
set_at d (b ∷ xs) (suc k) (suc x) a = by (set_at d xs k x a)
  where
    by : SetAt d xs k x a → SetAt d (b ∷ xs) (suc k) (suc x) a
    by (Here same is) = Here (ap suc same) is
    by (There is) = There is

pub set_same : {A : Type 0} (d : A) (xs : List A) (k : ℕ) (a : A) → k < length xs → unwrap_or (slice_get (slice_set xs k a) k) d ≡ a
set_same d [] k a within = absurd (omega arith)
set_same d (b ∷ xs) zero a within = refl
set_same d (b ∷ xs) (suc k) a within = set_same d xs k a (omega arith)

pub set_other : {A : Type 0} (d : A) (xs : List A) (k x : ℕ) (a : A) → (x ≡ k → ⊥) → unwrap_or (slice_get (slice_set xs k a) x) d ≡ unwrap_or (slice_get xs x) d
set_other d xs k x a other = by (set_at d xs k x a)
  where
    by : SetAt d xs k x a → unwrap_or (slice_get (slice_set xs k a) x) d ≡ unwrap_or (slice_get xs x) d
    by (Here same is) = absurd (other same)
    by (There is) = is

pub set_length : {A : Type 0} (xs : List A) (k : ℕ) (a : A) → length (slice_set xs k a) ≡ length xs
set_length [] k a = refl
set_length (b ∷ xs) zero a = refl
set_length (b ∷ xs) (suc k) a = ap suc (set_length xs k a)

-- a property that the new one shares with the old one holds at each place as it did
pub set_keeps : {A : Type 0} (P : A → Type 0) (d : A) (xs : List A) (k x : ℕ) (a : A) → (P (unwrap_or (slice_get xs k) d) → P a) → P (unwrap_or (slice_get xs x) d) → P (unwrap_or (slice_get (slice_set xs k a) x) d)
set_keeps P d xs k x a keeps h = by (set_at d xs k x a)
  where
    by : SetAt d xs k x a → P (unwrap_or (slice_get (slice_set xs k a) x) d)
    by (Here same is) = subst P (sym is) (keeps (subst (λ (n : ℕ). P (unwrap_or (slice_get xs n) d)) same h))
    by (There is) = subst P (sym is) h

-- what stands at a place of a list to which one was added
pub data AddedAt {A : Type 0} (d : A) (xs : List A) (x : ℕ) (a : A) : Type 0 where
  Last : x ≡ length xs → unwrap_or (slice_get (xs ++ a ∷ []) x) d ≡ a → AddedAt d xs x a
  Before : unwrap_or (slice_get (xs ++ a ∷ []) x) d ≡ unwrap_or (slice_get xs x) d → AddedAt d xs x a

pub added_at : {A : Type 0} (d : A) (xs : List A) (x : ℕ) (a : A) → AddedAt d xs x a
added_at d [] zero a = Last refl refl
added_at d [] (suc x) a = Before refl
added_at d (b ∷ xs) zero a = Before refl
added_at d (b ∷ xs) (suc x) a = by (added_at d xs x a)
  where
    by : AddedAt d xs x a → AddedAt d (b ∷ xs) (suc x) a
    by (Last same is) = Last (ap suc same) is
    by (Before is) = Before is

pub added_last : {A : Type 0} (d : A) (xs : List A) (a : A) → unwrap_or (slice_get (xs ++ a ∷ []) (length xs)) d ≡ a
added_last d [] a = refl
added_last d (b ∷ xs) a = added_last d xs a

pub past : {A : Type 0} (d : A) (xs : List A) → unwrap_or (slice_get xs (length xs)) d ≡ d
past d [] = refl
past d (b ∷ xs) = past d xs

pub within : {A : Type 0} (P : A → Type 0) (d : A) (xs : List A) (x : ℕ) → (P d → ⊥) → P (unwrap_or (slice_get xs x) d) → x < length xs
within P d [] x never h = absurd (never h)
within P d (b ∷ xs) zero never h = omega arith
within P d (b ∷ xs) (suc x) never h = let rest : x < length xs = within P d xs x never h in omega arith
