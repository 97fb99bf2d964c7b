-- The numbers of raises in runs. All that a move raises has numbers of its own, so no two raises of a run share one.
use Rattle.std.proofs.Common.{◌≡◌, ℕ, zero, suc, ◌≤◌, ◌<◌, ◌⊎◌, inl, inr, Bool, true, false, Option, Some, None, refl, sym, ap, ◌∙◌, subst, arith, List, [], ◌∷◌, ◌++◌, ◌+◌}
use Rattle.std.specs.Prelude.{get_or}
use Rattle.std.specs.List.{All, Contains}
use Rattle.std.proofs.lemmas.List.Elements.{All-map, All-contains, Contains-append_left, Contains-append_right}
use Rattle.eio_value.specs.declared.plain.Member.{Member}
use Rattle.spec_parts.specs.Row.{Row}
use Rattle.spec_script.specs.Declarations.{Declaration}
use Rattle.spec_script.specs.Declarations as declared
use Rattle.spec_script.specs.Scripts.{Script}
use Rattle.spec_machine.specs.Domain.{Fiber, Owed, Strike, Wake, Start}
use Rattle.spec_machine.specs.Mock.{Mock, Moved, opening, most_jobs, move, moves}
use Rattle.spec_machine.specs.Shared.{declared_row}
use Rattle.spec_machine.specs.Trace.{last_after, run}
use Rattle.law_run.specs.Exceptions.{InStanding, InData, IsIn, InFiber, InSwitch, InGroup, InObject, InPost, IsTold, InItsCall, InItsReply}
use Rattle.law_run.specs.Serials.{SerialsRise, AreNumbered, RaisesAreCounted, SerialsRiseByRaises, IsRaisedBy, NumbersAreNotReused, RaisesAreNumbered, LinesTellNumbered, HasOwnNumbers, RaisesAreApart}
use Rattle.law_run.proofs.Beginnings.{from, moves_on}
use Rattle.law_run.proofs.Places.{each_to_all, AllMessage}
use Rattle.law_run.proofs.Settling.{Born, IsListed, With, numbered_rises, numbered_append, numbered_contains, numbered_count, born_of}
use Rattle.law_run.proofs.Standings.{DutyFits, FiberIs, SwitchIs, GroupIs, Stands}
use Rattle.law_run.proofs.Sharing.{kinds_of, RowIs, Shares}
use Rattle.law_run.proofs.Raises.{Raises, move_raises}

-- ## The counter

-- of any state, since nothing is asked of the exceptions that stand there
raises_anywhere : (script : Script) (m : Mock) (moved : Moved) → move script m ≡ Some moved → Raises (λ x. Unit {0}) (λ object. false) script m moved
raises_anywhere script m moved is =
    move_raises (λ x. Unit {0}) (λ object. false) script m (λ object same. refl) (λ object same. inr (λ x. tt))
    (refl, (λ k d below. fits (get_or m.local.duties k d).owed), (λ k d below x i. tt), (λ k d below x i. tt), (λ k d below x i. tt))
    ((λ k d below x i. tt), (λ receiver sender k d below x i. tt)) moved is
  where
    fits : (owed : Owed) → DutyFits (λ x. Unit {0}) (λ object. false) 0 (record { maker = 0; owed = owed })
    fits (Strike g) = tt
    fits (Wake object true) = tt
    fits (Wake object false) = refl
    fits (Start executor) = tt

pub raises_are_counted : RaisesAreCounted
raises_are_counted script m moved is =
    let raises : Raises (λ x. Unit {0}) (λ object. false) script m moved = raises_anywhere script m moved is in
    subst (λ all. AreNumbered m.local.serial all moved.next.local.serial) (sym raises.all)
    (numbered_append m.local.serial raises.before raises.middle raises.behind moved.next.local.serial raises.first_range.0 raises.second_range.0)

pub serials_rise_by_raises : SerialsRiseByRaises
serials_rise_by_raises script m moved is = numbered_count m.local.serial moved.raises moved.next.local.serial (raises_are_counted script m moved is)

pub serials_rise : SerialsRise
serials_rise script m moved is = numbered_rises m.local.serial moved.raises moved.next.local.serial (raises_are_counted script m moved is)

-- ## One more

old_or_new : (P : Member → Type 0) (raises : List Member) (born : Option Member) → IsListed raises born → (x : Member) → With P born x → P x ⊎ Contains raises x
old_or_new P raises None listed x it = inl it
old_or_new P raises (Some new) listed x (inl it) = inl it
old_or_new P raises (Some new) listed x (inr same) = inr (subst (Contains raises) (sym same) listed)

module _ (P : Member → Type 0) (from to : ℕ) where
  below_with : (born : Option Member) → Born from to born → ((x : Member) → P x → x.serial < from) → (x : Member) → With P born x → x.serial < to
  below_with None range below x it = omega (arith, below x it, range)
  below_with (Some new) range below x (inl it) = omega (arith, below x it, range.0, range.1)
  below_with (Some new) range below x (inr same) = let e : x.serial ≡ new.serial = ap (λ (y : Member). y.serial) same in omega (arith, e, range.1)

  own_with : (born : Option Member) → Born from to born → ((x : Member) → P x → x.serial < from) → ((x y : Member) → P x → P y → x.serial ≡ y.serial → x ≡ y)
      → (x y : Member) → With P born x → With P born y → x.serial ≡ y.serial → x ≡ y
  own_with None range below own x y it other e = own x y it other e
  own_with (Some new) range below own x y (inl it) (inl other) e = own x y it other e
  own_with (Some new) range below own x y (inl it) (inr same) e = let f : y.serial ≡ new.serial = ap (λ (z : Member). z.serial) same in absurd (omega (arith, e, f, below x it, range.0))
  own_with (Some new) range below own x y (inr same) (inl other) e = let f : x.serial ≡ new.serial = ap (λ (z : Member). z.serial) same in absurd (omega (arith, e, f, below y other, range.0))
  own_with (Some new) range below own x y (inr same) (inr also) e = same ∙ sym also

-- ## States

-- wakes are owed by the kinds of their objects
pub record Fits (kinds : ℕ → Bool) (m : Mock) : Type 0 where
  pub duties : All (DutyFits (λ x. Unit {0}) kinds 0) m.local.duties
  pub same : (n : ℕ) → kinds_of m.shared.rows n ≡ kinds n

module _ (kinds : ℕ → Bool) (script : Script) (m : Mock) where
  itself_stands : Fits kinds m → Stands (λ x. IsIn x m) kinds m.local.serial m.local
  itself_stands fits = (
    refl,
    fits.duties,
    each_to_all (FiberIs (λ x. IsIn x m) kinds 0) m.local.fibers (λ fiber stands x i. InFiber fiber stands i),
    each_to_all (SwitchIs (λ x. IsIn x m) kinds 0) m.local.switches (λ switch stands x i. InSwitch switch stands i),
    each_to_all (GroupIs (λ x. IsIn x m) kinds 0) m.local.groups (λ group stands x i. InGroup group stands i),
  )

  itself_shares : Shares (λ x. IsIn x m) m.shared
  itself_shares = (
    each_to_all (RowIs (λ x. IsIn x m)) m.shared.rows (λ row stands x i. InObject row stands i),
    λ receiver sender. each_to_all (AllMessage (λ x. IsIn x m)) (m.shared.posts receiver sender) (λ one stands x i. InPost receiver sender one stands i),
  )

  pub raises_of_fitting : Fits kinds m → (moved : Moved) → move script m ≡ Some moved → Raises (λ x. IsIn x m) kinds script m moved
  raises_of_fitting fits moved is =
      move_raises (λ x. IsIn x m) kinds script m (λ object same. sym (fits.same object) ∙ same) (λ object same. inl (fits.same object ∙ same)) (itself_stands fits) itself_shares moved is

-- what holds of all exceptions of a state holds of each
pub each_in : (P : Member → Type 0) (kinds : ℕ → Bool) (s : ℕ) (m : Mock) → Stands P kinds s m.local → Shares P m.shared → (x : Member) → IsIn x m → P x
each_in P kinds s m h shares x (InFiber fiber stands i) = All-contains (FiberIs P kinds s) m.local.fibers fiber h.2 stands x i
each_in P kinds s m h shares x (InSwitch switch stands i) = All-contains (SwitchIs P kinds s) m.local.switches switch h.3 stands x i
each_in P kinds s m h shares x (InGroup group stands i) = All-contains (GroupIs P kinds s) m.local.groups group h.4 stands x i
each_in P kinds s m h shares x (InObject row stands i) = All-contains (RowIs P) m.shared.rows row shares.0 stands x i
each_in P kinds s m h shares x (InPost receiver sender one stands i) = All-contains (AllMessage P) (m.shared.posts receiver sender) one (shares.1 receiver sender) stands x i

module _ (kinds : ℕ → Bool) (script : Script) (m : Mock) (moved : Moved) (raises : Raises (λ x. IsIn x m) kinds script m moved) where
  in_next : (x : Member) → IsIn x moved.next → With (With (λ x. IsIn x m) raises.first) raises.second x
  in_next x i = each_in (With (With (λ x. IsIn x m) raises.first) raises.second) kinds moved.next.local.serial moved.next raises.stands raises.shares x i

  raised_by : move script m ≡ Some moved → (x : Member) → Contains (raises.before ++ raises.behind) x → IsRaisedBy m moved x
  raised_by is x it =
      let listed : Contains moved.raises x = subst (λ all. Contains all x) (sym raises.all) it in
      let range : (m.local.serial ≤ x.serial) × (x.serial < moved.next.local.serial) = numbered_contains m.local.serial moved.raises moved.next.local.serial x (raises_are_counted script m moved is) listed in
      record { listed = listed; from = range.0; below = range.1 }

  -- what stood there or was raised in one of the two parts
  old_or_raised : move script m ≡ Some moved → (x : Member) → With (With (λ x. IsIn x m) raises.first) raises.second x → IsIn x m ⊎ IsRaisedBy m moved x
  old_or_raised is x it = by (old_or_new (With (λ x. IsIn x m) raises.first) raises.behind raises.second raises.second_range.1 x it)
    where
      by_first : IsIn x m ⊎ Contains raises.before x → IsIn x m ⊎ IsRaisedBy m moved x
      by_first (inl old) = inl old
      by_first (inr new) = inr (raised_by is x (Contains-append_left raises.before raises.behind x new))

      by : With (λ x. IsIn x m) raises.first x ⊎ Contains raises.behind x → IsIn x m ⊎ IsRaisedBy m moved x
      by (inl it) = by_first (old_or_new (λ x. IsIn x m) raises.before raises.first raises.first_range.1 x it)
      by (inr new) = inr (raised_by is x (Contains-append_right raises.before raises.behind x new))

  pub next_is_numbered : move script m ≡ Some moved → (x : Member) → IsIn x moved.next → IsIn x m ⊎ IsRaisedBy m moved x
  next_is_numbered is x i = old_or_raised is x (in_next x i)

  pub line_is_numbered : move script m ≡ Some moved → (x : Member) → IsTold x moved.line → IsIn x m ⊎ IsRaisedBy m moved x
  line_is_numbered is x (InItsCall i) = old_or_raised is x (raises.call x i)
  line_is_numbered is x (InItsReply i) = old_or_raised is x (raises.reply x i)

  pub next_fits : Fits kinds m → Fits kinds moved.next
  next_fits fits = record { duties = raises.stands.1; same = (λ n. raises.same_kinds n ∙ fits.same n) }

  pub next_has_own : HasOwnNumbers m → HasOwnNumbers moved.next
  next_has_own before =
      let P : Member → Type 0 = λ x. IsIn x m in
      let Q : Member → Type 0 = With P raises.first in
      let first : Born m.local.serial raises.middle raises.first = born_of m.local.serial raises.before raises.middle raises.first raises.first_range in
      let second : Born raises.middle moved.next.local.serial raises.second = born_of raises.middle raises.behind moved.next.local.serial raises.second raises.second_range in
      let below_middle : (x : Member) → Q x → x.serial < raises.middle = below_with P m.local.serial raises.middle raises.first first before.below in
      record {
        below = (λ x i. below_with Q raises.middle moved.next.local.serial raises.second second below_middle x (in_next x i));
        own = (λ x y i j e. own_with Q raises.middle moved.next.local.serial raises.second second below_middle
            (own_with P m.local.serial raises.middle raises.first first before.below before.own) x y (in_next x i) (in_next y j) e);
      }

-- ## Runs

-- what each move keeps holds of the last state of a run
pub runs_keep : (I : Mock → Type 0) (script : Script) → ((m : Mock) (moved : Moved) → I m → move script m ≡ Some moved → I moved.next) → (n : ℕ) (m : Mock) → I m → I (last_after m (moves script n m))
unfolding moves
runs_keep I script keeps zero m it = it
runs_keep I script keeps (suc n) m it = by (move script m) refl (runs_keep I script keeps n)
  where
    by : (first : Option Moved) → move script m ≡ first → ((next : Mock) → I next → I (last_after next (moves script n next))) → I (last_after m (from script n first))
    by None none rest = it
    by (Some moved) is rest = rest moved.next (keeps m moved it is)

module _ (script : Script) where
  abbrev kinds_at_first : ℕ → Bool
  kinds_at_first = kinds_of (opening script).shared.rows

  opening_fits : Fits kinds_at_first (opening script)
  opening_fits = record { duties = (λ k d below. absurd (omega (arith, below))); same = (λ n. refl) }

  nothing_declared : (declaration : Declaration) (x : Member) → InData x (declared_row (most_jobs script) declaration).values → ⊥
  nothing_declared (declared.Stream capacity) x i = i
  nothing_declared declared.Promise x i = i
  nothing_declared (declared.Semaphore count) x i = i
  nothing_declared declared.Mutex x i = i
  nothing_declared (declared.Pool size) x i = i
  nothing_declared (declared.Executor workers) x i = i
  nothing_declared (declared.Flow steps) x i = i
  nothing_declared (declared.Dir items) x i = i

  nothing_raised : (x : Member) → IsIn x (opening script) → ⊥
  nothing_raised x (InFiber fiber (zero, below, is) i) = subst (λ (f : Fiber). InStanding x f.standing) (sym is) i
  nothing_raised x (InFiber fiber (suc k, below, is) i) = absurd (omega (arith, below))
  nothing_raised x (InSwitch switch (k, below, is) i) = absurd (omega (arith, below))
  nothing_raised x (InGroup group (k, below, is) i) = absurd (omega (arith, below))
  nothing_raised x (InObject row stands i) =
      All-contains (λ (row : Row). (x : Member) → InData x row.values → ⊥) (opening script).shared.rows row
      (All-map (λ (row : Row). (x : Member) → InData x row.values → ⊥) (declared_row (most_jobs script)) script.declarations (λ k d below. nothing_declared _)) stands x i
  nothing_raised x (InPost receiver sender one (k, below, is) i) = absurd (omega (arith, below))

  abbrev Numbered : Mock → Type 0
  Numbered m = Fits kinds_at_first m × HasOwnNumbers m

  runs_are_numbered : (n : ℕ) → Numbered (run script n).last
  unfolding run
  runs_are_numbered n =
      runs_keep Numbered script
      (λ m moved it is. (next_fits kinds_at_first script m moved (raises_of_fitting kinds_at_first script m it.0 moved is) it.0, next_has_own kinds_at_first script m moved (raises_of_fitting kinds_at_first script m it.0 moved is) it.1))
      n (opening script) (opening_fits, record { below = (λ x i. absurd (nothing_raised x i)); own = (λ x y i j e. absurd (nothing_raised x i)) })

pub raises_are_numbered : RaisesAreNumbered
raises_are_numbered script n moved is x i =
    let m : Mock = (run script n).last in
    next_is_numbered (kinds_at_first script) script m moved (raises_of_fitting (kinds_at_first script) script m (runs_are_numbered script n).0 moved is) is x i

pub lines_tell_numbered : LinesTellNumbered
lines_tell_numbered script n moved is x i =
    let m : Mock = (run script n).last in line_is_numbered (kinds_at_first script) script m moved (raises_of_fitting (kinds_at_first script) script m (runs_are_numbered script n).0 moved is) is x i

pub raises_are_apart : RaisesAreApart
raises_are_apart script n = (runs_are_numbered script n).1

-- ## Numbers aren't reused

-- from one state of a run on: the counter doesn't fall, and what has an older number stood in that state
pub record Continues (kinds : ℕ → Bool) (before after : Mock) : Type 0 where
  pub fits : Fits kinds after
  pub rises : before.local.serial ≤ after.local.serial
  pub older : (y : Member) → IsIn y after → y.serial < before.local.serial → IsIn y before

module _ (kinds : ℕ → Bool) (script : Script) (before : Mock) where
  older_in_next : (m : Mock) (moved : Moved) (y : Member) → Continues kinds before m → IsIn y m ⊎ IsRaisedBy m moved y → y.serial < before.local.serial → IsIn y before
  older_in_next m moved y so (inl old) below = so.older y old below
  older_in_next m moved y so (inr new) below = absurd (omega (arith, below, so.rises, new.from))

  continues : (m : Mock) (moved : Moved) → Continues kinds before m → move script m ≡ Some moved → Continues kinds before moved.next
  continues m moved so is =
      let raises : Raises (λ x. IsIn x m) kinds script m moved = raises_of_fitting kinds script m so.fits moved is in
      let rises : m.local.serial ≤ moved.next.local.serial = serials_rise script m moved is in
      record {
        fits = next_fits kinds script m moved raises so.fits;
        rises = omega (arith, so.rises, rises);
        older = (λ y i below. older_in_next m moved y so (next_is_numbered kinds script m moved raises is y i) below);
      }

last-append : (m : Mock) (front more : List Moved) → last_after m (front ++ more) ≡ last_after (last_after m front) more
last-append m [] more = refl
last-append m (moved ∷ front) more = last-append moved.next front more

-- the last state of a run of n + k moves is that of k more moves
later_state : (script : Script) (n k : ℕ) → (run script (n + k)).last ≡ last_after (run script n).last (moves script k (run script n).last)
unfolding run
later_state script n k =
    ap (last_after (opening script)) (moves_on script n k (opening script)) ∙ last-append (opening script) (moves script n (opening script)) (moves script k (last_after (opening script) (moves script n (opening script))))

pub numbers_are_not_reused : NumbersAreNotReused
numbers_are_not_reused script n k x y i j e =
    let before : Mock = (run script n).last in
    let now : Numbered script before = runs_are_numbered script n in
    let so : Continues (kinds_at_first script) before (last_after before (moves script k before)) =
    runs_keep (Continues (kinds_at_first script) before) script (continues (kinds_at_first script) script before) k before
    (record { fits = now.0; rises = omega arith; older = (λ y i below. i) })
    in
    let later : IsIn y (last_after before (moves script k before)) = subst (λ m. IsIn y m) (later_state script n k) j in
    let below : y.serial < before.local.serial = omega (arith, e, now.1.below x i) in
    now.1.own x y i (so.older y later below) e
