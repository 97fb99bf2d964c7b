-- What each call on a switch leaves of who is attached to it, and which calls finish it.
use Rattle.std.proofs.Common.{◌≡◌, ℕ, ◌<◌, Bool, true, false, List, [], ◌∷◌, ◌++◌, Option, Some, None, refl, ap, subst, arith}
use Rattle.eio_value.specs.declared.raised.Raised.{Raised}
use Rattle.spec_parts.specs.Errors.{joined}
use Rattle.spec_parts.specs.Switches as switches
use Rattle.spec_parts.specs.Switches.{Switch, Handler, Closer, Nobody, ForFibers, ForDaemons, Attached, Detached, CloseStep, Closed, switch_at, never_opened, without}
use Rattle.law_domain.proofs.Scopes.Counts.{times, times_append, times_without, one_self}
use Rattle.law_domain.proofs.Scopes.Scopes.{attached_to, IsEmptied}
use Rattle.law_domain.proofs.Scopes.Standings.{Alike}

the_some : {A : Type 0} (a b : A) → Some a ≡ Some b → a ≡ b
the_some {A = A} a b e = ap (λ (found : Option A). elim found as (λ _. A) [ None ↦ a | Some c ↦ c ]) e

-- nobody is gone
abbrev pub Nowhere : ℕ → Type 0
Nowhere x = ⊥

-- both lists stand as they stood
same_lists : (s t : Switch) → t.fibers ≡ s.fibers → t.daemons ≡ s.daemons → (IsEmptied s → IsEmptied t) → (s.finished ≡ true → t.finished ≡ true) → Alike Nowhere s t
same_lists s t fibers daemons emptied finished = record { attached = (λ x daemon stays. by x daemon); emptied = emptied; finished = finished }
  where
    by : (x : ℕ) (daemon : Bool) → times x (attached_to daemon t) ≡ times x (attached_to daemon s)
    by x true = ap (times x) daemons
    by x false = ap (times x) fibers

pub fail_alike : (what : Raised) (s t : Switch) → switches.fail what s ≡ Some t → Alike Nowhere s t
fail_alike what s t is = by s.finished is
  where
    by : (b : Bool) → elim b as (λ _. Option Switch) [ true ↦ None | false ↦ Some (record s { errors = Some (joined s.errors what) }) ] ≡ Some t → Alike Nowhere s t
    by true none = absurd (cc)
    by false some = subst (Alike Nowhere s) (the_some _ t some) (same_lists s _ refl refl (λ it. it) (λ it. it))

pub on_release_alike : (handler : Handler) (s t : Switch) → switches.on_release handler s ≡ Some t → Alike Nowhere s t
on_release_alike handler s t is = by s.finished is
  where
    by : (b : Bool) → elim b as (λ _. Option Switch) [ true ↦ None | false ↦ Some (record s { fresh = s.fresh ++ handler ∷ [] }) ] ≡ Some t → Alike Nowhere s t
    by true none = absurd (cc)
    by false some = subst (Alike Nowhere s) (the_some _ t some) (same_lists s _ refl refl (λ it. it) (λ it. it))

-- ## Closing

abbrev pub is_result : CloseStep → Bool
is_result switches.Wait = false
is_result switches.CancelDaemons = false
is_result (switches.RunHandler handler) = false
is_result switches.Return = true
is_result (switches.Raise errors) = true

record Leaves (s : Switch) (closed : Closed) : Type 0 where
  alike : Alike Nowhere s closed.switch
  finishes : is_result closed.step ≡ true → closed.switch.finished ≡ true

release_leaves : (found : Option Handler) (s : Switch) → s.fibers ≡ [] → s.daemons ≡ [] → Leaves s (switches.release found s)
release_leaves None s fibers daemons = record { alike = same_lists s _ refl refl (λ old finished. (fibers, daemons)) (λ it. refl); finishes = λ is. refl }
release_leaves (Some handler) s fibers daemons = record { alike = same_lists s _ refl refl (λ it. it) (λ it. it); finishes = λ is. absurd (cc) }

close_leaves : (closer : ℕ) (s : Switch) → Leaves s (switches.close_step closer s)
close_leaves closer s = by s.fibers s.daemons
  where
    by : (fibers daemons : List ℕ) → Leaves (record s { fibers = fibers; daemons = daemons }) (switches.close_step closer (record s { fibers = fibers; daemons = daemons }))
    by (f ∷ fs) daemons = record { alike = same_lists (record s { fibers = f ∷ fs; daemons = daemons }) _ refl refl (λ it. it) (λ it. it); finishes = λ is. absurd (cc) }
    by [] (d ∷ ds) = record { alike = same_lists (record s { fibers = []; daemons = d ∷ ds }) _ refl refl (λ it. it) (λ it. it); finishes = λ is. absurd (cc) }
    by [] [] = (let t : Switch = record s { fibers = []; daemons = [] } in release_leaves (switches.last_handler (switches.due_batch t)) t refl refl)

pub close_alike : (closer : ℕ) (s : Switch) → Alike Nowhere s (switches.close_step closer s).switch
close_alike closer s = (close_leaves closer s).alike

-- an answer is given once the switch has finished
pub close_finishes : (closer : ℕ) (s : Switch) → is_result (switches.close_step closer s).step ≡ true → (switches.close_step closer s).switch.finished ≡ true
close_finishes closer s is = (close_leaves closer s).finishes is

-- ## Attaching

wake_keeps : (closer : Closer) (t : Switch) (P : Switch → Type 0) → ((c : Closer) → P (record t { closer = c })) → P (switches.wake_closer closer t).switch
wake_keeps Nobody t P keeps = keeps t.closer
wake_keeps (ForFibers c) t P keeps = by t.fibers
  where
    by : (left : List ℕ) → P (switches.woken_by left c t).switch
    by [] = keeps Nobody
    by (f ∷ fs) = keeps t.closer
wake_keeps (ForDaemons c) t P keeps = by t.daemons
  where
    by : (left : List ℕ) → P (switches.woken_by left c t).switch
    by [] = keeps Nobody
    by (f ∷ fs) = keeps t.closer

pub detach_alike : (g : ℕ) (s : Switch) → Alike (λ x. x ≡ g) s (switches.detach g s).switch
detach_alike g s =
    wake_keeps s.closer (record s { fibers = without g s.fibers; daemons = without g s.daemons }) (Alike (λ x. x ≡ g) s)
    (λ c. record { attached = (λ x daemon stays. by c x daemon stays); emptied = (λ old finished. (ap (without g) (old finished).0, ap (without g) (old finished).1)); finished = (λ it. it) })
  where
    by : (c : Closer) (x : ℕ) (daemon : Bool) → (x ≡ g → ⊥) → times x (attached_to daemon (record s { fibers = without g s.fibers; daemons = without g s.daemons; closer = c })) ≡ times x (attached_to daemon s)
    by c x true stays = times_without g x s.daemons stays
    by c x false stays = times_without g x s.fibers stays

-- who is attached to a switch that refuses nobody
pub attached_switch : (new : ℕ) (daemon : Bool) (s : Switch) → switches.refuses_fibers s ≡ false → (switches.attach new daemon s).switch ≡ switches.with_fiber new daemon s
attached_switch new daemon s takes =
    ap (λ (b : Bool). (elim b as (λ _. Attached) [ true ↦ record { taken = false; switch = s } | false ↦ record { taken = true; switch = switches.with_fiber new daemon s } ]).switch) takes

pub with_fiber_more : (new x : ℕ) (daemon other : Bool) (s : Switch) → 0 < times x (attached_to other s) → 0 < times x (attached_to other (switches.with_fiber new daemon s))
with_fiber_more new x true true s some = omega (arith, times_append x s.daemons (new ∷ []), some)
with_fiber_more new x true false s some = some
with_fiber_more new x false true s some = some
with_fiber_more new x false false s some = omega (arith, times_append x s.fibers (new ∷ []), some)

pub with_fiber_new : (new : ℕ) (daemon : Bool) (s : Switch) → 0 < times new (attached_to daemon (switches.with_fiber new daemon s))
with_fiber_new new true s = omega (arith, times_append new s.daemons (new ∷ []), one_self new)
with_fiber_new new false s = omega (arith, times_append new s.fibers (new ∷ []), one_self new)

pub with_fiber_finished : (new : ℕ) (daemon : Bool) (s : Switch) → (switches.with_fiber new daemon s).finished ≡ s.finished
with_fiber_finished new true s = refl
with_fiber_finished new false s = refl
