-- How a fiber's standing changes, and fibers that are made or end.
use Rattle.std.proofs.Common.{◌≡◌, ℕ, zero, suc, ◌+◌, ◌≤◌, ◌<◌, Bool, true, false, List, [], ◌∷◌, ◌++◌, length, refl, sym, ap, ◌∙◌, subst, arith, slice_set, cond, eq-eqb}
use Rattle.std.specs.Prelude.{map, filter, take, take_while, not, ◌==◌, int_lt}
use Rattle.std.specs.List.{prefix_len}
use Rattle.std.proofs.lemmas.Bool.{both_ways}
use Rattle.std.proofs.lemmas.List.{length-append}
use Rattle.eio_value.specs.declared.message.Waiter.{Waiter}
use Rattle.eio_value.specs.declared.raised.Outcome.{Outcome}
use Rattle.spec_parts.specs.Groups.{Group, group_at, never_gathered}
use Rattle.spec_parts.specs.Switches.{Switch, opened, switch_at, never_opened}
use Rattle.spec_parts.specs.Timers as timers
use Rattle.spec_parts.specs.Timers.{Timer}
use Rattle.spec_machine.specs.Domain.{OfSwitch, Next, Wait, OnObject, Asleep, Resting, Standing, Ready, Parked, Ended, Fiber, fiber_at, never_made}
use Rattle.law_domain.proofs.Scopes.Counts.{times, times_append, Compared, Same, Other, compared, one, one_self}
use Rattle.law_domain.proofs.Scopes.Gathered.{member, live_as, live_in, joining, lives, owns, live_most, live_same, shifted, set_gathered, owed_by, ended_gathered, Credited, made_gathered, IsJoined}
use Rattle.law_domain.proofs.Scopes.Scopes.{Closes, closes_more, standing_more, ClosesNext, ClosesWait, ClosesStanding, View, standing_at, sleepers, attached_to, is_over, IsReady, IsEmptied, Sound, Tracked, OnSwitch, OnGroup, IsOpened, IsOver, Goes, Leads, stays, both, SetAt, Here, There, set_at, set_same, set_other, set_length, set_keeps, AddedAt, Last, Before, added_at, added_last, past, within}

-- ## Words

over_is : (standing other : Standing) → standing ≡ other → is_over standing ≡ is_over other
over_is standing other same = ap is_over same

ready_lives : (standing : Standing) → IsReady standing → is_over standing ≡ false
ready_lives (Ready next) it = refl
ready_lives (Parked wait) it = absurd it
ready_lives (Ended result) it = absurd it

-- a ready fiber isn't parked
ready_isnt : (standing : Standing) (wait : Wait) → IsReady standing → standing ≡ Parked wait → ⊥
ready_isnt (Ready next) wait it is = cc
ready_isnt (Parked other) wait it is = it
ready_isnt (Ended result) wait it is = it

abbrev wait_in : Standing → Wait
wait_in (Ready next) = Resting
wait_in (Parked other) = other
wait_in (Ended result) = Resting

-- a fiber that lives has a number that was given
lives_within : (fibers : List Fiber) (g : ℕ) → is_over (fiber_at fibers g).standing ≡ false → g < length fibers
lives_within fibers g lives = within (λ (f : Fiber). is_over f.standing ≡ false) never_made fibers g (λ e. (cc)) lives

-- ## Hands

-- the same fibers in hand, in another order, or fewer
pub holds : (hand next : List ℕ) (v : View) → ((x : ℕ) → times x next ≤ times x hand) → Leads hand v next v
holds hand next v fewer h = record {
  sound = record {
    once = (λ x. omega (arith, h.once x, fewer x));
    ready = (λ x some. h.ready x (omega (arith, some, fewer x)));
    slept = h.slept;
    asleep = h.asleep;
    attached = h.attached;
    emptied = h.emptied;
    marks = h.marks;
    calls = h.calls;
    gathered = h.gathered;
  };
  waits = (λ x who is. is);
  finished = (λ n it. it);
  made = omega arith;
  gathers = omega arith;
}

-- the head of the ready list is taken in hand
pub taken : (g : ℕ) (others : List ℕ) (v : View) → v.ready ≡ g ∷ others → Leads [] v (g ∷ []) (record v { ready = others })
taken g others v is h =
    let all : (x : ℕ) → times x v.ready ≡ one x g + times x others = λ x. ap (times x) is in
    record {
      sound = record {
        once = (λ x. omega (arith, h.once x, all x));
        ready = (λ x some. h.ready x (omega (arith, some, all x)));
        slept = h.slept;
        asleep = h.asleep;
        attached = h.attached;
        emptied = h.emptied;
        marks = h.marks;
        calls = h.calls;
        gathered = h.gathered;
      };
      waits = (λ x who is. is);
      finished = (λ n it. it);
      made = omega arith;
      gathers = omega arith;
    }

-- some that were in hand stand first in the ready list
pub listed : (first next : List ℕ) (v : View) → Leads (first ++ next) v next (record v { ready = first ++ v.ready })
listed first next v h =
    let all : (x : ℕ) → times x (first ++ next) ≡ times x first + times x next = λ x. times_append x first next in
    let list : (x : ℕ) → times x (first ++ v.ready) ≡ times x first + times x v.ready = λ x. times_append x first v.ready in
    record {
      sound = record {
        once = (λ x. omega (arith, h.once x, all x, list x));
        ready = (λ x some. h.ready x (omega (arith, some, all x, list x)));
        slept = h.slept;
        asleep = h.asleep;
        attached = h.attached;
        emptied = h.emptied;
        marks = h.marks;
        calls = h.calls;
        gathered = h.gathered;
      };
      waits = (λ x who is. is);
      finished = (λ n it. it);
      made = omega arith;
      gathers = omega arith;
    }

-- some timers are gone
pub fewer_sleep : (hand : List ℕ) (v : View) (sleeping : List Timer) → ((x : ℕ) → times x (sleepers sleeping) ≤ times x (sleepers v.sleeping)) → Leads hand v hand (record v { sleeping = sleeping })
fewer_sleep hand v sleeping fewer h = record {
  sound = record {
    once = h.once;
    ready = h.ready;
    slept = (λ x. omega (arith, h.slept x, fewer x));
    asleep = (λ x some. h.asleep x (omega (arith, some, fewer x)));
    attached = h.attached;
    emptied = h.emptied;
    marks = h.marks;
    calls = h.calls;
    gathered = h.gathered;
  };
  waits = (λ x who is. is);
  finished = (λ n it. it);
  made = omega arith;
  gathers = omega arith;
}

-- ## A fiber that stands nowhere

-- it lives, is neither in hand nor ready, and has no timer
pub record Loose (hand : List ℕ) (v : View) (g : ℕ) : Type 0 where
  pub lives : is_over (standing_at v g) ≡ false
  pub apart : times g hand + times g v.ready ≡ 0
  pub awake : times g (sleepers v.sleeping) ≡ 0

-- the first in hand, once it is let go
pub let_go : (g : ℕ) (hand : List ℕ) (v : View) → Sound (g ∷ hand) v → Sound hand v × Loose hand v g × IsReady (standing_at v g)
let_go g hand v h = by (compared g g)
  where
    by : Compared g g → Sound hand v × Loose hand v g × IsReady (standing_at v g)
    by (Other differs none) = absurd (differs refl)
    by (Same same is_one) =
        let ready : IsReady (standing_at v g) = h.ready g (omega (arith, is_one)) in (
          (holds (g ∷ hand) hand v (λ x. omega arith) h).sound,
          record { lives = ready_lives _ ready; apart = omega (arith, is_one, h.once g); awake = awake_by (times g (sleepers v.sleeping)) refl ready },
          ready,
        )
      where
        awake_by : (n : ℕ) → times g (sleepers v.sleeping) ≡ n → IsReady (standing_at v g) → n ≡ 0
        awake_by zero is ready = refl
        awake_by (suc n) is ready = absurd (ready_isnt _ _ ready (h.asleep g (omega (arith, is))))

-- a fiber that is parked, and not for the clock
pub parked_loose : (hand : List ℕ) (v : View) (g : ℕ) (wait : Wait) → standing_at v g ≡ Parked wait → (wait ≡ Asleep → ⊥) → Sound hand v → Loose hand v g
parked_loose hand v g wait is awake h = record {
  lives = over_is _ _ is;
  apart = apart_by (times g hand + times g v.ready) refl;
  awake = awake_by (times g (sleepers v.sleeping)) refl;
}
  where
    apart_by : (n : ℕ) → times g hand + times g v.ready ≡ n → n ≡ 0
    apart_by zero e = refl
    apart_by (suc n) e = absurd (ready_isnt _ _ (h.ready g (omega (arith, e))) is)

    awake_by : (n : ℕ) → times g (sleepers v.sleeping) ≡ n → n ≡ 0
    awake_by zero e = refl
    awake_by (suc n) e = absurd (awake (ap wait_in (sym is ∙ h.asleep g (omega (arith, e)))))

-- a fiber that lives counts for its group
lived : (n : ℕ) (f : Fiber) → is_over f.standing ≡ false → live_in n f ≡ member n f.role
lived n f = by f.standing
  where
    by : (standing : Standing) → is_over standing ≡ false → live_as n f.role standing ≡ member n f.role
    by (Ready next) is = refl
    by (Parked wait) is = refl
    by (Ended it) is = absurd (cc)

-- ## Its standing changes

abbrev restood : Fiber → Standing → Fiber
restood fiber standing = record fiber { standing = standing }

module _ (hand : List ℕ) (v : View) (g : ℕ) (f : Fiber) (h : Sound hand v) (loose : Loose hand v g) where
  abbrev with_it : List Fiber
  with_it = slice_set v.fibers g f

  here : (fiber_at with_it g) ≡ f
  here = set_same never_made v.fibers g f (lives_within v.fibers g loose.lives)

  there : (x : ℕ) → (x ≡ g → ⊥) → fiber_at with_it x ≡ fiber_at v.fibers x
  there x other = set_other never_made v.fibers g x f other

  -- all but who stands where
  restood_sound : (ready : List ℕ) (sleeping : List Timer)
      → f.role ≡ (fiber_at v.fibers g).role
      → Closes (length v.switches) f.work
      → ((n : ℕ) → joining n f.work ≤ joining n (fiber_at v.fibers g).work)
      → ClosesStanding (length v.switches) (length v.groups) f.standing
      → ((x : ℕ) → (x ≡ g → ⊥) → one x g ≡ 0 → times x hand + times x ready ≡ times x hand + times x v.ready)
      → (times g hand + times g ready ≤ 1) × (0 < times g hand + times g ready → IsReady f.standing)
      → ((x : ℕ) → (x ≡ g → ⊥) → one x g ≡ 0 → times x (sleepers sleeping) ≤ times x (sleepers v.sleeping))
      → (times g (sleepers sleeping) ≤ 1) × (0 < times g (sleepers sleeping) → f.standing ≡ Parked Asleep)
      → Sound hand (record { fibers = with_it; ready = ready; sleeping = sleeping; switches = v.switches; groups = v.groups; debts = v.debts })
  restood_sound ready sleeping role work joins standing others own others_sleep own_sleep = record {
    once = (λ x. once_by x (compared x g));
    ready = (λ x. ready_by x (compared x g));
    slept = (λ x. slept_by x (compared x g));
    asleep = (λ x. asleep_by x (compared x g));
    attached = (λ n x daemon. attached_by n x daemon (compared x g));
    emptied = h.emptied;
    marks = (λ x. set_keeps (λ (k : Fiber). Closes (length v.switches) k.work) never_made v.fibers g x f (λ old. work) (h.marks x));
    calls = (λ x. set_keeps (λ (k : Fiber). ClosesStanding (length v.switches) (length v.groups) k.standing) never_made v.fibers g x f (λ old. standing) (h.calls x));
    gathered = set_gathered v.fibers v.groups v.debts v.debts g f (λ n. omega (arith, live_most n f.role f.standing, lived_as n, same_member n)) (λ n. omega (arith, joins n)) h.gathered;
  }
    where
      same_member : (n : ℕ) → member n f.role ≡ member n (fiber_at v.fibers g).role
      same_member n = ap (member n) role

      lived_as : (n : ℕ) → live_in n (fiber_at v.fibers g) ≡ member n (fiber_at v.fibers g).role
      lived_as n = lived n (fiber_at v.fibers g) loose.lives

      once_by : (x : ℕ) → Compared x g → times x hand + times x ready ≤ 1
      once_by x (Same same is_one) = subst (λ (n : ℕ). times n hand + times n ready ≤ 1) (sym same) own.0
      once_by x (Other differs none) = omega (arith, others x differs none, h.once x)

      ready_by : (x : ℕ) → Compared x g → 0 < times x hand + times x ready → IsReady (fiber_at with_it x).standing
      ready_by x (Same same is_one) some =
          subst (λ (n : ℕ). IsReady (fiber_at with_it n).standing) (sym same)
          (subst (λ (k : Fiber). IsReady k.standing) (sym here) (own.1 (subst (λ (n : ℕ). 0 < times n hand + times n ready) same some)))
      ready_by x (Other differs none) some = subst (λ (k : Fiber). IsReady k.standing) (sym (there x differs)) (h.ready x (omega (arith, others x differs none, some)))

      slept_by : (x : ℕ) → Compared x g → times x (sleepers sleeping) ≤ 1
      slept_by x (Same same is_one) = subst (λ (n : ℕ). times n (sleepers sleeping) ≤ 1) (sym same) own_sleep.0
      slept_by x (Other differs none) = omega (arith, others_sleep x differs none, h.slept x)

      asleep_by : (x : ℕ) → Compared x g → 0 < times x (sleepers sleeping) → (fiber_at with_it x).standing ≡ Parked Asleep
      asleep_by x (Same same is_one) some =
          subst (λ (n : ℕ). (fiber_at with_it n).standing ≡ Parked Asleep) (sym same)
          (ap (λ (k : Fiber). k.standing) here ∙ own_sleep.1 (subst (λ (n : ℕ). 0 < times n (sleepers sleeping)) same some))
      asleep_by x (Other differs none) some = ap (λ (k : Fiber). k.standing) (there x differs) ∙ h.asleep x (omega (arith, others_sleep x differs none, some))

      attached_by : (n x : ℕ) (daemon : Bool) → Compared x g → (fiber_at with_it x).role ≡ OfSwitch n daemon → is_over (fiber_at with_it x).standing ≡ false → 0 < times x (attached_to daemon (switch_at v.switches n))
      attached_by n x daemon (Same same is_one) is lives =
          subst (λ (k : ℕ). 0 < times k (attached_to daemon (switch_at v.switches n))) (sym same)
          (h.attached n g daemon (sym role ∙ (sym (ap (λ (k : Fiber). k.role) here) ∙ subst (λ (k : ℕ). (fiber_at with_it k).role ≡ OfSwitch n daemon) same is)) loose.lives)
      attached_by n x daemon (Other differs none) is lives =
          h.attached n x daemon (sym (ap (λ (k : Fiber). k.role) (there x differs)) ∙ is) (sym (ap (λ (k : Fiber). is_over k.standing) (there x differs)) ∙ lives)

  -- whoever waits for an object still does, if it isn't this one
  restood_waits : ((who : Waiter) → standing_at v g ≡ Parked (OnObject who) → ⊥) → (x : ℕ) (who : Waiter) → standing_at v x ≡ Parked (OnObject who) → (fiber_at with_it x).standing ≡ Parked (OnObject who)
  restood_waits free x who is = by (compared x g)
    where
      by : Compared x g → (fiber_at with_it x).standing ≡ Parked (OnObject who)
      by (Same same is_one) = absurd (free who (subst (λ (n : ℕ). standing_at v n ≡ Parked (OnObject who)) same is))
      by (Other differs none) = ap (λ (k : Fiber). k.standing) (there x differs) ∙ is

-- ## Into the ready list

-- whoever stood nowhere is ready from now on, at one end of the list
module _ (next : Next) (g : ℕ) (hand : List ℕ) (v : View) (h : Sound hand v) (loose : Loose hand v g) (call : ClosesNext (length v.switches) (length v.groups) next) where
  abbrev stood : Fiber
  stood = restood (fiber_at v.fibers g) (Ready next)

  head_sound : Sound hand (record v { fibers = slice_set v.fibers g stood; ready = g ∷ v.ready })
  head_sound =
      restood_sound hand v g stood h loose (g ∷ v.ready) v.sleeping refl (h.marks g) (λ n. omega arith) call
      (λ x differs none. omega (arith, none)) (omega (arith, one_self g, loose.apart), λ some. tt) (λ x differs none. omega arith)
      (omega (arith, loose.awake), λ some. absurd (omega (arith, some, loose.awake)))

  back_sound : Sound hand (record v { fibers = slice_set v.fibers g stood; ready = v.ready ++ g ∷ [] })
  back_sound =
      let all : (x : ℕ) → times x (v.ready ++ g ∷ []) ≡ times x v.ready + (one x g + 0) = λ x. times_append x v.ready (g ∷ []) in
      restood_sound hand v g stood h loose (v.ready ++ g ∷ []) v.sleeping refl (h.marks g) (λ n. omega arith) call
      (λ x differs none. omega (arith, none, all x)) (omega (arith, one_self g, loose.apart, all g), λ some. tt) (λ x differs none. omega arith)
      (omega (arith, loose.awake), λ some. absurd (omega (arith, some, loose.awake)))

-- from the hand
pub head : (next : Next) (g : ℕ) (hand : List ℕ) (v : View) → ClosesNext (length v.switches) (length v.groups) next
    → Leads (g ∷ hand) v hand (record v { fibers = slice_set v.fibers g (record (fiber_at v.fibers g) { standing = Ready next }); ready = g ∷ v.ready })
head next g hand v call h =
    let free = let_go g hand v h in
    record {
      sound = head_sound next g hand v free.0 free.1 call;
      waits = restood_waits hand v g _ free.0 free.1 (λ who is. ready_isnt _ _ free.2 is);
      finished = (λ n it. it);
      made = omega arith;
      gathers = omega arith;
    }

pub back : (next : Next) (g : ℕ) (hand : List ℕ) (v : View) → ClosesNext (length v.switches) (length v.groups) next
    → Leads (g ∷ hand) v hand (record v { fibers = slice_set v.fibers g (record (fiber_at v.fibers g) { standing = Ready next }); ready = v.ready ++ g ∷ [] })
back next g hand v call h =
    let free = let_go g hand v h in
    record {
      sound = back_sound next g hand v free.0 free.1 call;
      waits = restood_waits hand v g _ free.0 free.1 (λ who is. ready_isnt _ _ free.2 is);
      finished = (λ n it. it);
      made = omega arith;
      gathers = omega arith;
    }

-- whoever was parked, but not for the clock, is woken; a wait for an object is ended by what comes from outside alone
pub wakes_sound : (next : Next) (g : ℕ) (hand : List ℕ) (v : View) (wait : Wait) → standing_at v g ≡ Parked wait → (wait ≡ Asleep → ⊥) → ClosesNext (length v.switches) (length v.groups) next → Sound hand v
    → Sound hand (record v { fibers = slice_set v.fibers g (record (fiber_at v.fibers g) { standing = Ready next }); ready = v.ready ++ g ∷ [] })
wakes_sound next g hand v wait is awake call h = back_sound next g hand v h (parked_loose hand v g wait is awake h) call

pub wakes : (next : Next) (g : ℕ) (hand : List ℕ) (v : View) (wait : Wait) → standing_at v g ≡ Parked wait → (wait ≡ Asleep → ⊥) → ((who : Waiter) → wait ≡ OnObject who → ⊥) → ClosesNext (length v.switches) (length v.groups) next
    → Leads hand v hand (record v { fibers = slice_set v.fibers g (record (fiber_at v.fibers g) { standing = Ready next }); ready = v.ready ++ g ∷ [] })
wakes next g hand v wait is awake isnt call h =
    record {
      sound = wakes_sound next g hand v wait is awake call h;
      waits = restood_waits hand v g _ h (parked_loose hand v g wait is awake h) (λ who other. isnt who (ap wait_in (sym is ∙ other)));
      finished = (λ n it. it);
      made = omega arith;
      gathers = omega arith;
    }

-- ## Timers

-- the timers that stay, and those of another fiber
times_removed : (g x : ℕ) (timers : List Timer) → times x (sleepers (filter (λ timer. not (timer.fiber == g)) timers)) ≤ times x (sleepers timers)
times_removed g x [] = omega arith
times_removed g x (timer ∷ others) = by (not (timer.fiber == g)) (times_removed g x others)
  where
    by : (b : Bool) → times x (sleepers (filter (λ timer. not (timer.fiber == g)) others)) ≤ times x (sleepers others)
        → times x (sleepers (cond b (timer ∷ filter (λ timer. not (timer.fiber == g)) others) (filter (λ timer. not (timer.fiber == g)) others))) ≤ one x timer.fiber + times x (sleepers others)
    by true rest = omega (arith, rest)
    by false rest = omega (arith, rest)

none_removed : (g : ℕ) (timers : List Timer) → times g (sleepers (filter (λ timer. not (timer.fiber == g)) timers)) ≡ 0
none_removed g [] = refl
none_removed g (timer ∷ others) = by (timer.fiber == g) refl (none_removed g others)
  where
    by : (b : Bool) → (timer.fiber == g) ≡ b → times g (sleepers (filter (λ timer. not (timer.fiber == g)) others)) ≡ 0
        → times g (sleepers (cond (not b) (timer ∷ filter (λ timer. not (timer.fiber == g)) others) (filter (λ timer. not (timer.fiber == g)) others))) ≡ 0
    by true is rest = rest
    by false is rest = apart (compared g timer.fiber)
      where
        apart : Compared g timer.fiber → one g timer.fiber + times g (sleepers (filter (λ timer. not (timer.fiber == g)) others)) ≡ 0
        apart (Same same is_one) = absurd (both_ways (timer.fiber == g) is (eq-eqb timer.fiber g (sym same)))
        apart (Other differs none) = omega (arith, none, rest)

-- a fiber that sleeps is woken, and has no timer then
rouses_sound : (next : Next) (g : ℕ) (hand : List ℕ) (v : View) → standing_at v g ≡ Parked Asleep → times g (sleepers v.sleeping) ≡ 0 → ClosesNext (length v.switches) (length v.groups) next
    → Leads hand v hand (record v { fibers = slice_set v.fibers g (record (fiber_at v.fibers g) { standing = Ready next }); ready = v.ready ++ g ∷ [] })
rouses_sound next g hand v is awake call h =
    let loose : Loose hand v g = record { lives = over_is _ _ is; apart = apart_by (times g hand + times g v.ready) refl; awake = awake } in
    record {
      sound = back_sound next g hand v h loose call;
      waits = restood_waits hand v g _ h loose (λ who other. not_both (ap wait_in (sym is ∙ other)));
      finished = (λ n it. it);
      made = omega arith;
      gathers = omega arith;
    }
  where
    apart_by : (n : ℕ) → times g hand + times g v.ready ≡ n → n ≡ 0
    apart_by zero e = refl
    apart_by (suc n) e = absurd (ready_isnt _ _ (h.ready g (omega (arith, e))) is)

    not_both : {who : Waiter} → Asleep ≡ OnObject who → ⊥
    not_both e = cc

pub rouses : (next : Next) (g : ℕ) (hand : List ℕ) (v : View) → standing_at v g ≡ Parked Asleep → ClosesNext (length v.switches) (length v.groups) next
    → Leads hand v hand (record v { fibers = slice_set v.fibers g (record (fiber_at v.fibers g) { standing = Ready next }); ready = v.ready ++ g ∷ []; sleeping = filter (λ timer. not (timer.fiber == g)) v.sleeping })
rouses next g hand v is call h =
    let left : List Timer = filter (λ timer. not (timer.fiber == g)) v.sleeping in
    both (fewer_sleep hand v left (λ x. times_removed g x v.sleeping) h) (λ k. rouses_sound next g hand (record v { sleeping = left }) is (none_removed g v.sleeping) call k)

-- each of these sleeps no more, and is in no timer
pub record AreDue (fibers : List ℕ) (v : View) : Type 0 where
  pub once : (x : ℕ) → times x fibers ≤ 1
  pub parked : (x : ℕ) → 0 < times x fibers → standing_at v x ≡ Parked Asleep
  pub awake : (x : ℕ) → 0 < times x fibers → times x (sleepers v.sleeping) ≡ 0

-- the first of them is woken
pub due_woken : (next : Next) (g : ℕ) (others hand : List ℕ) (v : View) → AreDue (g ∷ others) v → ClosesNext (length v.switches) (length v.groups) next
    → Sound hand v
    → let w : View = record v { fibers = slice_set v.fibers g (record (fiber_at v.fibers g) { standing = Ready next }); ready = v.ready ++ g ∷ [] } in Goes v hand w × AreDue others w
due_woken next g others hand v due call h =
    let first : 0 < times g (g ∷ others) = omega (arith, one_self g) in (
      rouses_sound next g hand v (due.parked g first) (due.awake g first) call h,
      record {
        once = (λ x. omega (arith, due.once x));
        parked = (λ x some. parked_by x some (compared x g));
        awake = (λ x some. due.awake x (omega (arith, some)));
      },
    )
  where
    parked_by : (x : ℕ) → 0 < times x others → Compared x g → (fiber_at (slice_set v.fibers g (record (fiber_at v.fibers g) { standing = Ready next })) x).standing ≡ Parked Asleep
    parked_by x some (Same same is_one) = absurd (omega (arith, some, is_one, due.once x))
    parked_by x some (Other differs none) = ap (λ (k : Fiber). k.standing) (set_other never_made v.fibers g x _ differs) ∙ due.parked x (omega (arith, some))

-- those that are due at a time, and those whose timers stand on
due_apart : (due : Timer → Bool) (x : ℕ) (timers : List Timer)
    → (times x (map (λ timer. timer.fiber) (take_while due timers)) + times x (sleepers (filter (λ timer. not (due timer)) timers)) ≤ times x (sleepers timers))
    × (times x (sleepers (filter (λ timer. not (due timer)) timers)) ≤ times x (sleepers timers))
due_apart due x [] = (omega arith, omega arith)
due_apart due x (timer ∷ others) = by (due timer) (due_apart due x others)
  where
    left_ : List Timer
    left_ = filter (λ timer. not (due timer)) others

    front : ℕ
    front = prefix_len due others

    more : times x (map (λ (timer : Timer). timer.fiber) (take (1 + front) (timer ∷ others))) ≡ one x timer.fiber + times x (map (λ (timer : Timer). timer.fiber) (take front others))
    more = subst (λ (n : ℕ). times x (map (λ (timer : Timer). timer.fiber) (take n (timer ∷ others))) ≡ one x timer.fiber + times x (map (λ (timer : Timer). timer.fiber) (take front others))) (let e : suc front ≡ 1 + front = omega arith in e) refl

    by : (b : Bool)
        → (times x (map (λ timer. timer.fiber) (take front others)) + times x (sleepers left_) ≤ times x (sleepers others)) × (times x (sleepers left_) ≤ times x (sleepers others))
        → (times x (map (λ (timer : Timer). timer.fiber) (take (cond b (1 + front) 0) (timer ∷ others))) + times x (sleepers (cond (not b) (timer ∷ left_) left_)) ≤ one x timer.fiber + times x (sleepers others))
        × (times x (sleepers (cond (not b) (timer ∷ left_) left_)) ≤ one x timer.fiber + times x (sleepers others))
    by true rest = (omega (arith, rest.0, more), omega (arith, rest.1))
    by false rest = (omega (arith, rest.1), omega (arith, rest.1))

pub due_leads : (due : Timer → Bool) (hand : List ℕ) (v : View) → Sound hand v
    → let w : View = record v { sleeping = filter (λ timer. not (due timer)) v.sleeping } in Goes v hand w × AreDue (map (λ timer. timer.fiber) (take_while due v.sleeping)) w
due_leads due hand v h = (
  fewer_sleep hand v (filter (λ timer. not (due timer)) v.sleeping) (λ x. (due_apart due x v.sleeping).1) h,
  record {
    once = (λ x. omega (arith, (due_apart due x v.sleeping).0, h.slept x));
    parked = (λ x some. h.asleep x (omega (arith, some, (due_apart due x v.sleeping).0)));
    awake = (λ x some. omega (arith, some, (due_apart due x v.sleeping).0, h.slept x));
  },
)

-- ## Out of the ready list

pub parks : (wait : Wait) (g : ℕ) (hand : List ℕ) (v : View) → (wait ≡ Asleep → ⊥) → ClosesWait (length v.switches) (length v.groups) wait
    → Leads (g ∷ hand) v hand (record v { fibers = slice_set v.fibers g (record (fiber_at v.fibers g) { standing = Parked wait }) })
parks wait g hand v awake call h =
    let free = let_go g hand v h in
    let loose : Loose hand v g = free.1 in
    record {
      sound = restood_sound hand v g (restood (fiber_at v.fibers g) (Parked wait)) free.0 loose v.ready v.sleeping refl (h.marks g) (λ n. omega arith) call
          (λ x differs none. refl) (omega (arith, loose.apart), λ some. absurd (omega (arith, some, loose.apart))) (λ x differs none. omega arith)
          (omega (arith, loose.awake), λ some. absurd (omega (arith, some, loose.awake)));
      waits = restood_waits hand v g _ free.0 loose (λ who is. ready_isnt _ _ free.2 is);
      finished = (λ n it. it);
      made = omega arith;
      gathers = omega arith;
    }

times_put : (x : ℕ) (timer : Timer) (others : List Timer) → times x (sleepers (timers.put_in timer others)) ≡ one x timer.fiber + times x (sleepers others)
times_put x timer [] = refl
times_put x timer (other ∷ others) = by (int_lt timer.due other.due) (times_put x timer others)
  where
    by : (b : Bool) → times x (sleepers (timers.put_in timer others)) ≡ one x timer.fiber + times x (sleepers others)
        → times x (sleepers (elim b as (λ _. List Timer) [ true ↦ timer ∷ other ∷ others | false ↦ other ∷ timers.put_in timer others ])) ≡ one x timer.fiber + (one x other.fiber + times x (sleepers others))
    by true rest = refl
    by false rest = omega (arith, rest)

pub sleeps : (timer : Timer) (hand : List ℕ) (v : View)
    → Leads (timer.fiber ∷ hand) v hand (record v { fibers = slice_set v.fibers timer.fiber (record (fiber_at v.fibers timer.fiber) { standing = Parked Asleep }); sleeping = timers.put_in timer v.sleeping })
sleeps timer hand v h =
    let g : ℕ = timer.fiber in
    let free = let_go g hand v h in
    let loose : Loose hand v g = free.1 in
    let all : (x : ℕ) → times x (sleepers (timers.put_in timer v.sleeping)) ≡ one x g + times x (sleepers v.sleeping) = λ x. times_put x timer v.sleeping in
    record {
      sound = restood_sound hand v g (restood (fiber_at v.fibers g) (Parked Asleep)) free.0 loose v.ready (timers.put_in timer v.sleeping) refl (h.marks g) (λ n. omega arith) tt
          (λ x differs none. refl) (omega (arith, loose.apart), λ some. absurd (omega (arith, some, loose.apart))) (λ x differs none. omega (arith, all x, none))
          (omega (arith, all g, one_self g, loose.awake), λ some. refl);
      waits = restood_waits hand v g _ free.0 loose (λ who is. ready_isnt _ _ free.2 is);
      finished = (λ n it. it);
      made = omega arith;
      gathers = omega arith;
    }

-- what an end owes to a group is counted later
pub ends : (result : Outcome) (g : ℕ) (hand : List ℕ) (v : View)
    → Leads (g ∷ hand) v hand (record v { fibers = slice_set v.fibers g (record (fiber_at v.fibers g) { work = []; variables = []; standing = Ended result }); debts = owed_by (fiber_at v.fibers g).role v.debts })
ends result g hand v h =
    let free = let_go g hand v h in
    let loose : Loose hand v g = free.1 in
    let f : Fiber = record (fiber_at v.fibers g) { work = []; variables = []; standing = Ended result } in
    let sound = restood_sound hand v g f free.0 loose v.ready v.sleeping refl tt (λ n. omega arith) tt
    (λ x differs none. refl) (omega (arith, loose.apart), λ some. absurd (omega (arith, some, loose.apart))) (λ x differs none. omega arith)
    (omega (arith, loose.awake), λ some. absurd (omega (arith, some, loose.awake))) in
    record {
      sound = record {
        once = sound.once;
        ready = sound.ready;
        slept = sound.slept;
        asleep = sound.asleep;
        attached = sound.attached;
        emptied = sound.emptied;
        marks = sound.marks;
        calls = sound.calls;
        gathered = ended_gathered v.fibers v.groups v.debts g f (λ n. refl) (λ n. lived n (fiber_at v.fibers g) loose.lives) refl h.gathered;
      };
      waits = restood_waits hand v g _ free.0 loose (λ who is. ready_isnt _ _ free.2 is);
      finished = (λ n it. it);
      made = omega arith;
      gathers = omega arith;
    }

-- it has ended then
pub ends_over : (result : Outcome) (g : ℕ) (hand : List ℕ) (v : View) → Sound (g ∷ hand) v
    → is_over (fiber_at (slice_set v.fibers g (record (fiber_at v.fibers g) { work = []; variables = []; standing = Ended result })) g).standing ≡ true
ends_over result g hand v h =
    let free = let_go g hand v h in
    let loose : Loose hand v g = free.1 in
    ap (λ (k : Fiber). is_over k.standing) (here hand v g (record (fiber_at v.fibers g) { work = []; variables = []; standing = Ended result }) free.0 loose)

-- ## Fibers in another place of their work

-- a mark of a group that is gone from its work may be a debt
pub places : (f : Fiber) (g : ℕ) (hand : List ℕ) (v : View) (debts : List ℕ) → f.role ≡ (fiber_at v.fibers g).role → f.standing ≡ standing_at v g → Closes (length v.switches) f.work
    → ((n : ℕ) → joining n f.work + times n debts ≤ joining n (fiber_at v.fibers g).work + times n v.debts)
    → Leads hand v hand (record v { fibers = slice_set v.fibers g f; debts = debts })
places f g hand v debts role standing work joins h = record {
  sound = record {
    once = h.once;
    ready = (λ x some. set_keeps (λ (k : Fiber). IsReady k.standing) never_made v.fibers g x f (λ old. subst IsReady (sym standing) old) (h.ready x some));
    slept = h.slept;
    asleep = (λ x some. set_keeps (λ (k : Fiber). k.standing ≡ Parked Asleep) never_made v.fibers g x f (λ old. standing ∙ old) (h.asleep x some));
    attached = (λ n x daemon is lives. h.attached n x daemon (sym (role_kept x) ∙ is) (ap is_over (sym (standing_kept x)) ∙ lives));
    emptied = h.emptied;
    marks = (λ x. set_keeps (λ (k : Fiber). Closes (length v.switches) k.work) never_made v.fibers g x f (λ old. work) (h.marks x));
    calls = (λ x. set_keeps (λ (k : Fiber). ClosesStanding (length v.switches) (length v.groups) k.standing) never_made v.fibers g x f (λ old. subst (ClosesStanding (length v.switches) (length v.groups)) (sym standing) old) (h.calls x));
    gathered = set_gathered v.fibers v.groups v.debts debts g f (λ n. omega (arith, live_same n f (fiber_at v.fibers g) role standing)) joins h.gathered;
  };
  waits = (λ x who is. set_keeps (λ (k : Fiber). k.standing ≡ Parked (OnObject who)) never_made v.fibers g x f (λ old. standing ∙ old) is);
  finished = (λ n it. it);
  made = omega arith;
  gathers = omega arith;
}
  where
    role_kept : (x : ℕ) → (fiber_at (slice_set v.fibers g f) x).role ≡ (fiber_at v.fibers x).role
    role_kept x = set_keeps (λ (k : Fiber). k.role ≡ (fiber_at v.fibers x).role) never_made v.fibers g x f (λ old. role ∙ old) refl

    standing_kept : (x : ℕ) → (fiber_at (slice_set v.fibers g f) x).standing ≡ (fiber_at v.fibers x).standing
    standing_kept x = set_keeps (λ (k : Fiber). k.standing ≡ (fiber_at v.fibers x).standing) never_made v.fibers g x f (λ old. standing ∙ old) refl

-- ## New fibers

pub makes : (f : Fiber) (hand next : List ℕ) (v : View) (switches : List Switch) (debts : List ℕ)
    → ((x : ℕ) → times x next ≡ one x (length v.fibers) + times x hand)
    → IsReady f.standing → Closes (length v.switches) f.work → ClosesStanding (length v.switches) (length v.groups) f.standing
    → length switches ≡ length v.switches
    → ((n : ℕ) → IsEmptied (switch_at v.switches n) → IsEmptied (switch_at switches n))
    → ((n : ℕ) → (switch_at v.switches n).finished ≡ true → (switch_at switches n).finished ≡ true)
    → ((n x : ℕ) (daemon : Bool) → 0 < times x (attached_to daemon (switch_at v.switches n)) → 0 < times x (attached_to daemon (switch_at switches n)))
    → ((n : ℕ) (daemon : Bool) → f.role ≡ OfSwitch n daemon → 0 < times (length v.fibers) (attached_to daemon (switch_at switches n)))
    → Credited f v.fibers v.groups v.debts debts
    → Leads hand v next (record v { fibers = v.fibers ++ f ∷ []; switches = switches; debts = debts })
makes f hand next v switches debts all ready work standing size emptied finished attached new credited h = record {
  sound = record {
    once = (λ x. once_by x (compared x (length v.fibers)));
    ready = (λ x some. ready_by x some (added_at never_made v.fibers x f));
    slept = h.slept;
    asleep = (λ x some. asleep_by x some (added_at never_made v.fibers x f));
    attached = (λ n x daemon. attached_by n x daemon (added_at never_made v.fibers x f));
    emptied = (λ n. emptied n (h.emptied n));
    marks = (λ x. subst (λ (bound : ℕ). Closes bound (fiber_at (v.fibers ++ f ∷ []) x).work) (sym size) (marks_by x (added_at never_made v.fibers x f)));
    calls = (λ x. subst (λ (bound : ℕ). ClosesStanding bound (length v.groups) (fiber_at (v.fibers ++ f ∷ []) x).standing) (sym size) (calls_by x (added_at never_made v.fibers x f)));
    gathered = made_gathered f v.fibers v.groups v.debts debts credited h.gathered;
  };
  waits = (λ x who is. waits_by x who is (added_at never_made v.fibers x f));
  finished = over_by;
  made = omega (arith, size);
  gathers = omega arith;
}
  where
    over_by : (n : Tracked) → IsOver v.switches v.groups n → IsOver switches v.groups n
    over_by (OnSwitch n) it = record { opened = omega (arith, it.opened, size); finished = finished n it.finished }
    over_by (OnGroup n) it = it
    over_by (IsOpened n) it = omega (arith, it, size)

    -- nobody has its number yet
    nowhere : (x k : ℕ) → x ≡ length v.fibers → times x hand + times x v.ready ≡ k → k ≡ 0
    nowhere x zero same is = refl
    nowhere x (suc k) same is =
        absurd (subst (λ (f : Fiber). IsReady f.standing) (subst (λ (n : ℕ). fiber_at v.fibers n ≡ never_made) (sym same) (past never_made v.fibers)) (h.ready x (omega (arith, is))))

    once_by : (x : ℕ) → Compared x (length v.fibers) → times x next + times x v.ready ≤ 1
    once_by x (Same same is_one) = omega (arith, all x, is_one, nowhere x _ same refl)
    once_by x (Other differs none) = omega (arith, all x, none, h.once x)

    ready_by : (x : ℕ) → 0 < times x next + times x v.ready → AddedAt never_made v.fibers x f → IsReady (fiber_at (v.fibers ++ f ∷ []) x).standing
    ready_by x some (Last same is) = subst (λ (k : Fiber). IsReady k.standing) (sym is) ready
    ready_by x some (Before is) = by (compared x (length v.fibers))
      where
        by : Compared x (length v.fibers) → IsReady (fiber_at (v.fibers ++ f ∷ []) x).standing
        by (Other differs none) = subst (λ (k : Fiber). IsReady k.standing) (sym is) (h.ready x (omega (arith, some, all x, none)))
        by (Same same is_one) = subst (λ (n : ℕ). IsReady (fiber_at (v.fibers ++ f ∷ []) n).standing) (sym same) (subst (λ (k : Fiber). IsReady k.standing) (sym (added_last never_made v.fibers f)) ready)

    asleep_by : (x : ℕ) → 0 < times x (sleepers v.sleeping) → AddedAt never_made v.fibers x f → (fiber_at (v.fibers ++ f ∷ []) x).standing ≡ Parked Asleep
    asleep_by x some (Before is) = ap (λ (k : Fiber). k.standing) is ∙ h.asleep x some
    asleep_by x some (Last same is) = absurd (no_sleep (sym (ap (λ (k : Fiber). k.standing) (subst (λ (n : ℕ). fiber_at v.fibers n ≡ never_made) (sym same) (past never_made v.fibers))) ∙ h.asleep x some))
      where
        no_sleep : never_made.standing ≡ Parked Asleep → ⊥
        no_sleep e = cc

    attached_by : (n x : ℕ) (daemon : Bool) → AddedAt never_made v.fibers x f → (fiber_at (v.fibers ++ f ∷ []) x).role ≡ OfSwitch n daemon → is_over (fiber_at (v.fibers ++ f ∷ []) x).standing ≡ false
        → 0 < times x (attached_to daemon (switch_at switches n))
    attached_by n x daemon (Last same is) role lives = subst (λ (k : ℕ). 0 < times k (attached_to daemon (switch_at switches n))) (sym same) (new n daemon (sym (ap (λ (k : Fiber). k.role) is) ∙ role))
    attached_by n x daemon (Before is) role lives = attached n x daemon (h.attached n x daemon (sym (ap (λ (k : Fiber). k.role) is) ∙ role) (sym (ap (λ (k : Fiber). is_over k.standing) is) ∙ lives))

    marks_by : (x : ℕ) → AddedAt never_made v.fibers x f → Closes (length v.switches) (fiber_at (v.fibers ++ f ∷ []) x).work
    marks_by x (Last same is) = subst (λ (k : Fiber). Closes (length v.switches) k.work) (sym is) work
    marks_by x (Before is) = subst (λ (k : Fiber). Closes (length v.switches) k.work) (sym is) (h.marks x)

    calls_by : (x : ℕ) → AddedAt never_made v.fibers x f → ClosesStanding (length v.switches) (length v.groups) (fiber_at (v.fibers ++ f ∷ []) x).standing
    calls_by x (Last same is) = subst (λ (k : Fiber). ClosesStanding (length v.switches) (length v.groups) k.standing) (sym is) standing
    calls_by x (Before is) = subst (λ (k : Fiber). ClosesStanding (length v.switches) (length v.groups) k.standing) (sym is) (h.calls x)

    waits_by : (x : ℕ) (who : Waiter) → standing_at v x ≡ Parked (OnObject who) → AddedAt never_made v.fibers x f → (fiber_at (v.fibers ++ f ∷ []) x).standing ≡ Parked (OnObject who)
    waits_by x who old (Before is) = ap (λ (k : Fiber). k.standing) is ∙ old
    waits_by x who old (Last same is) = absurd (no_wait (sym (ap (λ (k : Fiber). k.standing) (subst (λ (n : ℕ). fiber_at v.fibers n ≡ never_made) (sym same) (past never_made v.fibers))) ∙ old))
      where
        no_wait : never_made.standing ≡ Parked (OnObject who) → ⊥
        no_wait e = cc

-- a new fiber of no switch
pub makes_other : (f : Fiber) (hand : List ℕ) (v : View) (debts : List ℕ) → IsReady f.standing → Closes (length v.switches) f.work → ClosesStanding (length v.switches) (length v.groups) f.standing
    → ((n : ℕ) (daemon : Bool) → f.role ≡ OfSwitch n daemon → ⊥)
    → Credited f v.fibers v.groups v.debts debts
    → Leads hand v (length v.fibers ∷ hand) (record v { fibers = v.fibers ++ f ∷ []; debts = debts })
makes_other f hand v debts ready work standing isnt credited =
    makes f hand (length v.fibers ∷ hand) v v.switches debts (λ x. refl) ready work standing refl (λ n it. it) (λ n it. it) (λ n x daemon it. it) (λ n daemon role. absurd (isnt n daemon role)) credited

-- ## Switches

-- the switches change, and nothing else
pub reswitched : (switches : List Switch) (hand : List ℕ) (v : View)
    → length v.switches ≤ length switches
    → ((n : ℕ) → IsEmptied (switch_at v.switches n) → IsEmptied (switch_at switches n))
    → ((n : ℕ) → n < length v.switches → (switch_at v.switches n).finished ≡ true → (switch_at switches n).finished ≡ true)
    → ((n x : ℕ) (daemon : Bool) → is_over (standing_at v x) ≡ false → 0 < times x (attached_to daemon (switch_at v.switches n)) → 0 < times x (attached_to daemon (switch_at switches n)))
    → Leads hand v hand (record v { switches = switches })
reswitched switches hand v size emptied finished attached h = record {
  sound = record {
    once = h.once;
    ready = h.ready;
    slept = h.slept;
    asleep = h.asleep;
    attached = (λ n x daemon is lives. attached n x daemon lives (h.attached n x daemon is lives));
    emptied = (λ n. emptied n (h.emptied n));
    marks = (λ x. closes_more (length v.switches) (length switches) size (fiber_at v.fibers x).work (h.marks x));
    calls = (λ x. standing_more (length v.switches) (length v.groups) (length switches) (length v.groups) size (omega arith) (fiber_at v.fibers x).standing (h.calls x));
    gathered = h.gathered;
  };
  waits = (λ x who is. is);
  finished = over_by;
  made = size;
  gathers = omega arith;
}
  where
    over_by : (n : Tracked) → IsOver v.switches v.groups n → IsOver switches v.groups n
    over_by (OnSwitch n) it = record { opened = omega (arith, it.opened, size); finished = finished n it.opened it.finished }
    over_by (OnGroup n) it = it
    over_by (IsOpened n) it = omega (arith, it, size)

-- what one change of a switch keeps
pub record Alike (gone : ℕ → Type 0) (s t : Switch) : Type 0 where
  pub attached : (x : ℕ) (daemon : Bool) → (gone x → ⊥) → times x (attached_to daemon t) ≡ times x (attached_to daemon s)
  pub emptied : IsEmptied s → IsEmptied t
  pub finished : s.finished ≡ true → t.finished ≡ true

-- one switch changes; who is gone from it has ended
pub changes : (gone : ℕ → Type 0) (n : ℕ) (s : Switch) (hand : List ℕ) (v : View) → Alike gone (switch_at v.switches n) s → ((x : ℕ) → gone x → is_over (standing_at v x) ≡ true)
    → Leads hand v hand (record v { switches = slice_set v.switches n s })
changes gone n s hand v alike over =
    reswitched (slice_set v.switches n s) hand v (omega (arith, set_length v.switches n s))
    (λ k. emptied_by k (set_at never_opened v.switches n k s)) (λ k within. finished_by k (set_at never_opened v.switches n k s))
    (λ k x daemon lives. attached_by k x daemon (λ went. both_ways _ lives (over x went)) (set_at never_opened v.switches n k s))
  where
    emptied_by : (k : ℕ) → SetAt never_opened v.switches n k s → IsEmptied (switch_at v.switches k) → IsEmptied (switch_at (slice_set v.switches n s) k)
    emptied_by k (There is) old = subst IsEmptied (sym is) old
    emptied_by k (Here same is) old = subst IsEmptied (sym is) (alike.emptied (subst (λ (m : ℕ). IsEmptied (switch_at v.switches m)) same old))

    finished_by : (k : ℕ) → SetAt never_opened v.switches n k s → (switch_at v.switches k).finished ≡ true → (switch_at (slice_set v.switches n s) k).finished ≡ true
    finished_by k (There is) old = ap (λ (t : Switch). t.finished) is ∙ old
    finished_by k (Here same is) old = ap (λ (t : Switch). t.finished) is ∙ alike.finished (subst (λ (m : ℕ). (switch_at v.switches m).finished ≡ true) same old)

    attached_by : (k x : ℕ) (daemon : Bool) → (gone x → ⊥) → SetAt never_opened v.switches n k s → 0 < times x (attached_to daemon (switch_at v.switches k)) → 0 < times x (attached_to daemon (switch_at (slice_set v.switches n s) k))
    attached_by k x daemon stays (There is) old = subst (λ (t : Switch). 0 < times x (attached_to daemon t)) (sym is) old
    attached_by k x daemon stays (Here same is) old =
        subst (λ (t : Switch). 0 < times x (attached_to daemon t)) (sym is)
        (subst (λ (count : ℕ). 0 < count) (sym (alike.attached x daemon stays)) (subst (λ (m : ℕ). 0 < times x (attached_to daemon (switch_at v.switches m))) same old))

-- a switch is opened
pub opens : (context : ℕ) (hand : List ℕ) (v : View) → Leads hand v hand (record v { switches = v.switches ++ opened context ∷ [] })
opens context hand v =
    reswitched (v.switches ++ opened context ∷ []) hand v (omega (arith, length-append v.switches (opened context ∷ [])))
    (λ k. emptied_by k (added_at never_opened v.switches k (opened context))) (λ k within. finished_by k within (added_at never_opened v.switches k (opened context)))
    (λ k x daemon lives. attached_by k x daemon (added_at never_opened v.switches k (opened context)))
  where
    emptied_by : (k : ℕ) → AddedAt never_opened v.switches k (opened context) → IsEmptied (switch_at v.switches k) → IsEmptied (switch_at (v.switches ++ opened context ∷ []) k)
    emptied_by k (Last same is) old = subst IsEmptied (sym is) (λ finished. (refl, refl))
    emptied_by k (Before is) old = subst IsEmptied (sym is) old

    finished_by : (k : ℕ) → k < length v.switches → AddedAt never_opened v.switches k (opened context) → (switch_at v.switches k).finished ≡ true → (switch_at (v.switches ++ opened context ∷ []) k).finished ≡ true
    finished_by k within (Last same is) old = absurd (omega (arith, within, same))
    finished_by k within (Before is) old = ap (λ (t : Switch). t.finished) is ∙ old

    -- nothing is attached under a number that no switch has
    none : (x : ℕ) (daemon : Bool) → times x (attached_to daemon never_opened) ≡ 0
    none x true = refl
    none x false = refl

    attached_by : (k x : ℕ) (daemon : Bool) → AddedAt never_opened v.switches k (opened context) → 0 < times x (attached_to daemon (switch_at v.switches k)) → 0 < times x (attached_to daemon (switch_at (v.switches ++ opened context ∷ []) k))
    attached_by k x daemon (Before is) old = subst (λ (t : Switch). 0 < times x (attached_to daemon t)) (sym is) old
    attached_by k x daemon (Last same is) old =
        absurd (omega (arith, none x daemon, subst (λ (t : Switch). 0 < times x (attached_to daemon t)) (subst (λ (m : ℕ). switch_at v.switches m ≡ never_opened) (sym same) (past never_opened v.switches)) old))

-- ## Groups

pub group_length : (groups : List Group) (n : ℕ) (group : Group) → length (slice_set groups n group) ≡ length groups
group_length groups n group = set_length groups n group

-- one group changes; as many of its debts are paid as branches are counted
pub regroups : (n : ℕ) (group : Group) (hand : List ℕ) (v : View) (debts : List ℕ) → ((m : ℕ) → times m debts ≤ times m v.debts)
    → (group_at v.groups n).left + times n debts ≤ group.left + times n v.debts → group.left ≤ (group_at v.groups n).left
    → Leads hand v hand (record v { groups = slice_set v.groups n group; debts = debts })
regroups n group hand v debts fewer paid less h = record {
  sound = record {
    once = h.once;
    ready = h.ready;
    slept = h.slept;
    asleep = h.asleep;
    attached = h.attached;
    emptied = h.emptied;
    marks = h.marks;
    calls = (λ x. standing_more (length v.switches) (length v.groups) (length v.switches) (length (slice_set v.groups n group)) (omega arith) (omega (arith, size)) (fiber_at v.fibers x).standing (h.calls x));
    gathered = record {
      counted = (λ m some. counted_by m some (set_at never_gathered v.groups n m group));
      fresh = (λ m past. omega (arith, fewer m, h.gathered.fresh m (omega (arith, past, size))));
    };
  };
  waits = (λ x who is. is);
  finished = over_by;
  made = omega arith;
  gathers = omega (arith, size);
}
  where
    size : length (slice_set v.groups n group) ≡ length v.groups
    size = set_length v.groups n group

    counted_by : (m : ℕ) → 0 < lives m v.fibers → SetAt never_gathered v.groups n m group → lives m v.fibers + owns m v.fibers + times m debts ≤ (group_at (slice_set v.groups n group) m).left
    counted_by m some (There is) = let same : (group_at (slice_set v.groups n group) m).left ≡ (group_at v.groups m).left = ap (λ (it : Group). it.left) is in omega (arith, same, fewer m, h.gathered.counted m some)
    counted_by m some (Here at is) =
        let same : (group_at (slice_set v.groups n group) m).left ≡ group.left = ap (λ (it : Group). it.left) is in
        let here : (group_at v.groups m).left + times m debts ≤ group.left + times m v.debts = subst (λ (k : ℕ). (group_at v.groups k).left + times k debts ≤ group.left + times k v.debts) (sym at) paid in
        omega (arith, same, here, h.gathered.counted m some)

    left_by : (m : ℕ) → (group_at v.groups m).left ≡ 0 → SetAt never_gathered v.groups n m group → (group_at (slice_set v.groups n group) m).left ≡ 0
    left_by m over (There is) = ap (λ (it : Group). it.left) is ∙ over
    left_by m over (Here at is) =
        let same : (group_at (slice_set v.groups n group) m).left ≡ group.left = ap (λ (it : Group). it.left) is in
        let here : (group_at v.groups n).left ≡ 0 = subst (λ (k : ℕ). (group_at v.groups k).left ≡ 0) at over in
        omega (arith, same, here, less)

    over_by : (m : Tracked) → IsOver v.switches v.groups m → IsOver v.switches (slice_set v.groups n group) m
    over_by (OnSwitch m) it = it
    over_by (IsOpened m) it = it
    over_by (OnGroup m) it = record { gathered = omega (arith, it.gathered, size); over = left_by m it.over (set_at never_gathered v.groups n m group) }

-- a group is made, and so many of its ends will come
pub gathers : (group : Group) (hand : List ℕ) (v : View) (debts : List ℕ) → ((m : ℕ) → (m ≡ length v.groups → ⊥) → times m debts ≤ times m v.debts)
    → Leads hand v hand (record v { groups = v.groups ++ group ∷ []; debts = debts })
gathers group hand v debts fewer h = record {
  sound = record {
    once = h.once;
    ready = h.ready;
    slept = h.slept;
    asleep = h.asleep;
    attached = h.attached;
    emptied = h.emptied;
    marks = h.marks;
    calls = (λ x. standing_more (length v.switches) (length v.groups) (length v.switches) (length (v.groups ++ group ∷ [])) (omega arith) (omega (arith, size)) (fiber_at v.fibers x).standing (h.calls x));
    gathered = record {
      counted = (λ m some. counted_by m some (compared m (length v.groups)));
      fresh = (λ m past. omega (arith, fewer m (λ same. omega (arith, past, size, same)), h.gathered.fresh m (omega (arith, past, size))));
    };
  };
  waits = (λ x who is. is);
  finished = over_by;
  made = omega arith;
  gathers = omega (arith, size);
}
  where
    size : length (v.groups ++ group ∷ []) ≡ length v.groups + 1
    size = length-append v.groups (group ∷ [])

    counted_by : (m : ℕ) → 0 < lives m v.fibers → Compared m (length v.groups) → lives m v.fibers + owns m v.fibers + times m debts ≤ (group_at (v.groups ++ group ∷ []) m).left
    counted_by m some (Same same is_one) = absurd (omega (arith, some, h.gathered.fresh m (omega (arith, same))))
    counted_by m some (Other differs none) = by (added_at never_gathered v.groups m group)
      where
        by : AddedAt never_gathered v.groups m group → lives m v.fibers + owns m v.fibers + times m debts ≤ (group_at (v.groups ++ group ∷ []) m).left
        by (Last same is) = absurd (differs same)
        by (Before is) =
            let same : (group_at (v.groups ++ group ∷ []) m).left ≡ (group_at v.groups m).left = ap (λ (it : Group). it.left) is in omega (arith, same, fewer m differs, h.gathered.counted m some)

    left_by : (m : ℕ) → IsJoined v.groups m → AddedAt never_gathered v.groups m group → (group_at (v.groups ++ group ∷ []) m).left ≡ 0
    left_by m it (Last same is) = absurd (omega (arith, same, it.gathered))
    left_by m it (Before is) = ap (λ (it : Group). it.left) is ∙ it.over

    over_by : (m : Tracked) → IsOver v.switches v.groups m → IsOver v.switches (v.groups ++ group ∷ []) m
    over_by (OnSwitch m) it = it
    over_by (IsOpened m) it = it
    over_by (OnGroup m) it = record { gathered = omega (arith, it.gathered, size); over = left_by m it (added_at never_gathered v.groups m group) }

-- some debts are dropped
pub forgives : (debts hand : List ℕ) (v : View) → ((m : ℕ) → times m debts ≤ times m v.debts) → Leads hand v hand (record v { debts = debts })
forgives debts hand v fewer h = record {
  sound = record {
    once = h.once;
    ready = h.ready;
    slept = h.slept;
    asleep = h.asleep;
    attached = h.attached;
    emptied = h.emptied;
    marks = h.marks;
    calls = h.calls;
    gathered = shifted v.fibers v.fibers v.groups v.debts debts (λ n. omega arith) (λ n. omega (arith, fewer n)) h.gathered;
  };
  waits = (λ x who is. is);
  finished = (λ n it. it);
  made = omega arith;
  gathers = omega arith;
}
