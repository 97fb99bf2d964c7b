-- Contexts after one more call: what keeps all and what forgets the ended go on alike, and so they do with a domain.
use Rattle.std.proofs.Common.{◌≡◌, ◌⊎◌, inl, inr, ℕ, ◌+◌, ◌≤◌, Bool, true, false, List, [], ◌∷◌, ◌++◌, length, map, Option, Some, None, refl, ap, ap₂, ◌∙◌, sym, subst, true≢false, append-nil}
use Rattle.eio_value.specs.declared.plain.Plain.{Plain}
use Rattle.spec_parts.specs.Contexts.{Context, Made, make, is_live, is_full, off, end, takes_effect, cancel, reached, to_be_struck}
use Rattle.spec_parts.specs.ContextCalls.{Contexts, ContextCall, Root, Sub, Protect, Cancel, Wait, Unwait, End, no_contexts, called, after}
use Rattle.cancel_tree.specs.Ended.{left_by_end}
use Rattle.cancel_tree.specs.Endings.{HasNoLiveChild}
use Rattle.cancel_tree.specs.Forgetting.{AnswersAlike, MayCall, MayCallAll, left, left_after}
use Rattle.cancel_tree.specs.Waits.{waits, waits_in}
use Rattle.cancel_tree.proofs.Changes.{cancel_none}
use Rattle.cancel_tree.proofs.Once.{cancels_once}
use Rattle.cancel_tree.proofs.Forgotten.{forgets_nothing_live}
use Rattle.spec_fiber.specs.Replies.{Position}
use Rattle.spec_machine.specs.Domain.{Role, Next, Wait as WaitIn, Asleep, ForCancel, Standing, Ready, Parked, Ended, Fiber, Duty, DomainState, fiber_at, has_ended, live_fibers, made, off_for, stands, with_fiber}
use Rattle.spec_machine.specs.DutyMoves.{own_strike}
use Rattle.spec_machine.specs.Steps.{can_be_cancelled, cancels, strike_by, waiting_from}
use Rattle.domain_strikes.specs.Waiting.InStep.{AreContexts, ContextsInStep, DomainsInStep, StrikesInStep}
use Rattle.domain_strikes.specs.Waiting.WhoWaits.{WaitsAlike, can_be_struck, contexts_of}
use Rattle.domain_strikes.proofs.Waiting.Listed.{by_standing, in_step, lives_below}
use Rattle.domain_strikes.proofs.Waiting.Struck.{few_struck}

-- ## One call more

after_one : (calls : List ContextCall) (call : ContextCall) (s : Contexts) → after (calls ++ call ∷ []) s ≡ called call (after calls s)
unfolding after
after_one [] call s = refl
after_one (first ∷ calls) call s = after_one calls call (called first s)

left_after_one : (calls : List ContextCall) (call : ContextCall) (s : Contexts) → left_after (calls ++ call ∷ []) s ≡ left call (left_after calls s)
unfolding left_after
left_after_one [] call s = refl
left_after_one (first ∷ calls) call s = left_after_one calls call (left first s)

may_one : (calls : List ContextCall) (call : ContextCall) (s : Contexts) → MayCallAll calls s → MayCall call (after calls s) → MayCallAll (calls ++ call ∷ []) s
unfolding after MayCallAll
may_one [] call s may it = (it, tt)
may_one (first ∷ calls) call s may it = (may.0, may_one calls call (called first s) may.1 it)

begin_alike : AreContexts no_contexts no_contexts
unfolding after left_after MayCallAll
begin_alike = record { calls = []; may = tt; forgets = refl; keeps = refl }

-- the number that a new one has, by whether there is room and how many were made
numbered : (full : Bool) → ℕ → Option ℕ
numbered full n = elim full [ true ↦ None | false ↦ Some n ]

number_by : (full : Bool) (context : Context) (contexts : List Context)
    → (elim full as (λ _. Made) [ true ↦ record { number = None; contexts = contexts } | false ↦ record { number = Some (length contexts); contexts = contexts ++ context ∷ [] } ]).number ≡ numbered full (length contexts)
unfolding numbered
number_by true context contexts = refl
number_by false context contexts = refl

module _ (kept all : Contexts) (are : AreContexts kept all) where
  pub answers_alike : AnswersAlike all kept
  answers_alike = subst (λ t. AnswersAlike all t) (sym are.forgets) (subst (λ s. AnswersAlike s (left_after are.calls no_contexts)) (sym are.keeps) (forgets_nothing_live are.calls are.may))

  pub number_alike : (context : Context) → (make context kept.made).number ≡ (make context all.made).number
  number_alike context =
      number_by (is_full kept.made) context kept.made ∙ (ap₂ numbered answers_alike.full answers_alike.count ∙ sym (number_by (is_full all.made) context all.made))

  pub childless_alike : (c : ℕ) → HasNoLiveChild kept.made c → HasNoLiveChild all.made c
  childless_alike c childless x lives is =
      childless x (answers_alike.live x ∙ lives) (ap (λ (y : Context). y.parent) (answers_alike.stand x lives) ∙ is)

  lives_in_all : (c : ℕ) → is_live kept.made c ≡ true → is_live all.made c ≡ true
  lives_in_all c lives = sym (answers_alike.live c) ∙ lives

  -- the condition of a call, as code sees it, is met where nothing is forgotten
  may_alike : (call : ContextCall) → MayCall call kept → MayCall call all
  may_alike Root may = tt
  may_alike (Sub parent) may = lives_in_all parent may
  may_alike (Protect parent) may = lives_in_all parent may
  may_alike (Cancel c why) may = tt
  may_alike (Wait c fiber) may = lives_in_all c may
  may_alike (Unwait fiber) may = tt
  may_alike (End c) may = record { childless = childless_alike c may.childless; idle = ap (waits_in c) (sym answers_alike.waiting) ∙ may.idle }

  live_here : (c : ℕ) → is_live all.made c ≡ true → is_live kept.made c ≡ true
  live_here c lives = answers_alike.live c ∙ lives

  pub childless_here : (c : ℕ) → HasNoLiveChild all.made c → HasNoLiveChild kept.made c
  childless_here c childless x lives is = (
      let there : is_live all.made x ≡ true = lives_in_all x lives in
      childless x there (ap (λ (y : Context). y.parent) (sym (answers_alike.stand x there)) ∙ is))

  -- and the other way
  may_here : (call : ContextCall) → MayCall call all → MayCall call kept
  may_here Root may = tt
  may_here (Sub parent) may = live_here parent may
  may_here (Protect parent) may = live_here parent may
  may_here (Cancel c why) may = tt
  may_here (Wait c fiber) may = live_here c may
  may_here (Unwait fiber) may = tt
  may_here (End c) may = record { childless = childless_here c may.childless; idle = ap (waits_in c) answers_alike.waiting ∙ may.idle }

  pub one_more : (call : ContextCall) → MayCall call kept → AreContexts (left call kept) (called call all)
  one_more call may = record {
    calls = are.calls ++ call ∷ [];
    may = may_one are.calls call no_contexts are.may (subst (MayCall call) are.keeps (may_alike call may));
    forgets = ap (left call) are.forgets ∙ sym (left_after_one are.calls call no_contexts);
    keeps = ap (called call) are.keeps ∙ sym (after_one are.calls call no_contexts);
  }

pub contexts_in_step : ContextsInStep
contexts_in_step = record {
  opens = begin_alike;
  alike = answers_alike;
  numbers = number_alike;
  goes_on = λ kept all call are may. one_more kept all are call may;
  meets = λ kept all call are. (may_alike kept all are call, may_here kept all are call);
}

-- ## With a domain

module _ (kept : Contexts) (l : DomainState) (are : AreContexts kept (contexts_of l)) where
  alike : AnswersAlike (contexts_of l) kept
  alike = answers_alike kept (contexts_of l) are

  -- with another list of those that wait, which is the same
  with_waiting_as : (forgetful : Contexts) (all : Contexts) (k : DomainState) → AreContexts forgetful all → all.made ≡ k.contexts → all.waiting ≡ waiting_from 0 k.fibers
      → AreContexts forgetful (contexts_of k)
  with_waiting_as forgetful all k both made waiting =
      subst (AreContexts forgetful) (ap₂ (λ made waiting. record { made = made; waiting = waiting }) made waiting) both

  struck_alike : (maker c : ℕ) (why : Plain) → (cancels maker c why l).duties ≡ l.duties ++ map (strike_by maker) (to_be_struck kept.made kept.waiting c)
  struck_alike maker c why = ap (λ these. l.duties ++ map (strike_by maker) these) (sym (alike.struck c))

  parks_alike : (g : ℕ) (wait : WaitIn) → has_ended (fiber_at l.fibers g) ≡ false → can_be_struck (fiber_at l.fibers g) ≡ false → can_be_cancelled wait ≡ true
      → is_live kept.made (fiber_at l.fibers g).context ≡ true
      → (waits g kept.waiting ≡ false) × (length kept.waiting + 1 ≤ live_fibers l.fibers)
      × AreContexts (called (Wait (fiber_at l.fibers g).context g) kept) (contexts_of (stands (Parked wait) g l))
  parks_alike g wait lives out can live = (
    ap (waits g) alike.waiting ∙ (by_standing.who l.fibers g ∙ out),
    subst (λ ws. length ws + 1 ≤ live_fibers l.fibers) (sym alike.waiting) (by_standing.room l.fibers g lives out),
    with_waiting_as (called (Wait (fiber_at l.fibers g).context g) kept) (called (Wait (fiber_at l.fibers g).context g) (contexts_of l)) (stands (Parked wait) g l)
        (one_more kept (contexts_of l) are (Wait (fiber_at l.fibers g).context g) live) refl
        (sym (in_step.parks l.fibers g (record (fiber_at l.fibers g) { standing = Parked wait }) (lives_below l.fibers g lives) out can)),
  )

  wakes_alike : (g : ℕ) (next : Next) → can_be_struck (fiber_at l.fibers g) ≡ true
      → (waits g kept.waiting ≡ true) × AreContexts (called (Unwait g) kept) (contexts_of (stands (Ready next) g l))
  wakes_alike g next can = (
    ap (waits g) alike.waiting ∙ (by_standing.who l.fibers g ∙ can),
    with_waiting_as (called (Unwait g) kept) (called (Unwait g) (contexts_of l)) (stands (Ready next) g l)
        (one_more kept (contexts_of l) are (Unwait g) tt) refl
        (sym (in_step.wakes l.fibers g (record (fiber_at l.fibers g) { standing = Ready next }) refl)),
  )

  ends_alike : (c : ℕ) → HasNoLiveChild kept.made c
      → ((g : ℕ) → has_ended (fiber_at l.fibers g) ≡ false → (fiber_at l.fibers g).context ≡ c → can_be_struck (fiber_at l.fibers g) ≡ false)
      → (waits_in c kept.waiting ≡ false) × AreContexts (left_by_end c kept) (contexts_of (record l { contexts = end c l.contexts }))
  ends_alike c childless out = (
      let idle : waits_in c kept.waiting ≡ false = ap (waits_in c) alike.waiting ∙ by_standing.nobody l.fibers c out in
      (idle, one_more kept (contexts_of l) are (End c) (record { childless = childless; idle = idle })))

  -- a fiber changes, and no wait sees it
  pub one_unseen : (g : ℕ) (fiber : Fiber) → WaitsAlike (fiber_at l.fibers g) fiber → AreContexts kept (contexts_of (with_fiber g fiber l))
  one_unseen g fiber same = with_waiting_as kept (contexts_of l) (with_fiber g fiber l) are refl (sym (in_step.stays l.fibers g fiber same))

  changes_unseen : (g : ℕ) (fiber : Fiber) → can_be_struck (fiber_at l.fibers g) ≡ false → can_be_struck fiber ≡ false → AreContexts kept (contexts_of (with_fiber g fiber l))
  changes_unseen g fiber before after = one_unseen g fiber (record { strikes = after ∙ sym before; context = λ can. absurd (true≢false (sym can ∙ before)) })

  makes_unseen : (context : ℕ) (role : Role) (position : Position) → AreContexts kept (contexts_of (made context role position l))
  makes_unseen context role position = with_waiting_as kept (contexts_of l) (made context role position l) are refl (sym (in_step.makes l.fibers _ refl))

  off_there : (g : ℕ) → is_live kept.made (fiber_at l.fibers g).context ≡ true → off kept.made (fiber_at l.fibers g).context ≡ off_for l g
  off_there g live = alike.off (fiber_at l.fibers g).context (sym (alike.live (fiber_at l.fibers g).context) ∙ live)

  own_alike : (duty : Duty) (g : ℕ) (wait : WaitIn) → (fiber_at l.fibers g).standing ≡ Parked wait → (wait ≡ ForCancel) ⊎ (wait ≡ Asleep)
      → AreContexts (called (Unwait g) kept) (contexts_of (own_strike duty g (Parked wait) l).state)
  own_alike duty g wait stands which = elim which as (λ _. AreContexts (called (Unwait g) kept) (contexts_of (own_strike duty g (Parked wait) l).state)) [
    | inl e ↦ subst (λ it. AreContexts (called (Unwait g) kept) (contexts_of (own_strike duty g (Parked it) l).state)) (sym e) (wakes_alike g _ (can_by ForCancel (stands ∙ ap Parked e) refl)).1
    | inr e ↦ subst (λ it. AreContexts (called (Unwait g) kept) (contexts_of (own_strike duty g (Parked it) l).state)) (sym e) (wakes_alike g _ (can_by Asleep (stands ∙ ap Parked e) refl)).1
  ] where
    can_by : (it : WaitIn) → (fiber_at l.fibers g).standing ≡ Parked it → can_be_cancelled it ≡ true → can_be_struck (fiber_at l.fibers g) ≡ true
    can_by it is can = ap (λ (standing : Standing). elim standing as (λ _. Bool) [ Parked wait ↦ can_be_cancelled wait | Ready next ↦ false | Ended it ↦ false ]) is ∙ can

-- ## Cancelled again

again_alike : (maker c : ℕ) (why : Plain) (l : DomainState) → takes_effect l.contexts c ≡ false → cancels maker c why l ≡ l
again_alike maker c why l none = (
    let contexts : cancel c why l.contexts ≡ l.contexts = cancel_none l.contexts c why none in
    let struck : to_be_struck l.contexts (waiting_from 0 l.fibers) c ≡ [] =
    ap (λ b. elim b as (λ _. List ℕ) [ true ↦ reached l.contexts (waiting_from 0 l.fibers) c | false ↦ [] ]) none in
    let duties : l.duties ++ map (strike_by maker) (to_be_struck l.contexts (waiting_from 0 l.fibers) c) ≡ l.duties =
    ap (λ these. l.duties ++ map (strike_by maker) these) struck ∙ append-nil l.duties in
    ap₂ (λ contexts duties. record l { contexts = contexts; duties = duties }) contexts duties)

-- ## The laws

pub domains_in_step : DomainsInStep
domains_in_step = record {
  cancelled = λ kept l maker c why are. (struck_alike kept l are maker c why, one_more kept (contexts_of l) are (Cancel c why) tt);
  parked = λ kept l g wait are lives out can live. parks_alike kept l are g wait lives out can live;
  woken = λ kept l g next are can. wakes_alike kept l are g next can;
  ended = λ kept l c are childless out. ends_alike kept l are c childless out;
  changed = λ kept l g fiber are before after. changes_unseen kept l are g fiber before after;
  made_one = λ kept l context role position are. makes_unseen kept l are context role position;
  unseen = λ kept l k are contexts same. with_waiting_as kept l are kept (contexts_of l) k are (sym contexts) (sym (in_step.goes_by_waits l.fibers k.fibers same));
}

pub strikes_in_step : StrikesInStep
strikes_in_step = record {
  won = λ kept l duty g are can live. (let it = wakes_alike kept l are g _ can in (it.0, off_there kept l are g live, it.1));
  own = λ kept l duty g wait are stands which. own_alike kept l are duty g wait stands which;
  few = few_struck;
  at_once = λ contexts ws c why.
      ap (λ b. elim b as (λ _. List ℕ) [ true ↦ reached (cancel c why contexts) ws c | false ↦ [] ]) (cancels_once contexts c why);
  again = λ maker other c why because l. again_alike other c because (cancels maker c why l) (cancels_once l.contexts c why);
}
