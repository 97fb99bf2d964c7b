-- What the calls on contexts and switches do to what is kept, and that it still stands for the domain.
use Rattle.std.proofs.Common.{◌≡◌, inl, inr, ℕ, zero, suc, ◌<◌, Bool, true, false, not, List, [], ◌∷◌, ◌++◌, length, map, slice_set, Option, Some, None, refl, ap, ◌∙◌, sym, subst, true≢false}
use Rattle.std.specs.Option.{unwrap_or}
use Rattle.std.specs.Prelude.{IfSome, IsSomeAnd, OnOk, OnErr, Result, Ok, Err, is_ok}
use Rattle.std.proofs.lemmas.Option.{none-some, same_Some}
use Rattle.eio_value.specs.declared.plain.Plain.{Plain}
use Rattle.eio_value.specs.declared.raised.Raised.{Raised}
use Rattle.eio_value.specs.Exceptions.{reason}
use Rattle.script_forms.specs.declared.node.Node.{Node}
use Rattle.spec_parts.specs.Contexts as contexts
use Rattle.spec_parts.specs.Contexts.{Context, context_at, is_live, off, cancel, end, sub, protect, takes_effect, to_be_struck}
use Rattle.spec_parts.specs.ContextCalls.{Contexts, Cancel, Protect, Sub, called}
use Rattle.spec_parts.specs.Errors.{joined}
use Rattle.spec_parts.specs.Switches.{Switch, fail, never_opened, switch_at, with_switch}
use Rattle.cancel_tree.specs.Ended.{left_by_end}
use Rattle.cancel_tree.specs.Forgetting.{AnswersAlike}
use Rattle.cancel_tree.specs.Waits.{waits_in}
use Rattle.domain_strikes.specs.Owing.{StrikesAtOnce}
use Rattle.spec_machine.specs.ContextMoves.{leaves, sub_of, protected_of}
use Rattle.spec_machine.specs.Domain.{Duty, DomainState, fiber_at, moved_to, off_for}
use Rattle.spec_machine.specs.Steps.{cancels, strike_by}
use Rattle.spec_machine.specs.SwitchMoves.{fails, with_switch_at}
use Rattle.domain_strikes.specs.Waiting.InStep.{AreContexts}
use Rattle.domain_strikes.specs.Waiting.Parts.{NobodyWaitsIn}
use Rattle.domain_strikes.specs.Waiting.WhoWaits.{can_be_struck, contexts_of}
use Rattle.domain_strikes.proofs.Waiting.Alike.{contexts_in_step, domains_in_step, strikes_in_step}
use Rattle.domain_strikes.proofs.Waiting.Listed.{by_standing}
use Rattle.domain_strikes.proofs.Waiting.Parts.{calls_in_step}
use Rattle.domain_core.specs.Answering.{Becomes, BecomesUnder, SameFibers}
use Rattle.domain_core.specs.Conditions.{IsAwake, LeavesScopes, MayEndContext}
use Rattle.domain_core.specs.Keeping.{KeptFiber, KeptDomain, kept_at, changed_at}
use Rattle.domain_core.specs.Mirrors.{Mirrors}
use Rattle.domain_core.proofs.ByNumber as numbers
use Rattle.domain_core.proofs.ByNumber.{same_or_other}
use Rattle.domain_core.proofs.Mirroring.{changed_there, contexts_mirrors, is_fiber, moved_mirrors, switches_mirrors}

-- ## Contexts

module _ (nodes : List Node) (texts : List (List ℕ)) (kept : KeptDomain) (l : DomainState) (mirrors : Mirrors nodes texts kept l) where
  pub answers_alike : AnswersAlike (contexts_of l) kept.contexts
  answers_alike = contexts_in_step.alike kept.contexts (contexts_of l) mirrors.contexts

  context_there : (g : ℕ) (f : KeptFiber) → kept_at kept.fibers g ≡ Some f → (fiber_at l.fibers g).context ≡ f.context
  context_there g f there = (is_fiber nodes texts kept l g f there mirrors).context

  pub lives_in_definition : (c : ℕ) → is_live kept.contexts.made c ≡ true → is_live l.contexts c ≡ true
  lives_in_definition c live = sym (answers_alike.live c) ∙ live

  -- the context of a fiber is off by the same reason
  pub off_there : (g : ℕ) (f : KeptFiber) → kept_at kept.fibers g ≡ Some f → is_live kept.contexts.made f.context ≡ true → off kept.contexts.made f.context ≡ off_for l g
  off_there g f there live = answers_alike.off f.context (lives_in_definition f.context live) ∙ ap (off l.contexts) (sym (context_there g f there))

  -- a new one has the same number, and is there on both sides
  module _ (g : ℕ) (f : KeptFiber) (there : kept_at kept.fibers g ≡ Some f) (live : is_live kept.contexts.made f.context ≡ true) where
    pub sub_number : (sub f.context kept.contexts.made).number ≡ (sub_of l g).number
    sub_number = (
        let it = calls_in_step.subs kept.contexts l f.context mirrors.contexts (lives_in_definition f.context live) in
        it.0 ∙ ap (λ (c : ℕ). (sub c l.contexts).number) (sym (context_there g f there)))

    pub sub_mirrors : (contexts : Contexts) → contexts ≡ called (Sub f.context) kept.contexts
        → Mirrors nodes texts (record kept { contexts = contexts }) (record l { contexts = (sub_of l g).contexts })
    sub_mirrors contexts are = (
        let it = calls_in_step.subs kept.contexts l f.context mirrors.contexts (lives_in_definition f.context live) in
        subst (λ (xs : Contexts). Mirrors nodes texts (record kept { contexts = xs }) (record l { contexts = (sub_of l g).contexts })) (sym are)
        (subst (λ (c : ℕ). Mirrors nodes texts (record kept { contexts = called (Sub f.context) kept.contexts }) (record l { contexts = (sub c l.contexts).contexts })) (sym (context_there g f there))
        (contexts_mirrors nodes texts kept l mirrors (called (Sub f.context) kept.contexts) (sub f.context l.contexts).contexts it.1)))

    pub protected_number : (protect f.context kept.contexts.made).number ≡ (protected_of l g).number
    protected_number = (
        let it = calls_in_step.protects kept.contexts l f.context mirrors.contexts (lives_in_definition f.context live) in
        it.0 ∙ ap (λ (c : ℕ). (protect c l.contexts).number) (sym (context_there g f there)))

    pub protected_mirrors : (contexts : Contexts) → contexts ≡ called (Protect f.context) kept.contexts
        → Mirrors nodes texts (record kept { contexts = contexts }) (record l { contexts = (protected_of l g).contexts })
    protected_mirrors contexts are = (
        let it = calls_in_step.protects kept.contexts l f.context mirrors.contexts (lives_in_definition f.context live) in
        subst (λ (xs : Contexts). Mirrors nodes texts (record kept { contexts = xs }) (record l { contexts = (protected_of l g).contexts })) (sym are)
        (subst (λ (c : ℕ). Mirrors nodes texts (record kept { contexts = called (Protect f.context) kept.contexts }) (record l { contexts = (protect c l.contexts).contexts })) (sym (context_there g f there))
        (contexts_mirrors nodes texts kept l mirrors (called (Protect f.context) kept.contexts) (protect f.context l.contexts).contexts it.1)))

  -- nobody waits on either side
  pub nobody_waits : (c : ℕ) → waits_in c kept.contexts.waiting ≡ false → NobodyWaitsIn l c
  nobody_waits c idle g lives is = by (can_be_struck (fiber_at l.fibers g)) refl where
    by : (struck : Bool) → can_be_struck (fiber_at l.fibers g) ≡ struck → struck ≡ false
    by false is_struck = refl
    by true is_struck = (
        let waits : waits_in (fiber_at l.fibers g).context (contexts_of l).waiting ≡ true = by_standing.runs_there l.fibers g is_struck in
        absurd (true≢false (sym waits ∙ (ap (λ (x : ℕ). waits_in x (contexts_of l).waiting) is ∙ (ap (waits_in c) (sym answers_alike.waiting) ∙ idle)))))

  -- a context has ended on both
  pub ended_mirrors : (c : ℕ) → MayEndContext kept c → Mirrors nodes texts (record kept { contexts = left_by_end c kept.contexts }) (record l { contexts = end c l.contexts })
  ended_mirrors c may = (
      let gone = domains_in_step.ended kept.contexts l c mirrors.contexts may.childless (nobody_waits c may.idle) in
      contexts_mirrors nodes texts kept l mirrors (left_by_end c kept.contexts) (end c l.contexts) gone.1)

  pub same_parent : (c : ℕ) → is_live kept.contexts.made c ≡ true → (context_at kept.contexts.made c).parent ≡ (context_at l.contexts c).parent
  same_parent c live = ap (λ (x : Context). x.parent) (answers_alike.stand c (lives_in_definition c live))

  -- and the fiber runs again in the one above it
  pub leaves_mirrors : (g c : ℕ) → IsAwake kept g → MayEndContext kept c
      → (fibers : List (Option KeptFiber)) (contexts : Contexts) (above : ℕ)
      → above ≡ unwrap_or (context_at kept.contexts.made c).parent 0
      → contexts ≡ left_by_end c kept.contexts
      → fibers ≡ changed_at g (λ fiber. record fiber { context = above }) kept.fibers
      → Mirrors nodes texts (record kept { fibers = fibers; contexts = contexts }) (leaves c g l)
  leaves_mirrors g c awake may fibers contexts above is_above are_contexts are_fibers = (
      let moved = moved_mirrors nodes texts (record kept { contexts = left_by_end c kept.contexts }) (record l { contexts = end c l.contexts }) g awake.fiber awake.there (ended_mirrors c may) awake.awake above in
      let same : above ≡ unwrap_or (context_at l.contexts c).parent 0 = is_above ∙ ap (λ p. unwrap_or p 0) (same_parent c may.live) in
      subst (λ (xs : Contexts). Mirrors nodes texts (record kept { fibers = fibers; contexts = xs }) (leaves c g l)) (sym are_contexts)
      (subst (λ (xs : List (Option KeptFiber)). Mirrors nodes texts (record kept { fibers = xs; contexts = left_by_end c kept.contexts }) (leaves c g l)) (sym are_fibers)
      (subst (λ (p : ℕ). Mirrors nodes texts (record kept { fibers = changed_at g (λ fiber. record fiber { context = above }) kept.fibers; contexts = left_by_end c kept.contexts }) (moved_to p g (record l { contexts = end c l.contexts }))) same
      moved)))

  -- ## Strikes

  -- a cancellation strikes the same on both
  pub cancels_mirrors : (maker c : ℕ) (why : Plain) (contexts : Contexts) (owed : List Duty) → contexts ≡ called (Cancel c why) kept.contexts
      → owed ≡ kept.owed ++ map (strike_by maker) (to_be_struck kept.contexts.made kept.contexts.waiting c)
      → Mirrors nodes texts (record kept { contexts = contexts; owed = owed }) (cancels maker c why l)
  cancels_mirrors maker c why contexts owed are_contexts are_owed = (
      let struck = domains_in_step.cancelled kept.contexts l maker c why mirrors.contexts in
      record {
        number = mirrors.number;
        count = mirrors.count;
        fibers = mirrors.fibers;
        came = mirrors.came;
        ready = mirrors.ready;
        duties = struck.0 ∙ (ap (λ (xs : List Duty). xs ++ map (strike_by maker) (to_be_struck kept.contexts.made kept.contexts.waiting c)) mirrors.duties ∙ sym are_owed);
        contexts = subst (λ (xs : Contexts). AreContexts xs (contexts_of (cancels maker c why l))) (sym are_contexts) struck.1;
        switches = mirrors.switches;
        groups = mirrors.groups;
        texts = mirrors.texts;
        serial = mirrors.serial;
        stamp = mirrors.stamp;
        lines = mirrors.lines;
        halted = mirrors.halted;
      })

  -- ## Switches

  pub switched_mirrors : (n : ℕ) (switch : Switch) (switches : List Switch) → switches ≡ with_switch n switch kept.switches
      → Mirrors nodes texts (record kept { switches = switches }) (with_switch_at n switch l)
  switched_mirrors n switch switches are =
      subst (λ (xs : List Switch). Mirrors nodes texts (record kept { switches = xs }) (with_switch_at n switch l)) (ap (with_switch n switch) mirrors.switches ∙ sym are)
      (switches_mirrors nodes texts kept l mirrors (with_switch n switch l.switches))

-- whatever the number is, what was kept before goes on so
module _ (before kept : KeptDomain) (same : kept ≡ before) (g : ℕ) (f : KeptFiber) (there : kept_at kept.fibers g ≡ Some f) (live : is_live kept.contexts.made f.context ≡ true) where
  pub sub_becomes : (found : Option ℕ) (contexts : Contexts) → contexts ≡ called (Sub f.context) kept.contexts
      → IfSome found (λ made. Becomes (λ l. record l { contexts = (sub_of l g).contexts }) before (record kept { contexts = contexts }))
  sub_becomes None contexts are = tt
  sub_becomes (Some made) contexts are = λ nodes texts l mirrors.
      sub_mirrors nodes texts kept l (subst (λ (k : KeptDomain). Mirrors nodes texts k l) (sym same) mirrors) g f there live contexts are

  pub protected_becomes : (found : Option ℕ) (contexts : Contexts) → contexts ≡ called (Protect f.context) kept.contexts
      → IfSome found (λ made. Becomes (λ l. record l { contexts = (protected_of l g).contexts }) before (record kept { contexts = contexts }))
  protected_becomes None contexts are = tt
  protected_becomes (Some made) contexts are = λ nodes texts l mirrors.
      protected_mirrors nodes texts kept l (subst (λ (k : KeptDomain). Mirrors nodes texts k l) (sym same) mirrors) g f there live contexts are

-- a fiber that has moved is awake as it was
pub awake_moved : (old new : KeptDomain) (g context : ℕ) → IsAwake old g → new.fibers ≡ changed_at g (λ fiber. record fiber { context = context }) old.fibers → IsAwake new g
awake_moved old new g context awake are = record {
  fiber = record (awake.fiber) { context = context };
  there = ap (λ (xs : List (Option KeptFiber)). kept_at xs g) are ∙ changed_there old.fibers g (λ fiber. record fiber { context = context }) awake.fiber awake.there;
  awake = awake.awake;
}

-- ## What a cancellation leaves

-- what a changed context has in common with the old one
set_same : {B : Type 0} (part : Context → B) (made : List Context) (c x : ℕ) (new : Context) → part new ≡ part (context_at made c)
    → part (context_at (slice_set made c new) x) ≡ part (context_at made x)
set_same part [] c x new same = refl
set_same part (y ∷ made) zero zero new same = same
set_same part (y ∷ made) zero (suc x) new same = refl
set_same part (y ∷ made) (suc c) zero new same = refl
set_same part (y ∷ made) (suc c) (suc x) new same = set_same part made c x new same

cancel_same : {B : Type 0} (part : Context → B) → ((context : Context) (why : Plain) → part (record context { reason = Some why }) ≡ part context)
    → (c : ℕ) (why : Plain) (made : List Context) (x : ℕ) → part (context_at (cancel c why made) x) ≡ part (context_at made x)
cancel_same part same c why made x = by (takes_effect made c) where
  by : (takes : Bool)
      → part (context_at (elim takes as (λ _. List Context) [ true ↦ slice_set made c (record (context_at made c) { reason = Some why }) | false ↦ made ]) x) ≡ part (context_at made x)
  by false = refl
  by true = set_same part made c x (record (context_at made c) { reason = Some why }) (same (context_at made c) why)

cancel_length : (c : ℕ) (why : Plain) (made : List Context) → length (cancel c why made) ≡ length made
cancel_length c why made = by (takes_effect made c) where
  by : (takes : Bool)
      → length (elim takes as (λ _. List Context) [ true ↦ slice_set made c (record (context_at made c) { reason = Some why }) | false ↦ made ]) ≡ length made
  by false = refl
  by true = numbers.set_keeps_length contexts.never_made made c (record (context_at made c) { reason = Some why })

module _ (old new : Contexts) (c : ℕ) (why : Plain) (are : new ≡ called (Cancel c why) old) where
  pub cancelled_live : (x : ℕ) → is_live new.made x ≡ is_live old.made x
  cancelled_live x = ap (λ (s : Contexts). is_live s.made x) are ∙ cancel_same (λ (it : Context). not it.ended) (λ context because. refl) c why old.made x

  cancelled_parent : (x : ℕ) → (context_at new.made x).parent ≡ (context_at old.made x).parent
  cancelled_parent x = ap (λ (s : Contexts). (context_at s.made x).parent) are ∙ cancel_same (λ (it : Context). it.parent) (λ context because. refl) c why old.made x

  pub cancelled_length : length new.made ≡ length old.made
  cancelled_length = ap (λ (s : Contexts). length s.made) are ∙ cancel_length c why old.made

  cancelled_waiting : new.waiting ≡ old.waiting
  cancelled_waiting = ap (λ (s : Contexts). s.waiting) are

  -- it strikes nobody again
  pub cancelled_once : (owed : List Duty) → StrikesAtOnce owed new c
  cancelled_once owed = inr (ap (λ (s : Contexts). to_be_struck s.made s.waiting c) are ∙ strikes_in_step.at_once old.made old.waiting c why)

-- what may end may still end
pub ends_still : (old new : KeptDomain) (c : ℕ) (why : Plain) → new.contexts ≡ called (Cancel c why) old.contexts → (x : ℕ) → MayEndContext old x → MayEndContext new x
ends_still old new c why are x may = record {
  live = cancelled_live old.contexts new.contexts c why are x ∙ may.live;
  childless = λ y lives is. may.childless y (sym (cancelled_live old.contexts new.contexts c why are y) ∙ lives) (sym (cancelled_parent old.contexts new.contexts c why are y) ∙ is);
  idle = ap (waits_in x) (cancelled_waiting old.contexts new.contexts c why are) ∙ may.idle;
}

-- ## What a failure leaves

-- nothing was changed
pub leaves_all : (kept new : KeptDomain) → new ≡ kept → LeavesScopes kept new
leaves_all kept new same = subst (λ (k : KeptDomain). LeavesScopes kept k) (sym same) (record {
  fibers = record { fibers = refl; ready = refl };
  contexts = refl;
  live = λ c. refl;
  ends = λ c may. may;
  opened = refl;
  switches = λ n. ((switch_at kept.switches n).errors, refl);
  groups = refl;
})

-- nor were the switches
pub leaves_as : (old before : KeptDomain) → old ≡ before → (switches : List Switch) → switches ≡ old.switches → LeavesScopes before (record old { switches = switches })
leaves_as old before same switches are =
    leaves_all before (record old { switches = switches }) (ap (λ (all : List Switch). record old { switches = all }) are ∙ same)

-- what holds of an answer
pub where_ok : {T E P : Type 0} (answer : Result T E) → is_ok answer ≡ true → OnOk answer P → P
where_ok (Ok x) is it = it
where_ok (Err e) is it = absurd (true≢false (sym is))

pub where_err : {T E P : Type 0} (answer : Result T E) → is_ok answer ≡ false → OnErr answer P → P
where_err (Ok x) is it = absurd (true≢false is)
where_err (Err e) is it = it

abbrev failed_by : (what : Raised) (switch : Switch) (finished : Bool) → Option Switch
failed_by what switch finished = elim finished [ true ↦ None | false ↦ Some (record switch { errors = Some (joined switch.errors what) }) ]

-- a switch that takes the failure has one error more
failed_switch : (what : Raised) (switch failing : Switch) → fail what switch ≡ Some failing → (errors : Option Raised) × (failing ≡ record switch { errors = errors })
failed_switch what switch failing is = by switch.finished refl where
  by : (finished : Bool) → switch.finished ≡ finished → (errors : Option Raised) × (failing ≡ record switch { errors = errors })
  by true closed = absurd (none-some _ (sym (ap (failed_by what switch) closed) ∙ is))
  by false still = (Some (joined switch.errors what), same_Some _ _ (sym is ∙ ap (failed_by what switch) still))

-- each of the others stands as it stood
switches_left : (all : List Switch) (n : ℕ) (failing : Switch) (errors : Option Raised) → n < length all → failing ≡ record (switch_at all n) { errors = errors }
    → (m : ℕ) → (others : Option Raised) × (switch_at (with_switch n failing all) m ≡ record (switch_at all m) { errors = others })
switches_left all n failing errors below is m = elim (same_or_other m n) as (λ _. (others : Option Raised) × (switch_at (with_switch n failing all) m ≡ record (switch_at all m) { errors = others })) [
  | inl e ↦ (
      let here : switch_at (with_switch n failing all) n ≡ failing = numbers.changed_itself never_opened all n failing below in
      subst (λ (x : ℕ). (others : Option Raised) × (switch_at (with_switch n failing all) x ≡ record (switch_at all x) { errors = others })) (sym e) (errors, here ∙ is))
  | inr other ↦ ((switch_at all m).errors, numbers.others_unchanged never_opened all n m failing other)
]

taken_there : {X : Type 0} (found : Option X) (P : X → Type 0) → IsSomeAnd found P → (x : X) × (found ≡ Some x) × P x
taken_there None P it = absurd it
taken_there (Some x) P it = (x, refl, it)

-- the failure is given to a switch that takes it, and its context is cancelled
module _ (old before : KeptDomain) (same : old ≡ before) (maker n : ℕ) (what : Raised) (new : KeptDomain) (switches : List Switch) (context : ℕ) (why : Plain)
    (is_why : why ≡ reason what)
    (opened : n < length before.switches)
    (taken : IsSomeAnd (fail what (switch_at old.switches n)) (λ switch. switches ≡ with_switch n switch old.switches))
    (is_context : context ≡ (switch_at switches n).context) where
  below : n < length old.switches
  below = subst (λ (k : KeptDomain). n < length k.switches) (sym same) opened

  found : (failing : Switch) × (fail what (switch_at old.switches n) ≡ Some failing) × (switches ≡ with_switch n failing old.switches)
  found = taken_there (fail what (switch_at old.switches n)) (λ switch. switches ≡ with_switch n switch old.switches) taken

  failing : Switch
  failing = found.0

  takes_it : fail what (switch_at old.switches n) ≡ Some failing
  unfolding failing
  takes_it = found.1

  are_switches : switches ≡ with_switch n failing old.switches
  unfolding failing
  are_switches = found.2

  errors_more : (errors : Option Raised) × (failing ≡ record (switch_at old.switches n) { errors = errors })
  errors_more = failed_switch what (switch_at old.switches n) failing takes_it

  its_context : context ≡ failing.context
  its_context = is_context
      ∙ ap (λ (s : Switch). s.context) (ap (λ (all : List Switch). switch_at all n) are_switches ∙ numbers.changed_itself never_opened old.switches n failing below)

  its_old_context : context ≡ (switch_at before.switches n).context
  its_old_context = its_context ∙ (ap (λ (s : Switch). s.context) errors_more.1 ∙ ap (λ (k : KeptDomain). (switch_at k.switches n).context) same)

  pub fails_mirrors : (nodes : List Node) (texts : List (List ℕ)) (l : DomainState) → Mirrors nodes texts before l
      → BecomesUnder nodes (cancels maker context why) (record old { switches = switches }) new
      → Mirrors nodes texts new (fails maker n what l)
  fails_mirrors nodes texts l mirrors becomes = (
      let there : Mirrors nodes texts old l = subst (λ (k : KeptDomain). Mirrors nodes texts k l) (sym same) mirrors in
      let takes : fail what (switch_at l.switches n) ≡ Some failing = ap (λ (all : List Switch). fail what (switch_at all n)) there.switches ∙ takes_it in
      let step : fails maker n what l ≡ cancels maker failing.context (reason what) (with_switch_at n failing l) =
      ap (λ (o : Option Switch). elim o as (λ _. DomainState) [ None ↦ l | Some s ↦ cancels maker s.context (reason what) (with_switch_at n s l) ]) takes in
      subst (λ (k : DomainState). Mirrors nodes texts new k) (sym step)
      (subst (λ (c : ℕ). Mirrors nodes texts new (cancels maker c (reason what) (with_switch_at n failing l))) its_context
      (subst (λ (because : Plain). Mirrors nodes texts new (cancels maker context because (with_switch_at n failing l))) is_why
      (becomes texts (with_switch_at n failing l) (switched_mirrors nodes texts old l there n failing switches are_switches)))))

  module _ (contexts : new.contexts ≡ called (Cancel context why) old.contexts) where
    pub fails_leaves : SameFibers (record old { switches = switches }) new → new.switches ≡ switches → new.groups ≡ old.groups → LeavesScopes before new
    fails_leaves fibers are groups = subst (λ (k : KeptDomain). LeavesScopes k new) same (record {
      fibers = record { fibers = fibers.fibers; ready = fibers.ready };
      contexts = cancelled_length old.contexts new.contexts context why contexts;
      live = cancelled_live old.contexts new.contexts context why contexts;
      ends = ends_still old new context why contexts;
      opened = ap (λ (all : List Switch). length all) (are ∙ are_switches) ∙ numbers.set_keeps_length never_opened old.switches n failing;
      switches = λ m. subst (λ (all : List Switch). (errors : Option Raised) × (switch_at all m ≡ record (switch_at old.switches m) { errors = errors }))
          (sym (are ∙ are_switches)) (switches_left old.switches n failing errors_more.0 below errors_more.1 m);
      groups = groups;
    })

    pub fails_once : StrikesAtOnce new.owed new.contexts (switch_at before.switches n).context
    fails_once = subst (λ (c : ℕ). StrikesAtOnce new.owed new.contexts c) its_old_context (cancelled_once old.contexts new.contexts context why contexts new.owed)
