-- A domain's own moves: each raises at most one exception, with the counter's number, which then rises.
use Rattle.std.proofs.Common.{◌≡◌, ℕ, ◌+◌, ◌-◌, ◌&&◌, inl, inr, Bool, true, false, List, [], ◌∷◌, ◌++◌, length, Option, Some, None, refl, sym, ap, subst, zero, suc}
use Rattle.std.specs.Prelude.{ℤ, pos, ◌+ℤ◌, int_lt, filter, not, unwrap_or}
use Rattle.std.proofs.lemmas.List.Elements.{All-append, Contains-push}
use Rattle.eio_value.specs.declared.plain.Member.{Member}
use Rattle.eio_value.specs.declared.plain.Misuse.TheVariants.{SwitchFinished, ContextFinished, Overflow}
use Rattle.eio_value.specs.declared.plain.Plain.{Plain}
use Rattle.eio_value.specs.declared.plain.Plain.TheVariants.{Failure, Invalid, Exit}
use Rattle.eio_value.specs.declared.raised.Outcome.{Outcome}
use Rattle.eio_value.specs.declared.raised.Outcome.TheVariants as outcome
use Rattle.eio_value.specs.declared.raised.Raised.{Raised}
use Rattle.eio_value.specs.declared.raised.Raised.TheVariants.{One, Cancelled}
use Rattle.eio_value.specs.declared.value.TextId.{TextId}
use Rattle.eio_value.specs.declared.value.Value.{Value}
use Rattle.eio_value.specs.declared.value.Value.TheVariants as value
use Rattle.spec_parts.specs.Contexts as contexts
use Rattle.spec_parts.specs.Contexts.{Made}
use Rattle.spec_parts.specs.Groups as groups
use Rattle.spec_parts.specs.Switches as switches
use Rattle.spec_parts.specs.Switches.{Switch, Handler, Closed, CloseStep}
use Rattle.spec_parts.specs.Timers.{due_fibers, earliest, is_due}
use Rattle.spec_script.specs.Limits.{is_within}
use Rattle.spec_script.specs.Scripts.{Script}
use Rattle.spec_script.specs.Syntax as syntax
use Rattle.spec_script.specs.Syntax.{Block, Forking}
use Rattle.spec_fiber.specs.Asks as ask
use Rattle.spec_fiber.specs.Asks.{Ask, again}
use Rattle.spec_fiber.specs.Numbered.{number_of, block_numbered}
use Rattle.spec_fiber.specs.Replies.{Position, begun, handled, other_branches}
use Rattle.trace_lines.specs.declared.line.Did.{Did}
use Rattle.trace_lines.specs.declared.line.Did.TheVariants as did
use Rattle.trace_lines.specs.declared.line.Said2.{Said2}
use Rattle.trace_lines.specs.declared.line.Said2.TheVariants as said
use Rattle.spec_machine.specs.Domain.{OfGroup, OfSwitch, GoesOn, LooksUp, FindsOff, Wait, Asleep, ForCancel, ForOthers, Fiber, DomainState, fiber_at, off_for, is_full_by, made, to_head, placed, moved_to}
use Rattle.spec_machine.specs.Steps as steps
use Rattle.spec_machine.specs.Steps.{Step, member, counted}
use Rattle.spec_machine.specs.ContextMoves as on_contexts
use Rattle.spec_machine.specs.SwitchMoves as on_switches
use Rattle.spec_machine.specs.GroupMoves as on_groups
use Rattle.spec_machine.specs.ClockMoves as on_clock
use Rattle.spec_machine.specs.Moves.{own_call}
use Rattle.law_run.specs.Serials.{AreNumbered}
use Rattle.law_run.proofs.Places.{AllDid, AllReply, all_but, AllOutcome, AllErrors, AllResult, AllCall, AllWait, none, all_one, all_cancelled}
use Rattle.law_run.proofs.Settling.{BornIn, With}
use Rattle.law_run.proofs.Standings.{FiberIs, SwitchIs, GroupIs, Stands, head_stands, back_stands, parked_stands, placed_stands, moved_stands, made_stands, leaves_stands, cancels_stands, switch_is, with_switch_stands, fails_stands, attached_is, CloseIs, ClosedIs, close_step_is, group_is, with_group_stands, branch_ended_stands, JoinIs, JoinedIs, joined_is, ends_stands, all_single}

-- what held before holds beside one more
pub more : (P : Member → Type 0) (born : Option Member) (x : Member) → P x → With P born x
more P None x it = it
more P (Some new) x it = inl it

pub stands_more : (P : Member → Type 0) (kinds : ℕ → Bool) (s : ℕ) (born : Option Member) (l : DomainState) → Stands P kinds s l → Stands (With P born) kinds s l
stands_more P kinds s born l h = (
  h.0,
  h.1,
  all_but (FiberIs P kinds s) {Q = FiberIs (With P born) kinds s} l.fibers (λ fiber all x i. more P born x (all x i)) h.2,
  all_but (SwitchIs P kinds s) {Q = SwitchIs (With P born) kinds s} l.switches (λ switch all x i. more P born x (all x i)) h.3,
  all_but (GroupIs P kinds s) {Q = GroupIs (With P born) kinds s} l.groups (λ group all x i. more P born x (all x i)) h.4,
)

module _ (P : Member → Type 0) (kinds : ℕ → Bool) (s : ℕ) where
  -- after a move that began with the counter at s: what stood there, and at most one new exception
  pub record StepKeeps (step : Step) : Type 0 where
    pub born : Option Member
    pub to : ℕ
    pub range : BornIn s step.raises to born
    pub stands : Stands (With P born) kinds to step.state
    pub call : AllDid (With P born) step.did
    pub reply : AllReply (With P born) step.reply

  -- nothing is raised, and the line tells what stood there
  pub telling : (step : Step) → step.raises ≡ [] → AllDid P step.did → AllReply P step.reply → Stands P kinds s step.state → StepKeeps step
  telling step none call reply h = record { born = None; to = s; range = (subst (λ raises. AreNumbered s raises s) (sym none) refl, tt); stands = h; call = call; reply = reply }

  pub reply_is : (result : Outcome) → AllOutcome P result → AllReply P (steps.reply_of result)
  reply_is (outcome.Ok it) all = none P
  reply_is (outcome.Err raised) all = all

  pub counted_stands : (l : DomainState) → Stands P kinds s l → Stands P kinds (s + 1) (counted l)
  counted_stands l h = (ap (λ n. n + 1) h.0, h.1, h.2, h.3, h.4)

  -- the new exception that a domain raises next
  pub is_born : (what : Plain) (l : DomainState) → Stands P kinds s l → BornIn s (member what l ∷ []) (s + 1) (Some (member what l))
  is_born what l h = ((h.0, refl), Contains-push [] (member what l))

  pub new_stands : (what : Plain) (l : DomainState) → Stands P kinds s l → Stands (With P (Some (member what l))) kinds (s + 1) (counted l)
  new_stands what l h = (ap (λ n. n + 1) h.0, (stands_more P kinds s (Some (member what l)) l h).1, (stands_more P kinds s (Some (member what l)) l h).2, (stands_more P kinds s (Some (member what l)) l h).3, (stands_more P kinds s (Some (member what l)) l h).4)

  -- ## The parts of moves

  pub raises_kept : (it : Did) → AllDid P it → (what : Plain) (g : ℕ) (l : DomainState) → Stands P kinds s l → StepKeeps (steps.raises it what g l)
  raises_kept it call what g l h = record {
    born = Some (member what l);
    to = s + 1;
    range = is_born what l h;
    stands = head_stands (With P (Some (member what l))) kinds (s + 1) (GoesOn (outcome.Err (One (member what l)))) g (counted l) (all_one (With P (Some (member what l))) (member what l) (inr refl)) (new_stands what l h);
    call = (λ x i. more P (Some (member what l)) x (call x i));
    reply = all_one (With P (Some (member what l))) (member what l) (inr refl);
  }

  pub raises_cancelled_kept : (it : Did) → AllDid P it → (what : Plain) (g : ℕ) (l : DomainState) → Stands P kinds s l → StepKeeps (steps.raises_cancelled it what g l)
  raises_cancelled_kept it call what g l h = record {
    born = Some (member what l);
    to = s + 1;
    range = is_born what l h;
    stands = head_stands (With P (Some (member what l))) kinds (s + 1) (GoesOn (outcome.Err (Cancelled (member what l)))) g (counted l) (all_cancelled (With P (Some (member what l))) (member what l) (inr refl)) (new_stands what l h);
    call = (λ x i. more P (Some (member what l)) x (call x i));
    reply = all_cancelled (With P (Some (member what l))) (member what l) (inr refl);
  }

  pub answers_kept : (it : Did) → AllDid P it → (result : Outcome) (g : ℕ) (l : DomainState) → AllOutcome P result → Stands P kinds s l → StepKeeps (steps.answers it result g l)
  answers_kept it call result g l all h = telling _ refl call (reply_is result all) (head_stands P kinds s (GoesOn result) g l all h)

  pub does_kept : (it : Did) → AllDid P it → (g : ℕ) (l : DomainState) → Stands P kinds s l → StepKeeps (steps.does it g l)
  does_kept it call g l h = answers_kept it call (outcome.Ok value.Unit) g l (none P) h

  pub goes_off_kept : (it : Did) → AllDid P it → (g : ℕ) (l : DomainState) → Stands P kinds s l → StepKeeps (steps.goes_off it g l)
  goes_off_kept it call g l h = telling _ refl call (none P) (back_stands P kinds s FindsOff g l (none P) h)

  pub waits_kept : (it : Did) → AllDid P it → (wait : Wait) (g : ℕ) (l : DomainState) → AllWait P wait → Stands P kinds s l → StepKeeps (steps.waits it wait g l)
  waits_kept it call wait g l all h = telling _ refl call (none P) (parked_stands P kinds s wait g l all h)

  pub enters_stands : (position : Position) (g : ℕ) (l : DomainState) → Stands P kinds s l → Stands P kinds s (to_head (GoesOn (outcome.Ok value.Unit)) g (placed position g l))
  enters_stands position g l h = head_stands P kinds s (GoesOn (outcome.Ok value.Unit)) g (placed position g l) (none P) (placed_stands P kinds s position g l h)

  pub enters_kept : (it : Did) (reply : Said2) → AllDid P it → AllReply P reply → (context : ℕ) (position : Position) (g : ℕ) (l : DomainState) → Stands P kinds s l → StepKeeps (on_contexts.enters_context it reply context position g l)
  enters_kept it reply call tells context position g l h = telling _ refl call tells (enters_stands position g (moved_to context g l) (moved_stands P kinds s context g l h))

  pub in_new_kept : (number : Option ℕ) (all : List contexts.Context) (g : ℕ) (l : DomainState) (then : ℕ → DomainState → Step) → Stands P kinds s l
      → ((c : ℕ) (m : DomainState) → Stands P kinds s m → StepKeeps (then c m))
      → StepKeeps (steps.in_new (record { number = number; contexts = all }) g l then)
  in_new_kept None all g l then h kept = telling _ refl (none P) (none P) h
  in_new_kept (Some c) all g l then h kept = kept c _ h

  if_kept : (b : Bool) (one other : Step) → StepKeeps one → StepKeeps other → StepKeeps (elim b as (λ _. Step) [ true ↦ one | false ↦ other ])
  if_kept true one other h k = h
  if_kept false one other h k = k

  if_off_kept : (off : Option Plain) (one : Plain → Step) (other : Step) → ((why : Plain) → StepKeeps (one why)) → StepKeeps other → StepKeeps (elim off as (λ _. Step) [ Some why ↦ one why | None ↦ other ])
  if_off_kept None one other h k = k
  if_off_kept (Some why) one other h k = h why

  -- ## Contexts

  subs_kept : (call : Ask) (g : ℕ) (l : DomainState) → Stands P kinds s l → StepKeeps (on_contexts.subs call g l)
  subs_kept call g l h =
      if_off_kept (off_for l g) _ _ (λ why. raises_cancelled_kept _ (none P) why g l h)
      (in_new_kept (on_contexts.sub_of l g).number (on_contexts.sub_of l g).contexts g l (λ c m. on_contexts.enters_context did.Sub (said.Done (value.Ctx c)) c (on_contexts.before_block call c g m) g m) h (λ c m k. enters_kept _ _ (none P) (none P) c (on_contexts.before_block call c g m) g m k))

  protects_kept : (call : Ask) (g : ℕ) (l : DomainState) → Stands P kinds s l → StepKeeps (on_contexts.protects call g l)
  protects_kept call g l h = in_new_kept (on_contexts.protected_of l g).number (on_contexts.protected_of l g).contexts g l (λ c m. on_contexts.enters_context did.Protect (said.Done (value.Ctx c)) c (on_contexts.before_block call c g m) g m) h (λ c m k. enters_kept _ _ (none P) (none P) c (on_contexts.before_block call c g m) g m k)

  left_kept : (c : ℕ) (late : Bool) (it : Outcome) (g : ℕ) (l : DomainState) → AllOutcome P it → Stands P kinds s l → StepKeeps (on_contexts.left_with c late it g l)
  left_kept c true (outcome.Ok it) g l all h = raises_kept _ (none P) (Invalid SwitchFinished) g l h
  left_kept c false (outcome.Ok it) g l all h = telling _ refl (none P) (none P) (head_stands P kinds s (GoesOn (outcome.Ok it)) g l all h)
  left_kept c true (outcome.Err raised) g l all h = answers_kept _ (none P) (outcome.Err raised) g l all h
  left_kept c false (outcome.Err raised) g l all h = answers_kept _ (none P) (outcome.Err raised) g l all h

  leave_kept : (c : ℕ) (late : Bool) (it : Outcome) (g : ℕ) (l : DomainState) → AllOutcome P it → Stands P kinds s l → StepKeeps (on_contexts.leave c late it g l)
  leave_kept c late it g l all h = left_kept c late it g (on_contexts.leaves c g l) all (leaves_stands P kinds s c g l h)

  cancel_kept : (c : ℕ) (text : TextId) (g : ℕ) (l : DomainState) → Stands P kinds s l → StepKeeps (on_contexts.cancel c text g l)
  cancel_kept c text g l h =
      if_kept (contexts.is_live l.contexts c) (steps.does (did.Cancel c text) g (steps.cancels g c (Failure text) l)) (steps.raises (did.Cancel c text) (Invalid ContextFinished) g l)
      (does_kept _ (none P) g _ (cancels_stands P kinds s g c (Failure text) l h)) (raises_kept _ (none P) (Invalid ContextFinished) g l h)

  check_kept : (g : ℕ) (l : DomainState) → Stands P kinds s l → StepKeeps (on_contexts.check g l)
  check_kept g l h = if_off_kept (off_for l g) _ _ (λ why. raises_cancelled_kept _ (none P) why g l h) (does_kept _ (none P) g l h)

  -- ## Switches

  switch_kept : (call : Ask) (g : ℕ) (l : DomainState) → Stands P kinds s l → StepKeeps (on_switches.switch call g l)
  switch_kept call g l h =
      if_off_kept (off_for l g) _ _ (λ why. raises_cancelled_kept _ (none P) why g l h)
      (in_new_kept (on_contexts.sub_of l g).number (on_contexts.sub_of l g).contexts g l (λ c m. on_contexts.enters_context did.Switch (said.Done (value.Switch (length l.switches))) c (on_contexts.before_block call (length l.switches) g m) g (on_switches.opens c m)) h
      (λ c m k. enters_kept _ _ (none P) (none P) c (on_contexts.before_block call (length l.switches) g m) g (on_switches.opens c m)
      (k.0, k.1, k.2, All-append (SwitchIs P kinds s) m.switches (switches.opened c ∷ []) k.3 (all_single (SwitchIs P kinds s) (switches.opened c) (none P)), k.4)))

  fork_is : (forking : Forking) (n : ℕ) → AllDid P (on_switches.did_fork forking n)
  fork_is syntax.Plain n = none P
  fork_is syntax.Daemon n = none P
  fork_is (syntax.Promising promise) n = none P

  makes_kept : (forking : Forking) (n : ℕ) (block : Block) (g : ℕ) (l : DomainState) → Stands P kinds s l → StepKeeps (on_switches.makes forking n block g l)
  makes_kept forking n block g l h =
      let new = length l.fibers in
      let switch : Switch = switches.switch_at l.switches n in
      let t : DomainState = made switch.context (OfSwitch n (on_switches.is_daemon forking)) (on_switches.forked forking block (fiber_at l.fibers g).variables) l in
      let k : Stands P kinds s t = made_stands P kinds s _ _ _ l h in
      let u : DomainState = on_switches.with_switch_at n (switches.attach new (on_switches.is_daemon forking) switch).switch t in
      let m : Stands P kinds s u = with_switch_stands P kinds s n _ t (attached_is P kinds s new (on_switches.is_daemon forking) switch (switch_is P kinds s n l h)) k in
      telling _ refl (fork_is forking n) (none P) (head_stands P kinds s (GoesOn (outcome.Ok value.Unit)) new (to_head (GoesOn (outcome.Ok value.Unit)) g u) (none P) (head_stands P kinds s (GoesOn (outcome.Ok value.Unit)) g u (none P) m))

  fork_kept : (forking : Forking) (n : ℕ) (block : Block) (g : ℕ) (l : DomainState) → Stands P kinds s l → StepKeeps (on_switches.fork forking n block g l)
  fork_kept forking n block g l h =
      if_kept (switches.refuses_forks l.contexts (switches.switch_at l.switches n)) _ _ (telling _ refl (fork_is forking n) (none P) (head_stands P kinds s (GoesOn (outcome.Ok value.Unit)) g l (none P) h))
      (if_kept (is_full_by 1 l.fibers) _ _ (telling _ refl (none P) (none P) h) (makes_kept forking n block g l h))

  fail_kept : (n : ℕ) (text : TextId) (g : ℕ) (l : DomainState) → Stands P kinds s l → StepKeeps (on_switches.fail n text g l)
  fail_kept n text g l h =
      let x : Member = member (Failure text) l in
      if_kept (switches.switch_at l.switches n).finished _ _ (raises_kept _ (none P) (Invalid SwitchFinished) g l h)
      (record {
        born = Some x;
        to = s + 1;
        range = is_born (Failure text) l h;
        stands = head_stands (With P (Some x)) kinds (s + 1) (GoesOn (outcome.Ok value.Unit)) g (on_switches.fails g n (One x) (counted l)) (none (With P (Some x)))
            (fails_stands (With P (Some x)) kinds (s + 1) g n (One x) (counted l) (all_one (With P (Some x)) x (inr refl)) (new_stands (Failure text) l h));
        call = none (With P (Some x));
        reply = none (With P (Some x));
      })

  release_kept : (call : Ask) (n : ℕ) (block : Block) (g : ℕ) (l : DomainState) → Stands P kinds s l → StepKeeps (on_switches.release call n block g l)
  release_kept call n block g l h = by (switches.switch_at l.switches n) (switch_is P kinds s n l h) (switches.switch_at l.switches n).finished
    where
      by : (switch : Switch) → SwitchIs P kinds s switch → (finished : Bool)
          → StepKeeps (elim (elim finished as (λ _. Option Switch) [ true ↦ None | false ↦ Some (record switch { fresh = switch.fresh ++ record { block = number_of block; values = (fiber_at l.fibers g).variables } ∷ [] }) ]) as (λ _. Step) [
            | Some changed ↦ steps.does (did.OnRelease n) g (on_switches.with_switch_at n changed l)
            | None ↦ steps.in_new (on_contexts.protected_of l g) g l (λ c m. on_contexts.enters_context (did.OnRelease n) said.Handler c (on_contexts.before_block call c g m) g m)
          ])
      by switch is true =
          in_new_kept (on_contexts.protected_of l g).number (on_contexts.protected_of l g).contexts g l (λ c m. on_contexts.enters_context (did.OnRelease n) said.Handler c (on_contexts.before_block call c g m) g m) h (λ c m k. enters_kept _ _ (none P) (none P) c (on_contexts.before_block call c g m) g m k)
      by switch is false =
          let changed : Switch = record switch { fresh = switch.fresh ++ record { block = number_of block; values = (fiber_at l.fibers g).variables } ∷ [] } in
          does_kept (did.OnRelease n) (none P) g (on_switches.with_switch_at n changed l) (with_switch_stands P kinds s n changed l is h)

  closed_kept : (script : Script) (call : Ask) (n c : ℕ) (kept : Value) (step : CloseStep) (g : ℕ) (l : DomainState) → AllCall P (again call) → CloseIs P kinds s step → Stands P kinds s l
      → StepKeeps (on_switches.closed_by script call n c kept step g l)
  closed_kept script call n c kept switches.Wait g l all is h = waits_kept _ (none P) (ForOthers (again call)) g l all h
  closed_kept script call n c kept switches.CancelDaemons g l all is h = waits_kept _ (none P) (ForOthers (again call)) g _ all (cancels_stands P kinds s g c Exit l h)
  closed_kept script call n c kept (switches.RunHandler handler) g l all is h =
      in_new_kept (on_contexts.protected_of l g).number (on_contexts.protected_of l g).contexts g l (λ c m. (
      let fiber : Fiber = fiber_at m.fibers g in
      on_contexts.enters_context (did.Close n) said.Handler c (handled call c (block_numbered script handler.block) handler.values fiber.work fiber.variables) g m)) h (λ c m k. enters_kept _ _ (none P) (none P) c (handled call c (block_numbered script handler.block) handler.values (fiber_at m.fibers g).work (fiber_at m.fibers g).variables) g m k)
  closed_kept script call n c kept switches.Return g l all is h = answers_kept _ (none P) (outcome.Ok kept) g _ (none P) (leaves_stands P kinds s c g l h)
  closed_kept script call n c kept (switches.Raise errors) g l all is h = answers_kept _ (none P) (outcome.Err errors) g _ is (leaves_stands P kinds s c g l h)

  fails_with_stands : (maker n : ℕ) (came : Option Raised) (l : DomainState) → AllErrors P came → Stands P kinds s l → Stands P kinds s (on_switches.fails_with maker n came l)
  fails_with_stands maker n None l all h = h
  fails_with_stands maker n (Some what) l all h = fails_stands P kinds s maker n what l all h

  close_kept : (script : Script) (n : ℕ) (came : Option Raised) (kept : Value) (g : ℕ) (l : DomainState) → AllErrors P came → Stands P kinds s l
      → StepKeeps (on_switches.close script (ask.Close n came kept) n came kept g l)
  close_kept script n came kept g l all h =
      let t : DomainState = on_switches.fails_with g n came l in
      let k : Stands P kinds s t = fails_with_stands g n came l all h in
      let closed : Closed = switches.close_step g (switches.switch_at t.switches n) in
      let is : ClosedIs P kinds s closed = close_step_is P kinds s g (switches.switch_at t.switches n) (switch_is P kinds s n t k) in
      if_kept (switches.runs_handler (switches.switch_at l.switches n) && contexts.is_full l.contexts) _ _ (telling _ refl (none P) (none P) h)
      (closed_kept script (ask.Close n came kept) n closed.switch.context kept closed.step g (on_switches.with_switch_at n closed.switch t) (none P) is.0 (with_switch_stands P kinds s n closed.switch t is.1 k))

  -- ## Groups

  branched_stands : (c n : ℕ) (variables : List Value) (blocks : List Block) (l : DomainState) → Stands P kinds s l → Stands P kinds s (on_groups.branched c n variables blocks l)
  unfolding on_groups.branched
  branched_stands c n variables [] l h = h
  branched_stands c n variables (block ∷ blocks) l h = branched_stands c n variables blocks _ (made_stands P kinds s c (OfGroup n) (begun block variables) l h)

  branch_is : (kind : syntax.Group) (c : ℕ) → AllDid P (on_groups.did_branch kind c)
  branch_is syntax.Both c = none P
  branch_is syntax.All c = none P
  branch_is syntax.First c = none P
  branch_is syntax.Any c = none P

  first_is : (domain first count : ℕ) → AllReply P (on_groups.first_of domain first count)
  first_is domain first zero = none P
  first_is domain first (suc count) = none P

  branches_kept : (call : Ask) (kind : syntax.Group) (blocks : List Block) (g : ℕ) (l : DomainState) → Stands P kinds s l → StepKeeps (on_groups.branches call kind blocks g l)
  branches_kept call kind blocks g l h =
      if_off_kept (off_for l g) _ _ (λ why. raises_cancelled_kept _ (branch_is kind (on_contexts.context_of l g)) why g l h)
      (if_kept (is_full_by (length blocks - 1) l.fibers) _ _ (telling _ refl (none P) (none P) h)
      (in_new_kept (on_contexts.sub_of l g).number (on_contexts.sub_of l g).contexts g l (λ c m. on_groups.branches_in call kind blocks c g m) h
      (λ c m k.
      let it : groups.Group = groups.gathered (on_groups.kind_of kind) c (length blocks) in
      let u : DomainState = record m { groups = m.groups ++ it ∷ [] } in
      let with_it : Stands P kinds s u = (k.0, k.1, k.2, k.3, All-append (GroupIs P kinds s) m.groups (it ∷ []) k.4 (all_single (GroupIs P kinds s) it (none P))) in
      let t : DomainState = on_groups.branched c (length m.groups) (fiber_at m.fibers g).variables (other_branches blocks) u in
      let made_all : Stands P kinds s t = branched_stands c (length m.groups) (fiber_at m.fibers g).variables (other_branches blocks) u with_it in
      telling _ refl (branch_is kind c) (first_is m.number (length m.fibers) (length (other_branches blocks))) (enters_stands (on_contexts.before_block call (length m.groups) g t) g (moved_to c g t) (moved_stands P kinds s c g t made_all)))))

  own_ended_stands : (n : ℕ) (own : Option Outcome) (g : ℕ) (l : DomainState) → AllResult P own → Stands P kinds s l → Stands P kinds s (on_groups.own_ended n own g l)
  own_ended_stands n None g l all h = h
  own_ended_stands n (Some result) g l all h = branch_ended_stands P kinds s n result g l all h

  joined_kept : (call : Ask) (c : ℕ) (step : groups.JoinStep) (g : ℕ) (l : DomainState) → AllCall P (again call) → JoinIs P kinds s step → Stands P kinds s l → StepKeeps (on_groups.joined_by call c step g l)
  joined_kept call c groups.Wait g l all is h = waits_kept _ (none P) (ForOthers (again call)) g l all h
  joined_kept call c (groups.Give it) g l all is h = answers_kept _ (none P) (outcome.Ok it) g _ (none P) (leaves_stands P kinds s c g l h)
  joined_kept call c (groups.Raise raised) g l all is h = answers_kept _ (none P) (outcome.Err raised) g _ is (leaves_stands P kinds s c g l h)

  joins_kept : (n : ℕ) (own : Option Outcome) (g : ℕ) (l : DomainState) → AllResult P own → Stands P kinds s l → StepKeeps (on_groups.joins (ask.Join n own) n own g l)
  joins_kept n own g l all h =
      let t : DomainState = on_groups.own_ended n own g l in
      let k : Stands P kinds s t = own_ended_stands n own g l all h in
      let joined : groups.Joined = groups.join g (groups.group_at t.groups n) in
      let is : JoinedIs P kinds s joined = joined_is P kinds s g (groups.group_at t.groups n) (group_is P kinds s n t k) in
      joined_kept (ask.Join n own) joined.group.context joined.step g _ (none P) is.0 (with_group_stands P kinds s n joined.group t is.1 k)

  -- ## The clock

  sleep_kept : (time : ℤ) (g : ℕ) (l : DomainState) → Stands P kinds s l → StepKeeps (on_clock.sleep time g l)
  sleep_kept time g l h =
      if_kept (int_lt time (pos 1)) _ _ (telling _ refl (none P) (none P) (back_stands P kinds s LooksUp g l (none P) h))
      (if_kept (is_within (l.now +ℤ time)) _ _
      (if_off_kept (off_for l g) _ _ (λ why. goes_off_kept _ (none P) g l h) (waits_kept _ (none P) Asleep g _ (none P) h))
      (raises_kept _ (none P) (Invalid Overflow) g l h))

  wakes_stands : (fibers : List ℕ) (l : DomainState) → Stands P kinds s l → Stands P kinds s (on_clock.wakes fibers l)
  wakes_stands [] l h = h
  wakes_stands (g ∷ fibers) l h = wakes_stands fibers _ (back_stands P kinds s (GoesOn (outcome.Ok value.Unit)) g l (none P) h)

  pub tick_kept : (l : DomainState) → Stands P kinds s l → StepKeeps (on_clock.tick l)
  tick_kept l h =
      let time = unwrap_or (earliest l.timers) l.now in
      telling _ refl (none P) (none P) (wakes_stands (due_fibers time l.timers) (record l { now = time; timers = record (l.timers) { standing = filter (λ timer. not (is_due time timer)) l.timers.standing } }) h)

  -- ## A fiber's own call

  pub own_call_kept : (script : Script) (call : Ask) (g : ℕ) (l : DomainState) → AllCall P call → Stands P kinds s l → StepKeeps (own_call script call g l)
  unfolding own_call
  own_call_kept script (ask.Trace values) g l all h = does_kept _ (none P) g l h
  own_call_kept script ask.Yield g l all h = telling _ refl (none P) (none P) (back_stands P kinds s LooksUp g l (none P) h)
  own_call_kept script ask.Check g l all h = check_kept g l h
  own_call_kept script ask.AwaitCancel g l all h = if_off_kept (off_for l g) _ _ (λ why. goes_off_kept _ (none P) g l h) (waits_kept _ (none P) ForCancel g l (none P) h)
  own_call_kept script ask.Turn g l all h = does_kept _ (none P) g l h
  own_call_kept script (ask.Sub block) g l all h = subs_kept (ask.Sub block) g l h
  own_call_kept script (ask.Protect block) g l all h = protects_kept (ask.Protect block) g l h
  own_call_kept script (ask.Cancel context text) g l all h = cancel_kept context text g l h
  own_call_kept script (ask.Switch block) g l all h = switch_kept (ask.Switch block) g l h
  own_call_kept script (ask.Fork forking n block) g l all h = fork_kept forking n block g l h
  own_call_kept script (ask.Fail n text) g l all h = fail_kept n text g l h
  own_call_kept script (ask.OnRelease n block) g l all h = release_kept (ask.OnRelease n block) n block g l h
  own_call_kept script (ask.Branches kind blocks) g l all h = branches_kept (ask.Branches kind blocks) kind blocks g l h
  own_call_kept script (ask.Sleep time) g l all h = sleep_kept time g l h
  own_call_kept script ask.Now g l all h = answers_kept _ (none P) (outcome.Ok (value.Int l.now)) g l (none P) h
  own_call_kept script (ask.Leave context late it) g l all h = leave_kept context late it g l all h
  own_call_kept script (ask.Close n came kept) g l all h = close_kept script n came kept g l all h
  own_call_kept script (ask.Join n own) g l all h = joins_kept n own g l all h
  own_call_kept script (ask.End it) g l all h = telling _ refl (none P) (reply_is it all) (ends_stands P kinds s it g l all h)
  own_call_kept script call g l all h = telling _ refl (none P) (none P) h
