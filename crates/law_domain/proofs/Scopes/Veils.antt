-- While the mark of a handler's context stands in a fiber's work, no move has the fiber close the switch, but for the move by which it leaves the context.
use Rattle.std.proofs.Common.{◌≡◌, ℕ, ◌+◌, ◌-◌, ◌<◌, ◌==◌, ◌&&◌, Bool, true, false, List, [], ◌∷◌, ◌++◌, length, Option, Some, None, refl, sym, ap, ◌∙◌, subst, arith, slice_set}
use Rattle.std.specs.Prelude.{ℤ, pos, ◌+ℤ◌, int_lt, filter, not}
use Rattle.std.specs.Option.{unwrap_or}
use Rattle.eio_value.specs.declared.call.Answer.{Answer}
use Rattle.eio_value.specs.declared.call.Answer.TheVariants as answer
use Rattle.eio_value.specs.declared.message.Job.{Job}
use Rattle.eio_value.specs.declared.message.Message.{Message}
use Rattle.eio_value.specs.declared.message.Message.TheVariants as message
use Rattle.eio_value.specs.declared.mock_call.Extra.{Extra}
use Rattle.eio_value.specs.declared.mock_call.Extra.TheVariants as extra
use Rattle.eio_value.specs.declared.mock_call.Said.{Said}
use Rattle.eio_value.specs.declared.plain.Plain.{Plain}
use Rattle.eio_value.specs.declared.plain.Plain.TheVariants.{Failure, Exit}
use Rattle.eio_value.specs.declared.raised.Outcome.{Outcome}
use Rattle.eio_value.specs.declared.raised.Outcome.TheVariants as outcome
use Rattle.eio_value.specs.declared.raised.Raised.{Raised}
use Rattle.eio_value.specs.declared.raised.Raised.TheVariants.{One, Cancelled}
use Rattle.eio_value.specs.declared.value.Value.{Value}
use Rattle.eio_value.specs.declared.value.Value.TheVariants as value
use Rattle.eio_value.specs.Table.{text_at}
use Rattle.spec_parts.specs.Contexts as contexts
use Rattle.spec_parts.specs.Groups as groups
use Rattle.spec_parts.specs.Groups.{BranchEnded, Joined}
use Rattle.spec_parts.specs.Switches as switches
use Rattle.spec_parts.specs.Switches.{Switch, Handler, Closed, CloseStep, Detached, switch_at}
use Rattle.spec_parts.specs.Timers.{Timer, due_fibers, earliest, is_due}
use Rattle.spec_script.specs.Limits.{is_within}
use Rattle.spec_script.specs.Scripts.{Script}
use Rattle.spec_script.specs.Syntax as syntax
use Rattle.spec_script.specs.Syntax.{Block, Forking, ObjectCall, ObjectCallWith}
use Rattle.spec_fiber.specs.Asks as ask
use Rattle.spec_fiber.specs.Asks.{Ask, again, passing}
use Rattle.spec_fiber.specs.Evaluation.{number_in}
use Rattle.spec_fiber.specs.Numbered.{number_of, block_numbered}
use Rattle.spec_fiber.specs.Replies.{Position, begun, entered, handled, other_branches}
use Rattle.spec_fiber.specs.Settling.{Settled}
use Rattle.spec_fiber.specs.Work.{Work, Carry}
use Rattle.trace_lines.specs.declared.line.Did.{Did}
use Rattle.trace_lines.specs.declared.line.Did.TheVariants as did
use Rattle.trace_lines.specs.declared.line.Said2.{Said2}
use Rattle.trace_lines.specs.declared.line.Said2.TheVariants as said
use Rattle.spec_machine.specs.Asking.{asks_by, is_full_for_one}
use Rattle.spec_machine.specs.ClockMoves as on_clock
use Rattle.spec_machine.specs.ContextMoves as on_contexts
use Rattle.spec_machine.specs.Domain.{Role, OfBody, OfJob, OfSwitch, OfGroup, OfWriter, Next, GoesOn, LooksUp, FindsOff, CallsAgain, Wait, OnObject, Asleep, ForCancel, ForOthers, Resting, Standing, Ready, Parked, Ended, Fiber, Owed, Duty, Strike, Wake, Start, DomainState, fiber_at, never_made, off_for, is_full_by, made, ended, to_head, to_back, stands, placed, moved_to}
use Rattle.spec_machine.specs.DutyMoves as on_duties
use Rattle.spec_machine.specs.EndMoves as on_ends
use Rattle.spec_machine.specs.GroupMoves as on_groups
use Rattle.spec_machine.specs.Labels.{Own, Label, Inner, Called, Struck, Mocked, Took}
use Rattle.spec_machine.specs.MockMoves as on_mocks
use Rattle.spec_machine.specs.Moves.{asks, own_call, own_move, called_move, struck_move, mocked_by, with_message, stepped_by}
use Rattle.spec_machine.specs.ObjectMoves as on_objects
use Rattle.spec_machine.specs.Preparing as doing
use Rattle.spec_machine.specs.Preparing.{Doing, Prepared, at_once, prepared, prepared_ready, prepared_timers, moves_of, next_of, next_call, called_by, carry_of}
use Rattle.spec_machine.specs.Runs.{Fits}
use Rattle.spec_machine.specs.Shared.{Asked}
use Rattle.spec_machine.specs.Steps as steps
use Rattle.spec_machine.specs.Steps.{Step}
use Rattle.spec_machine.specs.SwitchMoves as on_switches
use Rattle.law_domain.proofs.Scopes.Counts.{Compared, Same, Other, compared, one}
use Rattle.law_domain.proofs.Scopes.Scopes.{View, SetAt, Here, There, set_at, AddedAt, Last, Before, added_at}
use Rattle.law_domain.proofs.Scopes.Calls.{fails_fibers, given_up_fibers}
use Rattle.law_domain.proofs.Scopes.Moves.{owing_same, owing_wait_same}
use Rattle.law_domain.proofs.Scopes.Veiling.{closing, closes, stood, Veiled, Settles, Leaves, Goes_on, passed_veils, thrown_veils}

-- the switch whose `close` a line tells
abbrev pub closed_of : Did → Option ℕ
closed_of (did.Close n) = Some n
closed_of it = None

module _ (n c x : ℕ) where
  abbrev pub V : List Fiber → Type 0
  V fibers = Veiled n c (fiber_at fibers x)

  -- ## Fibers

  at_it : (fibers : List Fiber) (g : ℕ) → x ≡ g → V fibers → Veiled n c (fiber_at fibers g)
  at_it fibers g same v = subst (λ (k : ℕ). Veiled n c (fiber_at fibers k)) same v

  set_v : (fibers : List Fiber) (g : ℕ) (f : Fiber) → (x ≡ g → Veiled n c (fiber_at fibers g) → Veiled n c f) → V fibers → V (slice_set fibers g f)
  set_v fibers g f keeps v = by (set_at never_made fibers g x f)
    where
      by : SetAt never_made fibers g x f → V (slice_set fibers g f)
      by (Here same is) = subst (Veiled n c) (sym is) (keeps same (at_it fibers g same v))
      by (There is) = subst (Veiled n c) (sym is) v

  made_v : (fibers : List Fiber) (f : Fiber) → Veiled n c f → V fibers → V (fibers ++ f ∷ [])
  made_v fibers f new v = by (added_at never_made fibers x f)
    where
      by : AddedAt never_made fibers x f → V (fibers ++ f ∷ [])
      by (Last same is) = subst (Veiled n c) (sym is) new
      by (Before is) = subst (Veiled n c) (sym is) v

  stands_v : (standing : Standing) (g : ℕ) (l : DomainState) → (x ≡ g → stood n c standing ≡ 0) → V l.fibers → V (stands standing g l).fibers
  stands_v standing g l none v = set_v l.fibers g (record (fiber_at l.fibers g) { standing = standing }) (λ same old. record { work = old.work; call = none same }) v

  moved_v : (context g : ℕ) (l : DomainState) → V l.fibers → V (moved_to context g l).fibers
  moved_v context g l v = set_v l.fibers g (record (fiber_at l.fibers g) { context = context }) (λ same old. record { work = old.work; call = old.call }) v

  -- ## Steps

  -- the fiber is veiled still, and the line doesn't tell that it closes the switch
  pub record Passes (step : Step) : Type 0 where
    pub veils : V step.state.fibers
    pub told : closed_of step.did ≡ Some n → step.fiber ≡ x → ⊥

  pub q : (step : Step) → closed_of step.did ≡ None → V step.state.fibers → Passes step
  q step none v = record { veils = v; told = (λ is same. let e : ◌≡◌ {A = Option ℕ} None (Some n) = sym none ∙ is in cc) }

  if_v : (b : Bool) (first second : Step) → Passes first → Passes second → Passes (elim b as (λ _. Step) [ true ↦ first | false ↦ second ])
  if_v true first second p r = p
  if_v false first second p r = r

  off_v : (off : Option Plain) (first : Plain → Step) (second : Step) → ((why : Plain) → Passes (first why)) → Passes second → Passes (elim off as (λ _. Step) [ Some why ↦ first why | None ↦ second ])
  off_v None first second p r = r
  off_v (Some why) first second p r = p why

  halts_v : (g : ℕ) (l : DomainState) → V l.fibers → Passes (steps.halts g l)
  halts_v g l v = q _ refl v

  new_v : (made : contexts.Made) (g : ℕ) (l : DomainState) (then : ℕ → DomainState → Step) → V l.fibers → ((context : ℕ) → Passes (then context (record l { contexts = made.contexts }))) → Passes (steps.in_new made g l then)
  new_v made g l then v does = by made.number
    where
      by : (number : Option ℕ) → Passes (elim number as (λ _. Step) [ None ↦ steps.halts g l | Some context ↦ then context (record l { contexts = made.contexts }) ])
      by None = halts_v g l v
      by (Some context) = does context

  head_v : (it : Did) (reply : Said2) (next : Next) (g : ℕ) (l : DomainState) → closed_of it ≡ None → (x ≡ g → stood n c (Ready next) ≡ 0) → V l.fibers → Passes (steps.told g it reply (to_head next g l))
  head_v it reply next g l none calm v = q _ none (stands_v (Ready next) g l calm v)

  back_v : (it : Did) (reply : Said2) (next : Next) (g : ℕ) (l : DomainState) → closed_of it ≡ None → (x ≡ g → stood n c (Ready next) ≡ 0) → V l.fibers → Passes (steps.told g it reply (to_back next g l))
  back_v it reply next g l none calm v = q _ none (stands_v (Ready next) g l calm v)

  parked_v : (it : Did) (reply : Said2) (wait : Wait) (g : ℕ) (l : DomainState) → closed_of it ≡ None → (x ≡ g → stood n c (Parked wait) ≡ 0) → V l.fibers → Passes (steps.told g it reply (stands (Parked wait) g l))
  parked_v it reply wait g l none calm v = q _ none (stands_v (Parked wait) g l calm v)

  raises_v : (it : Did) (what : Plain) (g : ℕ) (l : DomainState) → closed_of it ≡ None → V l.fibers → Passes (steps.raises it what g l)
  raises_v it what g l none v = q _ none (stands_v (Ready (GoesOn (outcome.Err (One (steps.member what l))))) g l (λ same. refl) v)

  cancelled_v : (it : Did) (why : Plain) (g : ℕ) (l : DomainState) → closed_of it ≡ None → V l.fibers → Passes (steps.raises_cancelled it why g l)
  cancelled_v it why g l none v = q _ none (stands_v (Ready (GoesOn (outcome.Err (Cancelled (steps.member why l))))) g l (λ same. refl) v)

  -- into a block, in this context
  enters_v : (it : Did) (reply : Said2) (context : ℕ) (position : Position) (g : ℕ) (l : DomainState) → (x ≡ g → closing n c position.work ≡ 0) → V l.fibers → V (steps.enters it reply position g (moved_to context g l)).state.fibers
  enters_v it reply context position g l work v =
      let m : DomainState = moved_to context g l in
      stands_v (Ready (GoesOn (outcome.Ok value.Unit))) g (placed position g m) (λ same. refl)
      (set_v m.fibers g (record (fiber_at m.fibers g) { work = position.work; variables = position.variables }) (λ same old. record { work = work same; call = old.call }) (moved_v context g l v))

  hidden : (b : Bool) (k : ℕ) → k ≡ 0 → elim b as (λ _. ℕ) [ true ↦ 0 | false ↦ k ] ≡ 0
  hidden true k none = refl
  hidden false k none = none

  entered_v : (call : Ask) (number : ℕ) (work : List Work) (variables : List Value) → ((block : Block) → call ≡ ask.Switch block → n < number) → closing n c work ≡ 0 → closing n c (entered call number work variables).work ≡ 0
  entered_v (ask.Sub block) number work variables new h = hidden (number == c) _ h
  entered_v (ask.Protect block) number work variables new h = hidden (number == c) _ h
  entered_v (ask.Switch block) number work variables new h = by (compared n number)
    where
      by : Compared n number → one n number + closing n c work ≡ 0
      by (Same same is_one) = absurd (omega (arith, new block refl, same))
      by (Other differs none) = omega (arith, none, h)
  entered_v (ask.OnRelease switch block) number work variables new h = hidden (number == c) _ h
  entered_v (ask.Branches group blocks) number work variables new h = h
  entered_v (ask.OpenReader flow limit block) number work variables new h = h
  entered_v (ask.OpenWriter flow block) number work variables new h = h
  entered_v (ask.OpenDirectory place path block) number work variables new h = h
  entered_v call number work variables new h = h

  -- the work of the fiber that goes into the block of its call
  before_v : (call : Ask) (number g : ℕ) (l : DomainState) → ((block : Block) → call ≡ ask.Switch block → n < number) → V l.fibers → x ≡ g → closing n c (on_contexts.before_block call number g l).work ≡ 0
  before_v call number g l new v same = entered_v call number (fiber_at l.fibers g).work (fiber_at l.fibers g).variables new (at_it l.fibers g same v).work

  -- ## Contexts

  leaves_v : (context g : ℕ) (l : DomainState) → V l.fibers → V (on_contexts.leaves context g l).fibers
  leaves_v context g l v = moved_v (unwrap_or (contexts.context_at l.contexts context).parent 0) g (record l { contexts = contexts.end context l.contexts }) v

  left_v : (context : ℕ) (late : Bool) (it : Outcome) (g : ℕ) (l : DomainState) → V l.fibers → Passes (on_contexts.left_with context late it g l)
  left_v context true (outcome.Ok it) g l v = raises_v _ _ g l refl v
  left_v context false (outcome.Ok it) g l v = q _ refl (stands_v _ g l (λ same. refl) v)
  left_v context true (outcome.Err raised) g l v = q _ refl (stands_v _ g l (λ same. refl) v)
  left_v context false (outcome.Err raised) g l v = q _ refl (stands_v _ g l (λ same. refl) v)

  -- ## Switches

  fails_v : (maker k : ℕ) (what : Raised) (l : DomainState) → V l.fibers → V (on_switches.fails maker k what l).fibers
  fails_v maker k what l v = subst V (sym (fails_fibers maker k what l)) v

  woken_v : (y : ℕ) (l : DomainState) → V l.fibers → V (on_switches.woken y l).fibers
  woken_v y l v = by (fiber_at l.fibers y).standing refl
    where
      by : (standing : Standing) → (fiber_at l.fibers y).standing ≡ standing → V (elim standing as (λ _. DomainState) [
        | Parked wait ↦ elim wait [ ForOthers call ↦ to_back (CallsAgain call) y l | OnObject who ↦ l | Asleep ↦ l | ForCancel ↦ l | Resting ↦ l ]
        | Ready next ↦ l
        | Ended it ↦ l
      ]).fibers
      by (Parked (ForOthers call)) is = set_v l.fibers y (record (fiber_at l.fibers y) { standing = Ready (CallsAgain call) }) (λ same old. record { work = old.work; call = sym (ap (stood n c) is) ∙ old.call }) v
      by (Parked (OnObject who)) is = v
      by (Parked Asleep) is = v
      by (Parked ForCancel) is = v
      by (Parked Resting) is = v
      by (Ready next) is = v
      by (Ended it) is = v

  woken_if_v : (who : Option ℕ) (l : DomainState) → V l.fibers → V (on_switches.woken_if who l).fibers
  woken_if_v None l v = v
  woken_if_v (Some y) l v = woken_v y l v

  detached_v : (k : ℕ) (daemon : Bool) (result : Outcome) (g : ℕ) (l : DomainState) → V l.fibers → V (on_switches.detached k daemon result g l).fibers
  detached_v k daemon result g l v =
      let t : DomainState = on_switches.given_up g k daemon result l in
      let left : Detached = switches.detach g (switch_at t.switches k) in
      woken_if_v left.woken (on_switches.with_switch_at k left.switch t) (subst V (sym (given_up_fibers g k daemon result l)) v)

  forked_v : (forking : Forking) (block : Block) (variables : List Value) → closing n c (on_switches.forked forking block variables).work ≡ 0
  forked_v syntax.Plain block variables = refl
  forked_v syntax.Daemon block variables = refl
  forked_v (syntax.Promising promise) block variables = refl

  fork_told : (forking : Forking) (k : ℕ) → closed_of (on_switches.did_fork forking k) ≡ None
  fork_told syntax.Plain k = refl
  fork_told syntax.Daemon k = refl
  fork_told (syntax.Promising promise) k = refl

  fork_v : (forking : Forking) (k : ℕ) (block : Block) (g : ℕ) (l : DomainState) → V l.fibers → Passes (on_switches.fork forking k block g l)
  fork_v forking k block g l v =
      let new = length l.fibers in
      let s : Switch = switch_at l.switches k in
      let daemon = on_switches.is_daemon forking in
      let t : DomainState = made s.context (OfSwitch k daemon) (on_switches.forked forking block (fiber_at l.fibers g).variables) l in
      let u : DomainState = on_switches.with_switch_at k (switches.attach new daemon s).switch t in
      let nothing : Next = GoesOn (outcome.Ok value.Unit) in
      if_v (switches.refuses_forks l.contexts (switch_at l.switches k)) _ _ (q _ (fork_told forking k) (stands_v (Ready nothing) g l (λ same. refl) v))
      (if_v (is_full_by 1 l.fibers) _ _ (halts_v g l v) (q _ (fork_told forking k)
      (stands_v (Ready nothing) new (to_head nothing g u) (λ same. refl) (stands_v (Ready nothing) g u (λ same. refl) (made_v l.fibers _ (record { work = forked_v forking block (fiber_at l.fibers g).variables; call = refl }) v)))))

  release_v : (k : ℕ) (block : Block) (g : ℕ) (l : DomainState) → V l.fibers → Passes (on_switches.release (ask.OnRelease k block) k block g l)
  release_v k block g l v = by (switches.on_release (record { block = number_of block; values = (fiber_at l.fibers g).variables }) (switch_at l.switches k))
    where
      by : (changed : Option Switch) → Passes (elim changed as (λ _. Step) [
        | Some switch ↦ steps.does (did.OnRelease k) g (on_switches.with_switch_at k switch l)
        | None ↦ steps.in_new (on_contexts.protected_of l g) g l (λ d m. on_contexts.enters_context (did.OnRelease k) said.Handler d (on_contexts.before_block (ask.OnRelease k block) d g m) g m)
      ])
      by (Some switch) = q _ refl (stands_v (Ready (GoesOn (outcome.Ok value.Unit))) g l (λ same. refl) v)
      by None =
          new_v (on_contexts.protected_of l g) g l (λ d m. on_contexts.enters_context (did.OnRelease k) said.Handler d (on_contexts.before_block (ask.OnRelease k block) d g m) g m) v
          (λ d. (
          let m : DomainState = record l { contexts = (on_contexts.protected_of l g).contexts } in
          q _ refl (enters_v (did.OnRelease k) said.Handler d (on_contexts.before_block (ask.OnRelease k block) d g m) g m (before_v (ask.OnRelease k block) d g m (λ b e. absurd (cc)) v) v)))

  -- ## Closing

  the_number : (a b : ℕ) → Some a ≡ Some b → a ≡ b
  the_number a b e = cc

  -- another fiber closes the switch, or this one another switch
  told_close : (k g : ℕ) → (x ≡ g → one n k ≡ 0) → closed_of (did.Close k) ≡ Some n → g ≡ x → ⊥
  told_close k g calm is same = by (compared n k)
    where
      by : Compared n k → ⊥
      by (Same equal is_one) = omega (arith, is_one, calm (sym same))
      by (Other differs none) = differs (sym (the_number k n is))

  close_step_v : (script : Script) (k d : ℕ) (came : Option Raised) (kept : Value) (step : CloseStep) (g : ℕ) (l : DomainState) → (x ≡ g → one n k ≡ 0) → V l.fibers → Passes (on_switches.closed_by script (ask.Close k came kept) k d kept step g l)
  close_step_v script k d came kept switches.Wait g l calm v = record { veils = stands_v (Parked (ForOthers (ask.Close k None kept))) g l calm v; told = told_close k g calm }
  close_step_v script k d came kept switches.CancelDaemons g l calm v = record { veils = stands_v (Parked (ForOthers (ask.Close k None kept))) g (steps.cancels g d Exit l) calm v; told = told_close k g calm }
  close_step_v script k d came kept (switches.RunHandler handler) g l calm v =
      new_v (on_contexts.protected_of l g) g l (λ number m. (
      let fiber : Fiber = fiber_at m.fibers g in
      on_contexts.enters_context (did.Close k) said.Handler number (handled (ask.Close k came kept) number (block_numbered script handler.block) handler.values fiber.work fiber.variables) g m)) v (λ number. (
      let m : DomainState = record l { contexts = (on_contexts.protected_of l g).contexts } in
      let fiber : Fiber = fiber_at l.fibers g in
      record {
        veils = enters_v (did.Close k) said.Handler number (handled (ask.Close k came kept) number (block_numbered script handler.block) handler.values fiber.work fiber.variables) g m
            (λ same. hidden (number == c) _ (omega (arith, calm same, (at_it l.fibers g same v).work))) v;
        told = told_close k g calm;
      }))
  close_step_v script k d came kept switches.Return g l calm v = record { veils = stands_v _ g (on_contexts.leaves d g l) (λ same. refl) (leaves_v d g l v); told = told_close k g calm }
  close_step_v script k d came kept (switches.Raise errors) g l calm v = record { veils = stands_v _ g (on_contexts.leaves d g l) (λ same. refl) (leaves_v d g l v); told = told_close k g calm }

  fails_with_v : (maker k : ℕ) (came : Option Raised) (l : DomainState) → V l.fibers → V (on_switches.fails_with maker k came l).fibers
  fails_with_v maker k None l v = v
  fails_with_v maker k (Some what) l v = fails_v maker k what l v

  close_v : (script : Script) (k : ℕ) (came : Option Raised) (kept : Value) (g : ℕ) (l : DomainState) → (x ≡ g → one n k ≡ 0) → V l.fibers → Passes (on_switches.close script (ask.Close k came kept) k came kept g l)
  close_v script k came kept g l calm v =
      let t : DomainState = on_switches.fails_with g k came l in
      let closed : Closed = switches.close_step g (switch_at t.switches k) in
      if_v (switches.runs_handler (switch_at l.switches k) && contexts.is_full l.contexts) _ _ (halts_v g l v)
      (close_step_v script k closed.switch.context came kept closed.step g (on_switches.with_switch_at k closed.switch t) calm (fails_with_v g k came l v))

  -- ## Groups

  branch_told : (kind : syntax.Group) (d : ℕ) → closed_of (on_groups.did_branch kind d) ≡ None
  branch_told syntax.Both d = refl
  branch_told syntax.All d = refl
  branch_told syntax.First d = refl
  branch_told syntax.Any d = refl

  branched_v : (d k : ℕ) (variables : List Value) (blocks : List Block) (l : DomainState) → V l.fibers → V (on_groups.branched d k variables blocks l).fibers
  unfolding on_groups.branched
  branched_v d k variables [] l v = v
  branched_v d k variables (block ∷ blocks) l v = branched_v d k variables blocks (made d (OfGroup k) (begun block variables) l) (made_v l.fibers _ (record { work = refl; call = refl }) v)

  branches_v : (kind : syntax.Group) (blocks : List Block) (g : ℕ) (l : DomainState) → V l.fibers → Passes (on_groups.branches (ask.Branches kind blocks) kind blocks g l)
  branches_v kind blocks g l v =
      off_v (off_for l g) _ _ (λ why. cancelled_v _ why g l (branch_told kind (on_contexts.context_of l g)) v)
      (if_v (is_full_by (length blocks - 1) l.fibers) _ _ (halts_v g l v)
      (new_v (on_contexts.sub_of l g) g l (λ d m. on_groups.branches_in (ask.Branches kind blocks) kind blocks d g m) v (λ d. (
      let u : DomainState = record l { contexts = (on_contexts.sub_of l g).contexts; groups = l.groups ++ groups.gathered (on_groups.kind_of kind) d (length blocks) ∷ [] } in
      let t : DomainState = on_groups.branched d (length l.groups) (fiber_at l.fibers g).variables (other_branches blocks) u in
      let there : V t.fibers = branched_v d (length l.groups) (fiber_at l.fibers g).variables (other_branches blocks) u v in
      q _ (branch_told kind d) (enters_v (on_groups.did_branch kind d) (on_groups.first_of l.number (length l.fibers) (length (other_branches blocks))) d (on_contexts.before_block (ask.Branches kind blocks) (length l.groups) g t) g t
      (before_v (ask.Branches kind blocks) (length l.groups) g t (λ b e. absurd (cc)) there) there)))))

  cancels_if_v : (maker d : ℕ) (why : Option Plain) (l : DomainState) → V l.fibers → V (on_groups.cancels_if maker d why l).fibers
  cancels_if_v maker d None l v = v
  cancels_if_v maker d (Some why) l v = v

  branch_ended_v : (k : ℕ) (result : Outcome) (g : ℕ) (l : DomainState) → V l.fibers → V (on_groups.branch_ended k result g l).fibers
  branch_ended_v k result g l v =
      let it : BranchEnded = groups.branch_ends result (groups.group_at l.groups k) in
      let t : DomainState = record l { groups = groups.with_group k it.group l.groups } in
      woken_if_v it.woken (on_groups.cancels_if g it.group.context it.cancels t) (cancels_if_v g it.group.context it.cancels t v)

  own_ended_v : (k : ℕ) (own : Option Outcome) (g : ℕ) (l : DomainState) → V l.fibers → V (on_groups.own_ended k own g l).fibers
  own_ended_v k None g l v = v
  own_ended_v k (Some result) g l v = branch_ended_v k result g l v

  joined_v : (k : ℕ) (own : Option Outcome) (d : ℕ) (step : groups.JoinStep) (g : ℕ) (l : DomainState) → V l.fibers → Passes (on_groups.joined_by (ask.Join k own) d step g l)
  joined_v k own d groups.Wait g l v = q _ refl (stands_v (Parked (ForOthers (ask.Join k None))) g l (λ same. refl) v)
  joined_v k own d (groups.Give it) g l v = q _ refl (stands_v _ g (on_contexts.leaves d g l) (λ same. refl) (leaves_v d g l v))
  joined_v k own d (groups.Raise raised) g l v = q _ refl (stands_v _ g (on_contexts.leaves d g l) (λ same. refl) (leaves_v d g l v))

  joins_v : (k : ℕ) (own : Option Outcome) (g : ℕ) (l : DomainState) → V l.fibers → Passes (on_groups.joins (ask.Join k own) k own g l)
  joins_v k own g l v =
      let t : DomainState = on_groups.own_ended k own g l in
      let joined : Joined = groups.join g (groups.group_at t.groups k) in
      joined_v k own joined.group.context joined.step g (record t { groups = groups.with_group k joined.group t.groups }) (own_ended_v k own g l v)

  -- ## Ends

  after_end_v : (role : Role) (result : Outcome) (g : ℕ) (l : DomainState) → V l.fibers → V (on_ends.after_end role result g l).fibers
  after_end_v OfBody result g l v = v
  after_end_v (OfJob executor number) result g l v = v
  after_end_v (OfSwitch k daemon) result g l v = detached_v k daemon result g l v
  after_end_v (OfGroup k) result g l v = branch_ended_v k result g l v
  after_end_v (OfWriter writer) result g l v = v

  ends_v : (result : Outcome) (g : ℕ) (l : DomainState) → V l.fibers → V (on_ends.ends result g l).fibers
  ends_v result g l v =
      after_end_v (fiber_at l.fibers g).role result g (ended result g l)
      (set_v l.fibers g (record (fiber_at l.fibers g) { work = []; variables = []; standing = Ended result }) (λ same old. record { work = refl; call = refl }) v)

  -- ## A fiber's own call

  sleep_v : (time : ℤ) (g : ℕ) (l : DomainState) → V l.fibers → Passes (on_clock.sleep time g l)
  sleep_v time g l v =
      if_v (int_lt time (pos 1)) _ _ (back_v _ _ LooksUp g l refl (λ same. refl) v)
      (if_v (is_within (l.now +ℤ time)) _ _ (off_v (off_for l g) _ _ (λ why. back_v _ _ FindsOff g l refl (λ same. refl) v) (q _ refl (stands_v (Parked Asleep) g l (λ same. refl) v))) (raises_v _ _ g l refl v))

  own_call_v : (script : Script) (call : Ask) (g : ℕ) (l : DomainState) → n < length l.switches → (x ≡ g → closes n c call ≡ 0) → V l.fibers → Passes (own_call script call g l)
  unfolding own_call
  own_call_v script (ask.Trace values) g l opened calm v = head_v _ _ _ g l refl (λ same. refl) v
  own_call_v script ask.Yield g l opened calm v = back_v _ _ LooksUp g l refl (λ same. refl) v
  own_call_v script ask.Check g l opened calm v = off_v (off_for l g) _ _ (λ why. cancelled_v _ why g l refl v) (head_v _ _ _ g l refl (λ same. refl) v)
  own_call_v script ask.AwaitCancel g l opened calm v = off_v (off_for l g) _ _ (λ why. back_v _ _ FindsOff g l refl (λ same. refl) v) (parked_v _ _ ForCancel g l refl (λ same. refl) v)
  own_call_v script ask.Turn g l opened calm v = head_v _ _ _ g l refl (λ same. refl) v
  own_call_v script (ask.Sub block) g l opened calm v =
      off_v (off_for l g) _ _ (λ why. cancelled_v did.Sub why g l refl v)
      (new_v (on_contexts.sub_of l g) g l (λ d m. on_contexts.enters_context did.Sub (said.Done (value.Ctx d)) d (on_contexts.before_block (ask.Sub block) d g m) g m) v
      (λ d. (
      let m : DomainState = record l { contexts = (on_contexts.sub_of l g).contexts } in
      q _ refl (enters_v did.Sub (said.Done (value.Ctx d)) d (on_contexts.before_block (ask.Sub block) d g m) g m (before_v (ask.Sub block) d g m (λ b e. absurd (cc)) v) v))))
  own_call_v script (ask.Protect block) g l opened calm v =
      new_v (on_contexts.protected_of l g) g l (λ d m. on_contexts.enters_context did.Protect (said.Done (value.Ctx d)) d (on_contexts.before_block (ask.Protect block) d g m) g m) v
      (λ d. (
      let m : DomainState = record l { contexts = (on_contexts.protected_of l g).contexts } in
      q _ refl (enters_v did.Protect (said.Done (value.Ctx d)) d (on_contexts.before_block (ask.Protect block) d g m) g m (before_v (ask.Protect block) d g m (λ b e. absurd (cc)) v) v)))
  own_call_v script (ask.Cancel context text) g l opened calm v = if_v (contexts.is_live l.contexts context) _ _ (q _ refl (stands_v _ g (steps.cancels g context (Failure text) l) (λ same. refl) v)) (raises_v _ _ g l refl v)
  own_call_v script (ask.Switch block) g l opened calm v =
      off_v (off_for l g) _ _ (λ why. cancelled_v did.Switch why g l refl v)
      (new_v (on_contexts.sub_of l g) g l (λ d m. on_contexts.enters_context did.Switch (said.Done (value.Switch (length l.switches))) d (on_contexts.before_block (ask.Switch block) (length l.switches) g m) g (on_switches.opens d m)) v
      (λ d. (
      let m : DomainState = on_switches.opens d (record l { contexts = (on_contexts.sub_of l g).contexts }) in
      q _ refl (enters_v did.Switch (said.Done (value.Switch (length l.switches))) d (on_contexts.before_block (ask.Switch block) (length l.switches) g m) g m (before_v (ask.Switch block) (length l.switches) g m (λ b e. opened) v) v))))
  own_call_v script (ask.Fork forking k block) g l opened calm v = fork_v forking k block g l v
  own_call_v script (ask.Fail k text) g l opened calm v =
      if_v (switch_at l.switches k).finished _ _ (raises_v _ _ g l refl v)
      (q _ refl (stands_v (Ready (GoesOn (outcome.Ok value.Unit))) g (on_switches.fails g k (One (steps.member (Failure text) l)) (steps.counted l)) (λ same. refl) (fails_v g k (One (steps.member (Failure text) l)) (steps.counted l) v)))
  own_call_v script (ask.OnRelease k block) g l opened calm v = release_v k block g l v
  own_call_v script (ask.Branches kind blocks) g l opened calm v = branches_v kind blocks g l v
  own_call_v script (ask.Sleep time) g l opened calm v = sleep_v time g l v
  own_call_v script ask.Now g l opened calm v = head_v _ _ _ g l refl (λ same. refl) v
  own_call_v script (ask.Leave context late it) g l opened calm v = left_v context late it g (on_contexts.leaves context g l) (leaves_v context g l v)
  own_call_v script (ask.Close k came kept) g l opened calm v = close_v script k came kept g l calm v
  own_call_v script (ask.Join k own) g l opened calm v = joins_v k own g l v
  own_call_v script (ask.End it) g l opened calm v = q _ refl (ends_v it g l v)
  own_call_v script call g l opened calm v = halts_v g l v

  -- ## Calls on objects

  object_told : (it : ObjectCall) (object : ℕ) → closed_of (on_objects.did_call it object) ≡ None
  object_told syntax.Take object = refl
  object_told syntax.TakeNonblocking object = refl
  object_told syntax.Length object = refl
  object_told syntax.Await object = refl
  object_told syntax.Acquire object = refl
  object_told syntax.Release object = refl
  object_told syntax.Lock object = refl
  object_told syntax.TryLock object = refl
  object_told syntax.Unlock object = refl

  object_with_told : (it : ObjectCallWith) (object : ℕ) (operand : Value) → closed_of (on_objects.did_call_with it object operand) ≡ None
  object_with_told syntax.Add object operand = refl
  object_with_told syntax.Resolve object operand = refl
  object_with_told syntax.TryResolve object operand = refl

  end_told : (role : Role) → closed_of (on_objects.did_end role) ≡ None
  end_told (OfJob executor number) = refl
  end_told role = refl

  asked_told : (call : Ask) (role : Role) → closed_of (on_objects.did_ask call role) ≡ None
  asked_told (ask.OnObject it object) role = object_told it object
  asked_told (ask.OnObjectWith it object operand) role = object_with_told it object operand
  asked_told (ask.Use pool) role = refl
  asked_told (ask.Submit executor weight given block) role = refl
  asked_told (ask.UnlockEnd mutex it) role = refl
  asked_told (ask.PoisonEnd mutex raised) role = refl
  asked_told (ask.PutEnd pool resource it) role = refl
  asked_told (ask.ResolveEnd promise it) role = refl
  asked_told call role = end_told role

  answered_with_v : (call : Ask) (it : Did) (reply : Said2) (given : Value) (g : ℕ) (l : DomainState) → closed_of it ≡ None → V l.fibers → Passes (on_objects.answered_with call it reply given g l)
  answered_with_v (ask.End result) it reply given g l none v = q _ none (ends_v result g l v)
  answered_with_v call it reply given g l none v = q _ none (stands_v _ g l (λ same. refl) v)

  nothing_done_v : (call : Ask) (it : Did) (g : ℕ) (l : DomainState) → closed_of it ≡ None → V l.fibers → Passes (on_objects.nothing_done call it g l)
  nothing_done_v (ask.Submit executor weight given block) it g l none v = halts_v g l v
  nothing_done_v call it g l none v = answered_with_v call it said.Nothing value.Unit g l none v

  raised_v : (call : Ask) (it : Did) (raised : Raised) (g : ℕ) (l : DomainState) → closed_of it ≡ None → V l.fibers → Passes (on_objects.raised_for call it raised g l)
  raised_v (ask.OnObject syntax.Await object) it raised g l none v = q _ none (stands_v _ g l (λ same. refl) v)
  raised_v call it raised g l none v = q _ none (stands_v (Ready (GoesOn (outcome.Err raised))) g l (λ same. refl) v)

  answered_v : (call : Ask) (role : Role) (it : Did) (asked : Asked) (given : Answer) (g : ℕ) (l : DomainState) → closed_of it ≡ None → V l.fibers → Passes (on_objects.answered_by call role it asked given g l)
  answered_v call role it asked (answer.Done given) g l none v =
      answered_with_v call it (said.Done given) given g (on_objects.owing call role given g l) none (subst V (sym (ap (λ (w : View). w.fibers) (owing_same call role given g l))) v)
  answered_v call role it asked answer.Waits g l none v =
      q _ none (stands_v (Parked (OnObject asked.who)) g (on_objects.owing_wait call g l) (λ same. refl) (subst V (sym (ap (λ (w : View). w.fibers) (owing_wait_same call g l))) v))
  answered_v call role it asked answer.Off g l none v = q _ none (stands_v (Ready FindsOff) g l (λ same. refl) v)
  answered_v call role it asked answer.Nothing g l none v = nothing_done_v call it g l none v
  answered_v call role it asked (answer.Raised raised) g l none v = raised_v call it raised g l none v
  answered_v call role it asked (answer.Woke who) g l none v = q _ none (stands_v _ g l (λ same. refl) v)
  answered_v call role it asked (answer.Started domain number) g l none v = q _ none (stands_v _ g l (λ same. refl) v)

  -- ## Obligations and the clock

  strike_v : (duty : Duty) (g : ℕ) (won : Bool) (l : DomainState) → V l.fibers → Passes (on_duties.strike_told duty g won l)
  strike_v duty g true l v = q _ refl (stands_v (Ready (GoesOn (outcome.Err (Cancelled (steps.member (unwrap_or (off_for l g) Exit) l))))) g l (λ same. refl) v)
  strike_v duty g false l v = q _ refl v

  own_strike_v : (duty : Duty) (g : ℕ) (standing : Standing) (l : DomainState) → V l.fibers → Passes (on_duties.own_strike duty g standing l)
  own_strike_v duty g (Parked Asleep) l v = q _ refl (stands_v (Ready (GoesOn (outcome.Err (Cancelled (steps.member (unwrap_or (off_for l g) Exit) l))))) g l (λ same. refl) v)
  own_strike_v duty g (Parked ForCancel) l v = strike_v duty g true l v
  own_strike_v duty g standing l v = q _ refl v

  own_duty_v : (maker : ℕ) (owed : Owed) (l : DomainState) → V l.fibers → Passes (on_duties.own_duty (record { maker = maker; owed = owed }) l)
  own_duty_v maker (Strike g) l v = own_strike_v (record { maker = maker; owed = Strike g }) g (fiber_at l.fibers g).standing l v
  own_duty_v maker (Wake object poisoned) l v = q _ refl v
  own_duty_v maker (Start executor) l v = q _ refl v

  wake_v : (duty : Duty) (object : ℕ) (poisoned : Bool) (given : Answer) (l : DomainState) → V l.fibers → Passes (on_duties.wake_told duty object poisoned given l)
  wake_v duty object true (answer.Woke who) l v = q _ refl v
  wake_v duty object false (answer.Woke who) l v = q _ refl v
  wake_v duty object poisoned other l v = q _ refl v

  start_v : (duty : Duty) (executor : ℕ) (given : Answer) (l : DomainState) → V l.fibers → Passes (on_duties.start_told duty executor given l)
  start_v duty executor (answer.Started domain number) l v = q _ refl v
  start_v duty executor other l v = q _ refl v

  duty_answered_v : (maker : ℕ) (owed : Owed) (given : Answer) (l : DomainState) → V l.fibers → Passes (on_duties.duty_answered (record { maker = maker; owed = owed }) given l)
  duty_answered_v maker (Strike g) given l v = q _ refl v
  duty_answered_v maker (Wake object poisoned) given l v = wake_v (record { maker = maker; owed = Wake object poisoned }) object poisoned given l v
  duty_answered_v maker (Start executor) given l v = start_v (record { maker = maker; owed = Start executor }) executor given l v

  duty_struck_v : (maker : ℕ) (owed : Owed) (won : Bool) (l : DomainState) → V l.fibers → Passes (on_duties.duty_struck (record { maker = maker; owed = owed }) won l)
  duty_struck_v maker (Strike g) won l v = strike_v (record { maker = maker; owed = Strike g }) g won l v
  duty_struck_v maker (Wake object poisoned) won l v = q _ refl v
  duty_struck_v maker (Start executor) won l v = q _ refl v

  wakes_v : (fibers : List ℕ) (l : DomainState) → V l.fibers → V (on_clock.wakes fibers l).fibers
  wakes_v [] l v = v
  wakes_v (g ∷ fibers) l v = wakes_v fibers (to_back (GoesOn (outcome.Ok value.Unit)) g l) (stands_v (Ready (GoesOn (outcome.Ok value.Unit))) g l (λ same. refl) v)

  tick_v : (l : DomainState) → V l.fibers → Passes (on_clock.tick l)
  tick_v l v =
      let time = unwrap_or (earliest l.timers) l.now in
      q _ refl (wakes_v (due_fibers time l.timers) (record l { now = time; timers = record (l.timers) { standing = filter (λ timer. not (is_due time timer)) l.timers.standing } }) v)

  -- ## Messages

  job_v : (script : Script) (job : Job) (number : ℕ) (l : DomainState) → V l.fibers → V (on_ends.job_begun script job number l).fibers
  job_v script job number l v = by (contexts.root l.contexts).number
    where
      by : (found : Option ℕ) → V (elim found as (λ _. DomainState) [ None ↦ l | Some d ↦ on_ends.job_made script job number d (record l { contexts = (contexts.root l.contexts).contexts }) ]).fibers
      by None = v
      by (Some d) =
          set_v _ (length l.fibers) _ (λ same old. record { work = old.work; call = refl }) (made_v l.fibers _ (record { work = refl; call = refl }) v)

  received_v : (script : Script) (it : Message) (l : DomainState) → V l.fibers → V (on_ends.received script it l).fibers
  received_v script (message.Resume who result stamp) l v = stands_v (Ready (GoesOn result)) who.fiber l (λ same. refl) v
  received_v script (message.Start job number stamp) l v = job_v script job number l v

  with_message_v : (script : Script) (mine : Option Message) (step : Step) → Passes step → Passes (with_message script mine step)
  with_message_v script None step p = record { veils = p.veils; told = p.told }
  with_message_v script (Some it) step p = record { veils = received_v script it step.state p.veils; told = p.told }

  takes_v : (script : Script) (it : Message) (l : DomainState) → V l.fibers → Passes (on_ends.takes script it l)
  takes_v script (message.Resume who result stamp) l v = q _ refl (received_v script (message.Resume who result stamp) l v)
  takes_v script (message.Start job number stamp) l v = if_v (is_full_for_one l) _ _ (halts_v (length l.fibers) l v) (q _ refl (received_v script (message.Start job number stamp) l v))

  -- ## The mocked outside

  copier_v : (writer : ℕ) (l : DomainState) → V l.fibers → V (on_mocks.wakes_copier writer l).fibers
  copier_v writer l v = by (on_mocks.resting_copier writer l.fibers)
    where
      by : (found : Option ℕ) → V (elim found as (λ _. DomainState) [ None ↦ l | Some g ↦ to_back (GoesOn (outcome.Ok value.Unit)) g l ]).fibers
      by None = v
      by (Some g) = stands_v (Ready (GoesOn (outcome.Ok value.Unit))) g l (λ same. refl) v

  bytes_v : (writer : ℕ) (bytes : List ℕ) (l : DomainState) → V l.fibers → V (on_mocks.wakes_by_bytes writer bytes l).fibers
  bytes_v writer [] l v = v
  bytes_v writer (b ∷ bytes) l v = copier_v writer l v

  goes_into_v : (call : Ask) (number : ℕ) (it : Said) (g : ℕ) (l : DomainState) → ((block : Block) → call ≡ ask.Switch block → n < number) → V l.fibers → V (on_mocks.goes_into call number it g l).state.fibers
  goes_into_v call number it g l new v =
      let position : Position = on_contexts.before_block call number g l in
      stands_v (Ready (GoesOn (outcome.Ok value.Unit))) g (placed position g l) (λ same. refl)
      (set_v l.fibers g (record (fiber_at l.fibers g) { work = position.work; variables = position.variables }) (λ same old. record { work = before_v call number g l new v same; call = old.call }) v)

  opens_writer_v : (flow : ℕ) (block : Block) (number : ℕ) (it : Said) (g : ℕ) (l : DomainState) → V l.fibers → Passes (on_mocks.opens_writer (ask.OpenWriter flow block) number it g l)
  opens_writer_v flow block number it g l v =
      let call : Ask = ask.OpenWriter flow block in
      new_v (on_contexts.protected_of l g) g l (λ d m. (
      let new = length m.fibers in
      let t : DomainState = made d (OfWriter number) (record { work = []; variables = [] }) m in
      let step : Step = on_mocks.goes_into call number it g t in
      record step { state = to_head (GoesOn (outcome.Ok value.Unit)) new step.state })) v (λ d. (
      let m : DomainState = record l { contexts = (on_contexts.protected_of l g).contexts } in
      let t : DomainState = made d (OfWriter number) (record { work = []; variables = [] }) m in
      let step : Step = on_mocks.goes_into call number it g t in
      q _ refl (stands_v (Ready (GoesOn (outcome.Ok value.Unit))) (length l.fibers) step.state (λ same. refl)
      (goes_into_v call number it g t (λ b e. absurd (cc)) (made_v l.fibers _ (record { work = refl; call = refl }) v)))))

  passing_v : (result : Option Outcome) (given : Value) (it : Said) (g : ℕ) (l : DomainState) → V l.fibers → Passes (elim result as (λ _. Step) [
    | Some result ↦ steps.told g (did.Mock it) (said.Done given) (to_head (GoesOn result) g l)
    | None ↦ steps.answers (did.Mock it) (outcome.Ok given) g l
  ])
  passing_v (Some result) given it g l v = q _ refl (stands_v _ g l (λ same. refl) v)
  passing_v None given it g l v = q _ refl (stands_v _ g l (λ same. refl) v)

  done_by_v : (call : Ask) (given : Value) (it : Said) (g : ℕ) (l : DomainState) → V l.fibers → Passes (on_mocks.done_by call given it g l)
  done_by_v (ask.OpenReader flow limit block) given it g l v = q _ refl (goes_into_v (ask.OpenReader flow limit block) (number_in given) it g l (λ b e. absurd (cc)) v)
  done_by_v (ask.OpenDirectory place path block) given it g l v = q _ refl (goes_into_v (ask.OpenDirectory place path block) (number_in given) it g l (λ b e. absurd (cc)) v)
  done_by_v (ask.OpenWriter flow block) given it g l v = opens_writer_v flow block (number_in given) it g l v
  done_by_v (ask.PutText writer text) given it g l v = q _ refl (stands_v (Ready (GoesOn (outcome.Ok given))) g (on_mocks.wakes_by_bytes writer (text_at l.texts text) l) (λ same. refl) (bytes_v writer (text_at l.texts text) l v))
  done_by_v call given it g l v = passing_v (passing call) given it g l v

  waits_by_v : (call : Ask) (g : ℕ) (l : DomainState) → (x ≡ g → closes n c call ≡ 0) → V l.fibers → Passes (on_mocks.waits_by call g l)
  waits_by_v (ask.ShutWriter writer result) g l calm v = q _ refl (stands_v (Parked (ForOthers (ask.ShutWriter writer result))) g (on_mocks.wakes_copier writer l) (λ same. refl) (copier_v writer l v))
  waits_by_v call g l calm v = q _ refl (stands_v (Parked (ForOthers call)) g l calm v)

  mock_answered_v : (call : Ask) (given : Extra) (g : ℕ) (l : DomainState) → (x ≡ g → closes n c call ≡ 0) → V l.fibers → Passes (on_mocks.mock_answered call given g l)
  mock_answered_v call (extra.Done given it) g l calm v = done_by_v call given it g l v
  mock_answered_v call (extra.More it) g l calm v = q _ refl (stands_v (Ready (CallsAgain call)) g l calm v)
  mock_answered_v call extra.Back g l calm v = q _ refl (stands_v (Ready (CallsAgain call)) g l calm v)
  mock_answered_v call extra.Waits g l calm v = waits_by_v call g l calm v
  mock_answered_v call (extra.Raised raised it) g l calm v = q _ refl (stands_v (Ready (GoesOn (outcome.Err raised))) g l (λ same. refl) v)

  carried_v : (writer : ℕ) (given : Extra) (g : ℕ) (l : DomainState) → V l.fibers → Passes (on_mocks.carried_by writer given g l)
  carried_v writer (extra.More it) g l v = q _ refl (stands_v _ g l (λ same. refl) v)
  carried_v writer (extra.Done given it) g l v =
      let t : DomainState = on_ends.ends (outcome.Ok value.Unit) g l in
      q _ refl (woken_if_v (on_mocks.shutter writer t.fibers) t (ends_v (outcome.Ok value.Unit) g l v))
  carried_v writer other g l v = q _ refl (stands_v (Parked Resting) g l (λ same. refl) v)

  -- ## How a move begins

  -- the fiber leaves the context, or is veiled still
  pub data Begins (it : Prepared) : Type 0 where
    Ends : (late : Bool) → (result : Outcome) → it.doing ≡ doing.Calls x (ask.Leave c late result) → Begins it
    Stays : V it.state.fibers → ((g : ℕ) (call : Ask) → it.doing ≡ doing.Calls g call → x ≡ g → closes n c call ≡ 0) → Begins it

  next_v : (next : Next) (off : Option Plain) (fiber : Fiber) (e : Carry) → closing n c fiber.work ≡ 0 → stood n c (Ready next) ≡ 0 → Settles n c (next_call next off fiber e)
  next_v (GoesOn it) off fiber e h call = passed_veils n c it fiber.work e h
  next_v LooksUp (Some why) fiber e h call = thrown_veils n c fiber.work _ _ h
  next_v LooksUp None fiber e h call = passed_veils n c (outcome.Ok value.Unit) fiber.work e h
  next_v FindsOff off fiber e h call = thrown_veils n c fiber.work _ _ h
  next_v (CallsAgain repeated) off fiber e h call = Goes_on call h

  next_stood : (standing : Standing) → stood n c standing ≡ 0 → stood n c (Ready (next_of standing)) ≡ 0
  next_stood (Ready next) h = h
  next_stood (Parked wait) h = refl
  next_stood (Ended it) h = refl

  the_call : (g k : ℕ) (a b : Ask) → doing.Calls g a ≡ doing.Calls k b → (g ≡ k) × (a ≡ b)
  the_call g k a b e = (cc, cc)

  -- another fiber moves
  other_begins : (g : ℕ) (settled : Settled) (l : DomainState) → (x ≡ g → ⊥) → V l.fibers → Begins (called_by g (fiber_at l.fibers g) settled l)
  other_begins g settled l differs v =
      Stays (set_v l.fibers g _ (λ same old. absurd (differs same)) v) (λ k call is same. absurd (differs (same ∙ sym (the_call g k settled.call call is).0)))

  this_begins : (g : ℕ) (l : DomainState) → x ≡ g → V l.fibers → (settled : Settled) → Settles n c settled → Begins (called_by g (fiber_at l.fibers g) settled l)
  this_begins g l same v settled (Leaves late result is) = Ends late result (ap (λ (call : Ask). doing.Calls g call) is ∙ ap (λ (k : ℕ). doing.Calls k (ask.Leave c late result)) (sym same))
  this_begins g l same v settled (Goes_on call behind) =
      Stays (set_v l.fibers g _ (λ here old. record { work = behind; call = old.call }) v) (λ k it is here. ap (closes n c) (sym (the_call g k settled.call it is).1) ∙ call)

  moves_v : (role : Role) (g : ℕ) (l : DomainState) → V l.fibers → Begins (moves_of role g (fiber_at l.fibers g) (next_of (fiber_at l.fibers g).standing) l)
  moves_v (OfWriter writer) g l v = Stays v (λ k call is same. absurd (cc))
  moves_v role g l v = by (compared x g)
    where
      fiber : Fiber
      fiber = fiber_at l.fibers g

      settled : Settled
      settled = next_call (next_of fiber.standing) (off_for l g) fiber (carry_of fiber l)

      by : Compared x g → Begins (called_by g fiber settled l)
      by (Other differs none) = other_begins g settled l differs v
      by (Same same is_one) =
          let here : Veiled n c fiber = at_it l.fibers g same v in
          this_begins g l same v settled (next_v (next_of fiber.standing) (off_for l g) fiber (carry_of fiber l) here.work (next_stood fiber.standing here.call))

  pub begins : (l : DomainState) → V l.fibers → Begins (prepared l)
  unfolding prepared
  begins l v = duties_by l.duties
    where
      timers_by : (standing : List Timer) → Begins (elim standing as (λ _. Prepared) [ [] ↦ at_once doing.Rests l | timer ∷ others ↦ at_once doing.Ticks l ])
      timers_by [] = Stays v (λ k call is same. absurd (cc))
      timers_by (timer ∷ others) = Stays v (λ k call is same. absurd (cc))

      ready_by : (ready : List ℕ) → Begins (elim ready as (λ _. Prepared) [ [] ↦ prepared_timers l | g ∷ others ↦ doing.moves g (fiber_at l.fibers g) (record l { ready = others }) ])
      ready_by [] = timers_by l.timers.standing
      ready_by (g ∷ others) = moves_v (fiber_at l.fibers g).role g (record l { ready = others }) v

      duties_by : (duties : List Duty) → Begins (elim duties as (λ _. Prepared) [ [] ↦ prepared_ready l | duty ∷ others ↦ at_once (doing.Owes duty) (record l { duties = others }) ])
      duties_by [] = ready_by l.ready
      duties_by (duty ∷ others) = Stays v (λ k call is same. absurd (cc))

  -- ## The move

  own_v : (script : Script) (what : Doing) (l : DomainState) → n < length l.switches → ((g : ℕ) (call : Ask) → what ≡ doing.Calls g call → x ≡ g → closes n c call ≡ 0) → V l.fibers → Passes (own_move script (at_once what l))
  own_v script doing.Rests l opened calm v = q _ refl v
  own_v script (doing.Owes duty) l opened calm v = own_duty_v duty.maker duty.owed l v
  own_v script (doing.Calls g call) l opened calm v = own_call_v script call g l opened (calm g call refl) v
  own_v script (doing.Carries g writer) l opened calm v = q _ refl v
  own_v script doing.Ticks l opened calm v = tick_v l v

  called_v : (what : Doing) (l : DomainState) (asked : Asked) (given : Answer) → V l.fibers → Passes (called_move (at_once what l) asked given)
  called_v doing.Rests l asked given v = q _ refl v
  called_v (doing.Owes duty) l asked given v = duty_answered_v duty.maker duty.owed given l v
  called_v (doing.Calls g call) l asked given v = (let role : Role = (fiber_at l.fibers g).role in answered_v call role (on_objects.did_ask call role) asked given g l (asked_told call role) v)
  called_v (doing.Carries g writer) l asked given v = q _ refl v
  called_v doing.Ticks l asked given v = q _ refl v

  struck_v : (what : Doing) (l : DomainState) (won : Bool) → V l.fibers → Passes (struck_move (at_once what l) won)
  struck_v doing.Rests l won v = q _ refl v
  struck_v (doing.Owes duty) l won v = duty_struck_v duty.maker duty.owed won l v
  struck_v (doing.Calls g call) l won v = q _ refl v
  struck_v (doing.Carries g writer) l won v = q _ refl v
  struck_v doing.Ticks l won v = q _ refl v

  mocked_v : (what : Doing) (l : DomainState) (given : Extra) (texts : List (List ℕ)) → ((g : ℕ) (call : Ask) → what ≡ doing.Calls g call → x ≡ g → closes n c call ≡ 0) → V l.fibers → Passes (mocked_by (at_once what l) given (record l { texts = texts }))
  mocked_v doing.Rests l given texts calm v = q _ refl v
  mocked_v (doing.Owes duty) l given texts calm v = q _ refl v
  mocked_v (doing.Calls g call) l given texts calm v = mock_answered_v call given g (record l { texts = texts }) (calm g call refl) v
  mocked_v (doing.Carries g writer) l given texts calm v = carried_v writer given g (record l { texts = texts }) v
  mocked_v doing.Ticks l given texts calm v = q _ refl v

  -- the fiber leaves the context with this step
  pub record LeavesBy (step : Step) : Type 0 where
    pub fiber : step.fiber ≡ x
    pub left : step.did ≡ did.Leave c

  pub data Goes (step : Step) : Type 0 where
    ItLeaves : LeavesBy step → Goes step
    ItPasses : Passes step → Goes step

  left_told : (script : Script) (late : Bool) (result : Outcome) (l : DomainState) → LeavesBy (own_call script (ask.Leave c late result) x l)
  unfolding own_call
  left_told script true (outcome.Ok it) l = record { fiber = refl; left = refl }
  left_told script false (outcome.Ok it) l = record { fiber = refl; left = refl }
  left_told script true (outcome.Err raised) l = record { fiber = refl; left = refl }
  left_told script false (outcome.Err raised) l = record { fiber = refl; left = refl }

  leaving_own : (what : Doing) (late : Bool) (result : Outcome) (l : DomainState) → what ≡ doing.Calls x (ask.Leave c late result) → asks_by (at_once what l) ≡ Own
  leaving_own what late result l is = subst (λ (d : Doing). asks_by (at_once d l) ≡ Own) (sym is) refl

  pub step_goes : (script : Script) (l : DomainState) (label : Label) → n < length (prepared l).state.switches → Fits l label → V l.fibers → Goes (stepped_by script (prepared l) label l)
  unfolding asks
  step_goes script l label opened fits v = by label fits (begins l v)
    where
      m : DomainState
      m = (prepared l).state

      by : (label : Label) → Fits l label → Begins (prepared l) → Goes (stepped_by script (prepared l) label l)
      by Inner fits (Ends late result is) = ItLeaves (subst (λ (d : Doing). LeavesBy (own_move script (at_once d m))) (sym is) (left_told script late result m))
      by Inner fits (Stays there calm) = ItPasses (own_v script (prepared l).doing m opened calm there)
      by (Called asked given mine) fits (Ends late result is) = absurd (let e = sym (leaving_own (prepared l).doing late result m is) ∙ fits in cc)
      by (Called asked given mine) fits (Stays there calm) = ItPasses (with_message_v script mine _ (called_v (prepared l).doing m asked given there))
      by (Struck who won) fits (Ends late result is) = absurd (let e = sym (leaving_own (prepared l).doing late result m is) ∙ fits in cc)
      by (Struck who won) fits (Stays there calm) = ItPasses (struck_v (prepared l).doing m won there)
      by (Mocked call given texts) fits (Ends late result is) = absurd (let e = sym (leaving_own (prepared l).doing late result m is) ∙ fits in cc)
      by (Mocked call given texts) fits (Stays there calm) = ItPasses (mocked_v (prepared l).doing m given texts calm there)
      by (Took it) fits begun = ItPasses (takes_v script it l v)
