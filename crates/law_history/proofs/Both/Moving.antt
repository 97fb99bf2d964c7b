-- What a domain's own moves keep.
use Rattle.std.proofs.Common.{ℕ, ◌-◌, ◌&&◌, Bool, true, false, List, [], ◌∷◌, ◌++◌, length, Option, Some, None}
use Rattle.eio_value.specs.declared.plain.Misuse.TheVariants.{ContextFinished}
use Rattle.eio_value.specs.declared.plain.Plain.{Plain}
use Rattle.eio_value.specs.declared.plain.Plain.TheVariants.{Failure, Invalid, Exit}
use Rattle.eio_value.specs.declared.raised.Outcome.{Outcome}
use Rattle.eio_value.specs.declared.raised.Outcome.TheVariants as outcome
use Rattle.eio_value.specs.declared.raised.Raised.{Raised}
use Rattle.eio_value.specs.declared.raised.Raised.TheVariants.{One}
use Rattle.eio_value.specs.declared.value.TextId.{TextId}
use Rattle.eio_value.specs.declared.value.Value.{Value}
use Rattle.eio_value.specs.declared.value.Value.TheVariants as value
use Rattle.spec_parts.specs.Contexts as contexts
use Rattle.spec_parts.specs.Contexts.{Made}
use Rattle.spec_parts.specs.Groups as groups
use Rattle.spec_parts.specs.Switches as switches
use Rattle.spec_parts.specs.Switches.{Switch, Handler, Closed, CloseStep}
use Rattle.spec_script.specs.Scripts.{Script}
use Rattle.spec_script.specs.Syntax as syntax
use Rattle.spec_script.specs.Syntax.{Block, Forking}
use Rattle.spec_fiber.specs.Asks as ask
use Rattle.spec_fiber.specs.Asks.{Ask, again}
use Rattle.spec_fiber.specs.Numbered.{number_of, block_numbered}
use Rattle.spec_fiber.specs.Replies.{Position, begun, handled, other_branches}
use Rattle.trace_lines.specs.declared.line.Did.{Did}
use Rattle.trace_lines.specs.declared.line.Did.TheVariants as did
use Rattle.trace_lines.specs.declared.line.Said2.{Said2}
use Rattle.trace_lines.specs.declared.line.Said2.TheVariants as said
use Rattle.spec_machine.specs.Domain.{OfGroup, OfSwitch, GoesOn, LooksUp, FindsOff, ForCancel, ForOthers, Fiber, DomainState, fiber_at, off_for, is_full_by, made, to_head, placed, moved_to}
use Rattle.spec_machine.specs.Steps as steps
use Rattle.spec_machine.specs.Steps.{Step, counted}
use Rattle.spec_machine.specs.ContextMoves as on_contexts
use Rattle.spec_machine.specs.SwitchMoves as on_switches
use Rattle.spec_machine.specs.GroupMoves as on_groups
use Rattle.spec_machine.specs.Moves.{own_call}
use Rattle.law_history.proofs.Both.Plain.{IsPlainForking, IsPlainBlock, ArePlain}
use Rattle.law_history.proofs.Both.Settling.{CallIs, IsWork, items_are, others_plain, entered_is, handled_is, again_is}
use Rattle.law_history.proofs.Both.Standings.{Stands, fiber_is, head_stands, back_stands, parked_stands, placed_stands, moved_stands, made_stands, leaves_stands, cancels_stands, fails_stands, branch_ended_stands, ends_stands}

-- of so many objects
module _ (objects : ℕ) where
  -- each block that a handler or a job names by its number is plain
  abbrev pub BlocksAre : Script → Type 0
  BlocksAre script = (number : ℕ) → IsPlainBlock objects (block_numbered script number)

  abbrev pub Kept : Step → Type 0
  Kept step = Stands objects step.state

  -- ## The parts of moves

  pub answers_kept : (result : Outcome) (g : ℕ) (l : DomainState) → Stands objects l → Stands objects (to_head (GoesOn result) g l)
  answers_kept result g l h = head_stands objects (GoesOn result) g l tt h

  pub enters_kept : (it : Did) (reply : Said2) (context : ℕ) (position : Position) (g : ℕ) (l : DomainState) → IsWork objects position.work → Stands objects l
      → Kept (on_contexts.enters_context it reply context position g l)
  enters_kept it reply context position g l is h =
      head_stands objects (GoesOn (outcome.Ok value.Unit)) g (placed position g (moved_to context g l)) tt (placed_stands objects position g (moved_to context g l) is (moved_stands objects context g l h))

  before_is : (call : Ask) (number g : ℕ) (l : DomainState) → CallIs objects call → Stands objects l → IsWork objects (on_contexts.before_block call number g l).work
  before_is call number g l plain h = entered_is objects call number (fiber_at l.fibers g).work (fiber_at l.fibers g).variables plain (fiber_is objects g l h).1

  in_new_kept : (number : Option ℕ) (all : List contexts.Context) (g : ℕ) (l : DomainState) (then : ℕ → DomainState → Step) → Stands objects l
      → ((c : ℕ) (m : DomainState) → Stands objects m → Kept (then c m))
      → Kept (steps.in_new (record { number = number; contexts = all }) g l then)
  in_new_kept None all g l then h kept = h
  in_new_kept (Some c) all g l then h kept = kept c _ h

  if_kept : (b : Bool) (one other : Step) → Kept one → Kept other → Kept (elim b as (λ _. Step) [ true ↦ one | false ↦ other ])
  if_kept true one other h k = h
  if_kept false one other h k = k

  if_off_kept : (off : Option Plain) (one : Plain → Step) (other : Step) → ((why : Plain) → Kept (one why)) → Kept other → Kept (elim off as (λ _. Step) [ Some why ↦ one why | None ↦ other ])
  if_off_kept None one other h k = k
  if_off_kept (Some why) one other h k = h why

  -- ## Contexts

  subs_kept : (call : Ask) (g : ℕ) (l : DomainState) → CallIs objects call → Stands objects l → Kept (on_contexts.subs call g l)
  subs_kept call g l plain h =
      if_off_kept (off_for l g) _ _ (λ why. answers_kept _ g (counted l) h)
      (in_new_kept (on_contexts.sub_of l g).number (on_contexts.sub_of l g).contexts g l (λ c m. on_contexts.enters_context did.Sub (said.Done (value.Ctx c)) c (on_contexts.before_block call c g m) g m) h
      (λ c m k. enters_kept did.Sub (said.Done (value.Ctx c)) c (on_contexts.before_block call c g m) g m (before_is call c g m plain k) k))

  protects_kept : (call : Ask) (g : ℕ) (l : DomainState) → CallIs objects call → Stands objects l → Kept (on_contexts.protects call g l)
  protects_kept call g l plain h =
      in_new_kept (on_contexts.protected_of l g).number (on_contexts.protected_of l g).contexts g l (λ c m. on_contexts.enters_context did.Protect (said.Done (value.Ctx c)) c (on_contexts.before_block call c g m) g m) h
      (λ c m k. enters_kept did.Protect (said.Done (value.Ctx c)) c (on_contexts.before_block call c g m) g m (before_is call c g m plain k) k)

  left_kept : (c : ℕ) (late : Bool) (it : Outcome) (g : ℕ) (l : DomainState) → Stands objects l → Kept (on_contexts.left_with c late it g l)
  left_kept c true (outcome.Ok it) g l h = answers_kept _ g (counted l) h
  left_kept c false (outcome.Ok it) g l h = answers_kept (outcome.Ok it) g l h
  left_kept c true (outcome.Err raised) g l h = answers_kept (outcome.Err raised) g l h
  left_kept c false (outcome.Err raised) g l h = answers_kept (outcome.Err raised) g l h

  leave_kept : (c : ℕ) (late : Bool) (it : Outcome) (g : ℕ) (l : DomainState) → Stands objects l → Kept (on_contexts.leave c late it g l)
  leave_kept c late it g l h = left_kept c late it g (on_contexts.leaves c g l) (leaves_stands objects c g l h)

  cancel_kept : (c : ℕ) (text : TextId) (g : ℕ) (l : DomainState) → Stands objects l → Kept (on_contexts.cancel c text g l)
  cancel_kept c text g l h =
      if_kept (contexts.is_live l.contexts c) (steps.does (did.Cancel c text) g (steps.cancels g c (Failure text) l)) (steps.raises (did.Cancel c text) (Invalid ContextFinished) g l)
      (answers_kept _ g (steps.cancels g c (Failure text) l) (cancels_stands objects g c (Failure text) l h)) (answers_kept _ g (counted l) h)

  check_kept : (g : ℕ) (l : DomainState) → Stands objects l → Kept (on_contexts.check g l)
  check_kept g l h = if_off_kept (off_for l g) _ _ (λ why. answers_kept _ g (counted l) h) (answers_kept _ g l h)

  -- ## Switches

  switch_kept : (call : Ask) (g : ℕ) (l : DomainState) → CallIs objects call → Stands objects l → Kept (on_switches.switch call g l)
  switch_kept call g l plain h =
      if_off_kept (off_for l g) _ _ (λ why. answers_kept _ g (counted l) h)
      (in_new_kept (on_contexts.sub_of l g).number (on_contexts.sub_of l g).contexts g l
      (λ c m. on_contexts.enters_context did.Switch (said.Done (value.Switch (length l.switches))) c (on_contexts.before_block call (length l.switches) g m) g (on_switches.opens c m)) h
      (λ c m k. enters_kept did.Switch (said.Done (value.Switch (length l.switches))) c (on_contexts.before_block call (length l.switches) g m) g (on_switches.opens c m) (before_is call (length l.switches) g m plain k) k))

  forked_is : (forking : Forking) (block : Block) (variables : List Value) → IsPlainForking objects forking → IsPlainBlock objects block → IsWork objects (on_switches.forked forking block variables).work
  forked_is syntax.Plain block variables promise plain = (items_are objects block plain, tt)
  forked_is syntax.Daemon block variables promise plain = (items_are objects block plain, tt)
  forked_is (syntax.Promising number) block variables promise plain = (items_are objects block plain, (promise, tt))

  makes_kept : (forking : Forking) (n : ℕ) (block : Block) (g : ℕ) (l : DomainState) → IsPlainForking objects forking → IsPlainBlock objects block → Stands objects l → Kept (on_switches.makes forking n block g l)
  makes_kept forking n block g l promise plain h =
      let new = length l.fibers in
      let switch : Switch = switches.switch_at l.switches n in
      let position : Position = on_switches.forked forking block (fiber_at l.fibers g).variables in
      let t : DomainState = made switch.context (OfSwitch n (on_switches.is_daemon forking)) position l in
      let k : Stands objects t = made_stands objects switch.context (OfSwitch n (on_switches.is_daemon forking)) position l tt (forked_is forking block (fiber_at l.fibers g).variables promise plain) h in
      let u : DomainState = on_switches.with_switch_at n (switches.attach new (on_switches.is_daemon forking) switch).switch t in
      head_stands objects (GoesOn (outcome.Ok value.Unit)) new (to_head (GoesOn (outcome.Ok value.Unit)) g u) tt (head_stands objects (GoesOn (outcome.Ok value.Unit)) g u tt k)

  fork_kept : (forking : Forking) (n : ℕ) (block : Block) (g : ℕ) (l : DomainState) → IsPlainForking objects forking → IsPlainBlock objects block → Stands objects l → Kept (on_switches.fork forking n block g l)
  fork_kept forking n block g l promise plain h =
      if_kept (switches.refuses_forks l.contexts (switches.switch_at l.switches n)) _ _ (answers_kept (outcome.Ok value.Unit) g l h)
      (if_kept (is_full_by 1 l.fibers) _ _ h (makes_kept forking n block g l promise plain h))

  fail_kept : (n : ℕ) (text : TextId) (g : ℕ) (l : DomainState) → Stands objects l → Kept (on_switches.fail n text g l)
  fail_kept n text g l h =
      if_kept (switches.switch_at l.switches n).finished _ _ (answers_kept _ g (counted l) h)
      (answers_kept _ g (on_switches.fails g n (One (steps.member (Failure text) l)) (counted l)) (fails_stands objects g n (One (steps.member (Failure text) l)) (counted l) h))

  release_kept : (call : Ask) (n : ℕ) (block : Block) (g : ℕ) (l : DomainState) → CallIs objects call → Stands objects l → Kept (on_switches.release call n block g l)
  release_kept call n block g l plain h = by (switches.on_release (record { block = number_of block; values = (fiber_at l.fibers g).variables }) (switches.switch_at l.switches n))
    where
      by : (found : Option Switch) → Kept (elim found as (λ _. Step) [
        | Some switch ↦ steps.does (did.OnRelease n) g (on_switches.with_switch_at n switch l)
        | None ↦ steps.in_new (on_contexts.protected_of l g) g l (λ c m. on_contexts.enters_context (did.OnRelease n) said.Handler c (on_contexts.before_block call c g m) g m)
      ])
      by None =
          in_new_kept (on_contexts.protected_of l g).number (on_contexts.protected_of l g).contexts g l (λ c m. on_contexts.enters_context (did.OnRelease n) said.Handler c (on_contexts.before_block call c g m) g m) h
          (λ c m k. enters_kept (did.OnRelease n) said.Handler c (on_contexts.before_block call c g m) g m (before_is call c g m plain k) k)
      by (Some switch) = answers_kept (outcome.Ok value.Unit) g (on_switches.with_switch_at n switch l) h

  -- ## Closing

  closed_kept : (script : Script) → BlocksAre script → (call : Ask) (n c : ℕ) (kept : Value) (step : CloseStep) (g : ℕ) (l : DomainState) → CallIs objects call → Stands objects l
      → Kept (on_switches.closed_by script call n c kept step g l)
  closed_kept script blocks call n c kept switches.Wait g l plain h = parked_stands objects (ForOthers (again call)) g l (again_is objects call plain) h
  closed_kept script blocks call n c kept switches.CancelDaemons g l plain h =
      parked_stands objects (ForOthers (again call)) g (steps.cancels g c Exit l) (again_is objects call plain) (cancels_stands objects g c Exit l h)
  closed_kept script blocks call n c kept (switches.RunHandler handler) g l plain h =
      in_new_kept (on_contexts.protected_of l g).number (on_contexts.protected_of l g).contexts g l (λ c m. (
      let fiber : Fiber = fiber_at m.fibers g in
      on_contexts.enters_context (did.Close n) said.Handler c (handled call c (block_numbered script handler.block) handler.values fiber.work fiber.variables) g m)) h
      (λ c m k. enters_kept (did.Close n) said.Handler c (handled call c (block_numbered script handler.block) handler.values (fiber_at m.fibers g).work (fiber_at m.fibers g).variables) g m
      (handled_is objects call c (block_numbered script handler.block) handler.values (fiber_at m.fibers g).work (fiber_at m.fibers g).variables (blocks handler.block) (fiber_is objects g m k).1) k)
  closed_kept script blocks call n c kept switches.Return g l plain h = answers_kept (outcome.Ok kept) g (on_contexts.leaves c g l) (leaves_stands objects c g l h)
  closed_kept script blocks call n c kept (switches.Raise errors) g l plain h = answers_kept (outcome.Err errors) g (on_contexts.leaves c g l) (leaves_stands objects c g l h)

  fails_with_stands : (maker n : ℕ) (came : Option Raised) (l : DomainState) → Stands objects l → Stands objects (on_switches.fails_with maker n came l)
  fails_with_stands maker n None l h = h
  fails_with_stands maker n (Some what) l h = fails_stands objects maker n what l h

  close_kept : (script : Script) → BlocksAre script → (n : ℕ) (came : Option Raised) (kept : Value) (g : ℕ) (l : DomainState) → Stands objects l
      → Kept (on_switches.close script (ask.Close n came kept) n came kept g l)
  close_kept script blocks n came kept g l h =
      let t : DomainState = on_switches.fails_with g n came l in
      let closed : Closed = switches.close_step g (switches.switch_at t.switches n) in
      if_kept (switches.runs_handler (switches.switch_at l.switches n) && contexts.is_full l.contexts) _ _ h
      (closed_kept script blocks (ask.Close n came kept) n closed.switch.context kept closed.step g (on_switches.with_switch_at n closed.switch t) tt (fails_with_stands g n came l h))

  -- ## Groups

  branched_stands : (c n : ℕ) (variables : List Value) (blocks : List Block) (l : DomainState) → ArePlain objects blocks → Stands objects l → Stands objects (on_groups.branched c n variables blocks l)
  unfolding on_groups.branched
  branched_stands c n variables [] l plain h = h
  branched_stands c n variables (block ∷ blocks) l plain h =
      branched_stands c n variables blocks (made c (OfGroup n) (begun block variables) l) plain.1 (made_stands objects c (OfGroup n) (begun block variables) l tt (items_are objects block plain.0, tt) h)

  branches_kept : (kind : syntax.Group) (blocks : List Block) (g : ℕ) (l : DomainState) → ArePlain objects blocks → Stands objects l → Kept (on_groups.branches (ask.Branches kind blocks) kind blocks g l)
  branches_kept kind blocks g l plain h =
      if_off_kept (off_for l g) _ _ (λ why. answers_kept _ g (counted l) h)
      (if_kept (is_full_by (length blocks - 1) l.fibers) _ _ h
      (in_new_kept (on_contexts.sub_of l g).number (on_contexts.sub_of l g).contexts g l (λ c m. on_groups.branches_in (ask.Branches kind blocks) kind blocks c g m) h
      (λ c m k.
      let u : DomainState = record m { groups = m.groups ++ groups.gathered (on_groups.kind_of kind) c (length blocks) ∷ [] } in
      let t : DomainState = on_groups.branched c (length m.groups) (fiber_at m.fibers g).variables (other_branches blocks) u in
      let made_all : Stands objects t = branched_stands c (length m.groups) (fiber_at m.fibers g).variables (other_branches blocks) u (others_plain objects blocks plain) k in
      enters_kept (on_groups.did_branch kind c) (on_groups.first_of m.number (length m.fibers) (length (other_branches blocks))) c (on_contexts.before_block (ask.Branches kind blocks) (length m.groups) g t) g t
      (before_is (ask.Branches kind blocks) (length m.groups) g t plain made_all) made_all)))

  own_ended_stands : (n : ℕ) (own : Option Outcome) (g : ℕ) (l : DomainState) → Stands objects l → Stands objects (on_groups.own_ended n own g l)
  own_ended_stands n None g l h = h
  own_ended_stands n (Some result) g l h = branch_ended_stands objects n result g l h

  joined_kept : (call : Ask) (c : ℕ) (step : groups.JoinStep) (g : ℕ) (l : DomainState) → CallIs objects call → Stands objects l → Kept (on_groups.joined_by call c step g l)
  joined_kept call c groups.Wait g l plain h = parked_stands objects (ForOthers (again call)) g l (again_is objects call plain) h
  joined_kept call c (groups.Give it) g l plain h = answers_kept (outcome.Ok it) g (on_contexts.leaves c g l) (leaves_stands objects c g l h)
  joined_kept call c (groups.Raise raised) g l plain h = answers_kept (outcome.Err raised) g (on_contexts.leaves c g l) (leaves_stands objects c g l h)

  joins_kept : (n : ℕ) (own : Option Outcome) (g : ℕ) (l : DomainState) → Stands objects l → Kept (on_groups.joins (ask.Join n own) n own g l)
  joins_kept n own g l h =
      let t : DomainState = on_groups.own_ended n own g l in
      let joined : groups.Joined = groups.join g (groups.group_at t.groups n) in
      joined_kept (ask.Join n own) joined.group.context joined.step g (record t { groups = groups.with_group n joined.group t.groups }) tt (own_ended_stands n own g l h)

  -- ## A fiber's own call

  pub own_call_kept : (script : Script) → BlocksAre script → (call : Ask) (g : ℕ) (l : DomainState) → CallIs objects call → Stands objects l → Kept (own_call script call g l)
  unfolding own_call
  own_call_kept script blocks (ask.Trace values) g l plain h = answers_kept (outcome.Ok value.Unit) g l h
  own_call_kept script blocks ask.Yield g l plain h = back_stands objects LooksUp g l tt h
  own_call_kept script blocks ask.Check g l plain h = check_kept g l h
  own_call_kept script blocks ask.AwaitCancel g l plain h =
      if_off_kept (off_for l g) _ _ (λ why. back_stands objects FindsOff g l tt h) (parked_stands objects ForCancel g l tt h)
  own_call_kept script blocks ask.Turn g l plain h = answers_kept (outcome.Ok value.Unit) g l h
  own_call_kept script blocks (ask.Sub block) g l plain h = subs_kept (ask.Sub block) g l plain h
  own_call_kept script blocks (ask.Protect block) g l plain h = protects_kept (ask.Protect block) g l plain h
  own_call_kept script blocks (ask.Cancel context text) g l plain h = cancel_kept context text g l h
  own_call_kept script blocks (ask.Switch block) g l plain h = switch_kept (ask.Switch block) g l plain h
  own_call_kept script blocks (ask.Fork forking n block) g l plain h = fork_kept forking n block g l plain.0 plain.1 h
  own_call_kept script blocks (ask.Fail n text) g l plain h = fail_kept n text g l h
  own_call_kept script blocks (ask.OnRelease n block) g l plain h = release_kept (ask.OnRelease n block) n block g l plain h
  own_call_kept script blocks (ask.Branches kind branches) g l plain h = branches_kept kind branches g l plain h
  own_call_kept script blocks (ask.Sleep time) g l plain h = absurd plain
  own_call_kept script blocks ask.Now g l plain h = absurd plain
  own_call_kept script blocks (ask.Leave context late it) g l plain h = leave_kept context late it g l h
  own_call_kept script blocks (ask.Close n came kept) g l plain h = close_kept script blocks n came kept g l h
  own_call_kept script blocks (ask.Join n own) g l plain h = joins_kept n own g l h
  own_call_kept script blocks (ask.End it) g l plain h = ends_stands objects it g l h
  own_call_kept script blocks call g l plain h = h
