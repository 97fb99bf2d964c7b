-- What a move keeps that goes on by an answer from outside, a message or an obligation.
use Rattle.std.proofs.Common.{ℕ, ◌<◌, ◌==◌, Bool, true, false, List, [], ◌∷◌, length, Option, Some, None, ap}
use Rattle.std.specs.Prelude.{pos, negsuc, unwrap_or, take, filter, not}
use Rattle.std.proofs.lemmas.List.Elements.{All-append}
use Rattle.eio_value.specs.declared.call.Answer.{Answer}
use Rattle.eio_value.specs.declared.call.Answer.TheVariants as answer
use Rattle.eio_value.specs.declared.message.Job.{Job}
use Rattle.eio_value.specs.declared.message.Message.{Message}
use Rattle.eio_value.specs.declared.message.Message.TheVariants as message
use Rattle.eio_value.specs.declared.plain.Plain.TheVariants.{Exit}
use Rattle.eio_value.specs.declared.raised.Outcome.{Outcome}
use Rattle.eio_value.specs.declared.raised.Outcome.TheVariants as outcome
use Rattle.eio_value.specs.declared.raised.Raised.{Raised}
use Rattle.eio_value.specs.declared.raised.Raised.TheVariants.{Cancelled}
use Rattle.eio_value.specs.declared.value.Value.{Value}
use Rattle.eio_value.specs.declared.value.Value.TheVariants as value
use Rattle.spec_parts.specs.Contexts.{Context, root}
use Rattle.spec_parts.specs.Timers.{Timer, remove}
use Rattle.spec_script.specs.Scripts.{Script}
use Rattle.spec_script.specs.Syntax as syntax
use Rattle.spec_fiber.specs.Asks as ask
use Rattle.spec_fiber.specs.Asks.{Ask, passing}
use Rattle.spec_fiber.specs.Numbered.{block_numbered}
use Rattle.spec_fiber.specs.Replies.{begun}
use Rattle.trace_lines.specs.declared.line.Did.{Did}
use Rattle.trace_lines.specs.declared.line.Said2.{Said2}
use Rattle.trace_lines.specs.declared.line.Said2.TheVariants as said
use Rattle.spec_machine.specs.Domain.{Role, OfJob, GoesOn, FindsOff, OnObject, Asleep, ForCancel, Standing, Parked, Owed, Strike, Wake, Start, Duty, DomainState, fiber_at, off_for, made}
use Rattle.spec_machine.specs.Steps.{counted, member}
use Rattle.spec_machine.specs.Shared.{Asked}
use Rattle.spec_machine.specs.EndMoves as on_ends
use Rattle.spec_machine.specs.ObjectMoves as on_objects
use Rattle.spec_machine.specs.DutyMoves as on_duties
use Rattle.law_run.proofs.Standings.{all_single}
use Rattle.law_history.proofs.Both.Settling.{CallIs, items_are}
use Rattle.law_history.proofs.Both.Standings.{OwedIs, DutyIs, RoleIs, Stands, back_stands, parked_stands, made_stands, ends_stands}
use Rattle.law_history.proofs.Both.Moving.{BlocksAre, Kept, answers_kept}
use Rattle.law_history.proofs.Both.Rows.{MineIs}

-- of so many objects
module _ (objects : ℕ) where
  -- ## Obligations

  owes_stands : (maker : ℕ) (it : Owed) (l : DomainState) → OwedIs objects it → Stands objects l → Stands objects (on_objects.owes maker it l)
  owes_stands maker it l is h = (All-append (DutyIs objects) l.duties (record { maker = maker; owed = it } ∷ []) h.0 (all_single (DutyIs objects) (record { maker = maker; owed = it }) is), h.1, h.2)

  if_resolved_stands : (maker promise : ℕ) (it : Value) (l : DomainState) → promise < objects → Stands objects l → Stands objects (on_objects.owes_if_resolved maker promise it l)
  if_resolved_stands maker promise (value.Int (pos n)) l below h = by (n == 1)
    where
      by : (b : Bool) → Stands objects (elim b [ true ↦ on_objects.owes maker (Wake promise false) l | false ↦ l ])
      by true = owes_stands maker (Wake promise false) l below h
      by false = h
  if_resolved_stands maker promise (value.Int (negsuc n)) l below h = h
  if_resolved_stands maker promise it l below h = h

  end_owes_stands : (role : Role) (result : Outcome) (it : Value) (maker : ℕ) (l : DomainState) → RoleIs objects role → Stands objects l → Stands objects (on_objects.owing (ask.End result) role it maker l)
  end_owes_stands (OfJob executor number) result it maker l below h = owes_stands maker (Start executor) l below h
  end_owes_stands role result it maker l below h = h

  owing_stands : (call : Ask) (role : Role) (it : Value) (maker : ℕ) (l : DomainState) → CallIs objects call → RoleIs objects role → Stands objects l → Stands objects (on_objects.owing call role it maker l)
  owing_stands (ask.OnObjectWith syntax.Resolve promise operand) role it maker l plain below h = owes_stands maker (Wake promise false) l plain h
  owing_stands (ask.OnObjectWith syntax.TryResolve promise operand) role it maker l plain below h = if_resolved_stands maker promise it l plain h
  owing_stands (ask.ResolveEnd promise result) role it maker l plain below h = owes_stands maker (Wake promise false) l plain h
  owing_stands (ask.PoisonEnd mutex raised) role it maker l plain below h = owes_stands maker (Wake mutex true) l plain h
  owing_stands (ask.End result) role it maker l plain below h = end_owes_stands role result it maker l below h
  owing_stands call role it maker l plain below h = h

  owing_wait_stands : (call : Ask) (maker : ℕ) (l : DomainState) → CallIs objects call → Stands objects l → Stands objects (on_objects.owing_wait call maker l)
  owing_wait_stands (ask.Submit executor weight given block) maker l plain h = owes_stands maker (Start executor) l plain h
  owing_wait_stands call maker l plain h = h

  -- ## Answers of objects

  answered_with_kept : (call : Ask) (it : Did) (reply : Said2) (given : Value) (g : ℕ) (l : DomainState) → Stands objects l → Kept objects (on_objects.answered_with call it reply given g l)
  answered_with_kept (ask.End result) it reply given g l h = ends_stands objects result g l h
  answered_with_kept call it reply given g l h = answers_kept objects (on_objects.goes_on_with (passing call) given) g l h

  nothing_done_kept : (call : Ask) (it : Did) (g : ℕ) (l : DomainState) → Stands objects l → Kept objects (on_objects.nothing_done call it g l)
  nothing_done_kept (ask.Submit executor weight given block) it g l h = h
  nothing_done_kept call it g l h = answered_with_kept call it said.Nothing value.Unit g l h

  raised_kept : (call : Ask) (it : Did) (raised : Raised) (g : ℕ) (l : DomainState) → Stands objects l → Kept objects (on_objects.raised_for call it raised g l)
  raised_kept (ask.OnObject syntax.Await object) it raised g l h = answers_kept objects (outcome.Err raised) g l h
  raised_kept call it raised g l h = answers_kept objects (outcome.Err raised) g (counted l) h

  pub answered_kept : (call : Ask) (role : Role) (it : Did) (asked : Asked) (given : Answer) (g : ℕ) (l : DomainState) → CallIs objects call → RoleIs objects role → Stands objects l
      → Kept objects (on_objects.answered_by call role it asked given g l)
  answered_kept call role it asked (answer.Done given) g l plain below h = answered_with_kept call it (said.Done given) given g (on_objects.owing call role given g l) (owing_stands call role given g l plain below h)
  answered_kept call role it asked answer.Waits g l plain below h = parked_stands objects (OnObject asked.who) g (on_objects.owing_wait call g l) tt (owing_wait_stands call g l plain h)
  answered_kept call role it asked answer.Off g l plain below h = back_stands objects FindsOff g l tt h
  answered_kept call role it asked answer.Nothing g l plain below h = nothing_done_kept call it g l h
  answered_kept call role it asked (answer.Raised raised) g l plain below h = raised_kept call it raised g l h
  answered_kept call role it asked (answer.Woke who) g l plain below h = answers_kept objects (outcome.Ok value.Unit) g l h
  answered_kept call role it asked (answer.Started domain number) g l plain below h = answers_kept objects (outcome.Ok value.Unit) g l h

  -- ## Messages

  begun_stands : (script : Script) → BlocksAre objects script → (job : Job) (number : ℕ) (c : Option ℕ) (all : List Context) (l : DomainState) → job.executor < objects → Stands objects l
      → Stands objects (elim c [ None ↦ l | Some c ↦ on_ends.job_made script job number c (record l { contexts = all }) ])
  begun_stands script blocks job number None all l below h = h
  begun_stands script blocks job number (Some c) all l below h =
      let m : DomainState = record l { contexts = all } in
      let t : DomainState = made c (OfJob job.executor number) (begun (block_numbered script job.node) (take job.count job.given)) m in
      back_stands objects (GoesOn (outcome.Ok value.Unit)) (length m.fibers) t tt
      (made_stands objects c (OfJob job.executor number) (begun (block_numbered script job.node) (take job.count job.given)) m below (items_are objects (block_numbered script job.node) (blocks job.node), tt) h)

  pub received_stands : (script : Script) → BlocksAre objects script → (mine : Option Message) (l : DomainState) → MineIs objects mine → Stands objects l → Stands objects (on_ends.received_if script mine l)
  received_stands script blocks None l is h = h
  received_stands script blocks (Some (message.Resume who result stamp)) l is h = back_stands objects (GoesOn result) who.fiber l tt h
  received_stands script blocks (Some (message.Start job number stamp)) l is h = begun_stands script blocks job number (root l.contexts).number (root l.contexts).contexts l is h

  -- ## Strikes

  strike_kept : (duty : Duty) (g : ℕ) (won : Bool) (l : DomainState) → Stands objects l → Kept objects (on_duties.strike_told duty g won l)
  strike_kept duty g true l h = back_stands objects (GoesOn (outcome.Err (Cancelled (member (unwrap_or (off_for l g) Exit) l)))) g (counted l) tt h
  strike_kept duty g false l h = h

  own_strike_kept : (duty : Duty) (g : ℕ) (standing : Standing) (l : DomainState) → Stands objects l → Kept objects (on_duties.own_strike duty g standing l)
  own_strike_kept duty g (Parked Asleep) l h =
      strike_kept duty g true (record l { timers = remove g l.timers }) (h.0, h.1, ap (λ (standing : List Timer). filter (λ timer. not (timer.fiber == g)) standing) h.2)
  own_strike_kept duty g (Parked ForCancel) l h = strike_kept duty g true l h
  own_strike_kept duty g standing l h = strike_kept duty g false l h

  -- ## Obligations that are met

  pub own_duty_kept : (maker : ℕ) (owed : Owed) (l : DomainState) → Stands objects l → Kept objects (on_duties.own_duty (record { maker = maker; owed = owed }) l)
  own_duty_kept maker (Strike g) l h = own_strike_kept (record { maker = maker; owed = Strike g }) g (fiber_at l.fibers g).standing l h
  own_duty_kept maker (Wake object poisoned) l h = h
  own_duty_kept maker (Start executor) l h = h

  pub duty_struck_kept : (maker : ℕ) (owed : Owed) (won : Bool) (l : DomainState) → Stands objects l → Kept objects (on_duties.duty_struck (record { maker = maker; owed = owed }) won l)
  duty_struck_kept maker (Strike g) won l h = strike_kept (record { maker = maker; owed = Strike g }) g won l h
  duty_struck_kept maker (Wake object poisoned) won l h = h
  duty_struck_kept maker (Start executor) won l h = h

  stays_stands : (duty : Duty) (l : DomainState) → DutyIs objects duty → Stands objects l → Stands objects (on_duties.stays duty l)
  stays_stands duty l is h = (All-append (DutyIs objects) (duty ∷ []) l.duties (all_single (DutyIs objects) duty is) h.0, h.1, h.2)

  wake_kept : (maker object : ℕ) (poisoned : Bool) (given : Answer) (l : DomainState) → object < objects → Stands objects l
      → Kept objects (on_duties.wake_told (record { maker = maker; owed = Wake object poisoned }) object poisoned given l)
  wake_kept maker object true (answer.Woke who) l below h = stays_stands (record { maker = maker; owed = Wake object true }) (counted l) below h
  wake_kept maker object false (answer.Woke who) l below h = stays_stands (record { maker = maker; owed = Wake object false }) l below h
  wake_kept maker object poisoned given l below h = h

  start_kept : (maker executor : ℕ) (given : Answer) (l : DomainState) → executor < objects → Stands objects l
      → Kept objects (on_duties.start_told (record { maker = maker; owed = Start executor }) executor given l)
  start_kept maker executor (answer.Started domain number) l below h = stays_stands (record { maker = maker; owed = Start executor }) l below h
  start_kept maker executor given l below h = h

  pub duty_answered_kept : (maker : ℕ) (owed : Owed) (given : Answer) (l : DomainState) → OwedIs objects owed → Stands objects l → Kept objects (on_duties.duty_answered (record { maker = maker; owed = owed }) given l)
  duty_answered_kept maker (Strike g) given l is h = h
  duty_answered_kept maker (Wake object poisoned) given l is h = wake_kept maker object poisoned given l is h
  duty_answered_kept maker (Start executor) given l is h = start_kept maker executor given l is h
