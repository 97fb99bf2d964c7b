use Rattle.std.proofs.Common.{inl, inr, subst, arith}
use Rattle.std.proofs.lemmas.Result.{err_from_is_err_and}
use Rattle.trace_lines.specs.declared.line.Line.{Line}
use Rattle.trace_out.proofs.Appended.{front_none}
use Rattle.domain_core.specs.declared.turn.Turned.{Turned}
use Rattle.domain_core.specs.declared.turn.Turn.TheVariants as turn
use Rattle.domain_core.specs.Turns.{Turns, line_told, turned_to}
use Rattle.mock_backend.specs.Objects.{Calls, Strikes, Asks, Receives, Learns}
use Rattle.mock_backend.specs.Turning.{IsMoved}
use Rattle.mock_backend.proofs.Answered.{front_of_trace}
use Rattle.mock_backend.proofs.Whole.{cause_behind, whole_ending, whole_raised, whole_stuck, whole_written}
use Rattle.mock_backend.proofs.Running.{IsWhole, cause_before, grown_has, part_front, part_front_moves, part_moves, part_opens, turn_can_trace, turn_moves, whole_budget, whole_halted, whole_idle, whole_spent, writes_failed}
use Rattle.mock_backend.proofs.run.run_domain.Goals as goal
use Rattle.mock_backend.proofs.run.run_domain.Given.{Over}
use Rattle.mock_backend.proofs.run.run_domain.Goals.{In-Moved, In-Idle}

pub running-init : goal.running-init
running-init g c = record {
  part = part_opens _ _ _ _ _ _ c.in_ok-out.ensures c.requires.texts c.requires.starts;
  fits = c.requires.objects _ c.requires.starts.number c.requires.starts.mocked;
  own = c.requires.own;
  later = omega arith;
}

pub returns-in_err-stamp-clause-text : goal.returns-in_err-stamp-clause-text
returns-in_err-stamp-clause-text g c =
    writes_failed _ _ _ _ c.from_residual-in_err-stamp.ensures.0 (front_of_trace _ _ _ _ (part_front _ _ _ _ _ _ _ _ c.running.invariant.part))

-- the line of what the turn told
abbrev line_of : (g : Over) (c : In-Moved g) → Line
line_of g c = line_told c.in-Moved.stamp c.turn_told.new.self.number c.turn_told.new.told

-- what the turn did, where it made a line
made_line : (g : Over) (c : In-Moved g) → Turns Calls Strikes Receives Asks Learns c.args.script.now (turn.Moved (line_of g c)) c.running.texts c.turn_told.new.texts c.running.domain c.turn_told.new.self c.running.objects c.turn_told.new.objects
made_line g c =
    subst (λ (it : Turned). Turns Calls Strikes Receives Asks Learns c.args.script.now (turned_to c.turn_told.new.self.number c.turn_told.new.told it) c.running.texts c.turn_told.new.texts c.running.domain c.turn_told.new.self c.running.objects c.turn_told.new.objects) c.in-Moved.is
    c.in_ok-stamp.ensures.turns

moved_on : (g : Over) (c : In-Moved g) → IsMoved c.args.script.now c.running.invariant.part.state (line_of g c) c.turn_told.new.texts c.turn_told.new.self
moved_on g c =
    turn_moves c.args.script.now (line_of g c) c.running.texts c.turn_told.new.texts c.running.domain c.turn_told.new.self c.running.objects c.turn_told.new.objects (made_line g c).5
    c.running.invariant.part.state c.running.invariant.part.stands

pub write_told-requires-clause-told : goal.write_told-requires-clause-told
write_told-requires-clause-told g c =
    let it = (goal.at.write_told-requires-clause-told g c).In-Moved in
    turn_can_trace c.args.script.now (line_of g it) c.running.texts c.turn_told.new.texts c.running.domain c.turn_told.new.self c.running.objects c.turn_told.new.objects (made_line g it).5
    c.requires.runnable _ c.names-names.ensures.names c.running.invariant.part.state.local c.running.invariant.part.stands

pub returns-in_err-write_told-in-Moved-clause-text : goal.returns-in_err-write_told-in-Moved-clause-text
returns-in_err-write_told-in-Moved-clause-text g c =
    let it = (goal.at.returns-in_err-write_told-in-Moved-clause-text g c).In-Moved in
    writes_failed _ _ _ _ c.from_residual-in_err-write_told-in-Moved.ensures.0
    (front_of_trace _ _ _ _ (part_front_moves _ _ _ _ _ _ _ _ _ _ _ c.running.invariant.part (omega arith) _ (moved_on g it) _ c.names-names.ensures.names c.in_err-write_told-in-Moved.ensures.err))

pub returns-in_err-write_told-in-Moved-clause-cause : goal.returns-in_err-write_told-in-Moved-clause-cause
returns-in_err-write_told-in-Moved-clause-cause g c =
    let p = err_from_is_err_and c.from_residual-in_err-write_told-in-Moved.result c.from_residual-in_err-write_told-in-Moved.ensures.1 in
    cause_before _ _ _ _ p.0 _ p.1 p.2 c.running.invariant.later c.in_err-write_told-in-Moved.ensures.cause

-- the run is over where a turn made no line
still : (g : Over) (c : In-Idle g) → IsWhole c.args.script.now c.args.steps (g.K.Sink.held c.args.sink.now) (g.K.Sink.held c.running.sink) c.running.out c.turn_told.new.texts c.turn_told.new.self
still g c =
    let part = c.running.invariant.part in
    let turned = λ (it : Turned). Turns Calls Strikes Receives Asks Learns c.args.script.now (turned_to c.turn_told.new.self.number c.turn_told.new.told it) c.running.texts c.turn_told.new.texts c.running.domain c.turn_told.new.self c.running.objects c.turn_told.new.objects in
    elim c.in-Idle.is [
      | inl is ↦ whole_idle _ _ _ _ _ _ _ _ _ _ _ _ part (subst turned is c.in_ok-stamp.ensures.turns)
      | inr (inl is) ↦ whole_budget _ _ _ _ _ _ _ _ _ _ _ _ part (omega arith) (subst turned is c.in_ok-stamp.ensures.turns)
      | inr (inr is) ↦ whole_halted _ _ _ _ _ _ _ _ _ _ _ _ part (subst turned is c.in_ok-stamp.ensures.turns)
    ]

pub end_run-requires : goal.end_run-requires
end_run-requires g c =
    let whole = still g (goal.at.end_run-requires g c).In-Idle in
    record { come = record { script = c.args.script.now; runnable = c.requires.runnable; stands = (whole.state.local, whole.stands) } }

pub returns-in-Idle : goal.returns-in-Idle
returns-in-Idle g c =
    let whole = still g (goal.at.returns-in-Idle g c).In-Idle in
    record {
      ending = whole_ending _ _ _ _ _ _ _ whole _ c.end_run.ensures.ending;
      text = whole_written _ _ _ _ _ _ _ whole _ _ c.end_run.ensures.text;
      raised = whole_raised _ _ _ _ _ _ _ whole _ c.end_run.ensures.ending;
      deadlock = whole_stuck _ _ _ _ _ _ _ whole _ c.end_run.ensures.ending;
      cause = cause_behind _ _ _ _ c.running.invariant.later c.end_run.ensures.cause;
    }

pub running-preserved : goal.running-preserved
running-preserved g c =
    let it = (goal.at.running-preserved g c).In-Moved in
    record {
      part =
          part_moves _ _ _ _ _ _ _ _ _ _ _ c.running.invariant.part (omega arith) _ (moved_on g it) _ _ c.names-names.ensures.names c.in_ok-write_told-in-Moved.ensures.ok
          (made_line g it).1 (made_line g it).2;
      fits = c.in_ok-stamp.ensures.objects;
      own = grown_has _ _ _ (made_line g it).4 c.running.invariant.own;
      later = omega (arith, c.running.invariant.later, c.in_ok-write_told-in-Moved.ensures.cause.later);
    }

pub end_run-requires-2 : goal.end_run-requires-2
end_run-requires-2 g c =
    let part = c.running.invariant.part in
    record { come = record { script = c.args.script.now; runnable = c.requires.runnable; stands = (part.state.local, part.stands) } }

pub returns : goal.returns
returns g c =
    let whole = whole_spent _ _ _ _ _ _ _ _ c.running.invariant.part (omega arith) in
    record {
      ending = whole_ending _ _ _ _ _ _ _ whole _ c.end_run-2.ensures.ending;
      text = whole_written _ _ _ _ _ _ _ whole _ _ c.end_run-2.ensures.text;
      raised = whole_raised _ _ _ _ _ _ _ whole _ c.end_run-2.ensures.ending;
      deadlock = whole_stuck _ _ _ _ _ _ _ whole _ c.end_run-2.ensures.ending;
      cause = cause_behind _ _ _ _ c.running.invariant.later c.end_run-2.ensures.cause;
    }

pub returns-in_err-out-clause-text : goal.returns-in_err-out-clause-text
returns-in_err-out-clause-text g c = writes_failed _ _ _ _ c.from_residual.ensures.0 (front_none _ _)
