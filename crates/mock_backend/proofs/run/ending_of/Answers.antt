use Rattle.std.proofs.Common.{None, Some, ap, sym, ◌∙◌}
use Rattle.mock_backend.proofs.Endings.{limit_is, out_is, sleeps, still_is}
use Rattle.mock_backend.proofs.run.ending_of.Goals as goal

pub returns-then-met_limit : goal.returns-then-met_limit
returns-then-met_limit c = λ script texts m stands. limit_is script m (sym (c.met_limit.ensures _ texts m.local stands.mirrors) ∙ c.if-met_limit.true)

pub returns-then-can_move : goal.returns-then-can_move
returns-then-can_move c = λ script texts m stands.
    out_is script m (sym (c.met_limit.ensures _ texts m.local stands.mirrors) ∙ c.if-met_limit.false)
    (sym (c.can_move.ensures _ texts m.local stands.mirrors (sleeps script texts _ m stands (sym (c.met_limit.ensures _ texts m.local stands.mirrors) ∙ c.if-met_limit.false))) ∙ c.if-can_move.true)

pub returns-in-None : goal.returns-in-None
returns-in-None c = λ script texts m stands.
    still_is script m None (sym (c.met_limit.ensures _ texts m.local stands.mirrors) ∙ c.if-met_limit.false)
    (sym (c.can_move.ensures _ texts m.local stands.mirrors (sleeps script texts _ m stands (sym (c.met_limit.ensures _ texts m.local stands.mirrors) ∙ c.if-met_limit.false))) ∙ c.if-can_move.false)
    (sym (c.in-None.ensures _ texts m.local stands.mirrors))

pub returns-in-Some-Ok : goal.returns-in-Some-Ok
returns-in-Some-Ok c = λ script texts m stands.
    still_is script m _ (sym (c.met_limit.ensures _ texts m.local stands.mirrors) ∙ c.if-met_limit.false)
    (sym (c.can_move.ensures _ texts m.local stands.mirrors (sleeps script texts _ m stands (sym (c.met_limit.ensures _ texts m.local stands.mirrors) ∙ c.if-met_limit.false))) ∙ c.if-can_move.false)
    (sym (c.in-Some-Ok.ensures _ texts m.local stands.mirrors) ∙ ap Some c.in-Some-Ok.field-0-is)

pub returns-in-Some-Err : goal.returns-in-Some-Err
returns-in-Some-Err c = λ script texts m stands.
    still_is script m _ (sym (c.met_limit.ensures _ texts m.local stands.mirrors) ∙ c.if-met_limit.false)
    (sym (c.can_move.ensures _ texts m.local stands.mirrors (sleeps script texts _ m stands (sym (c.met_limit.ensures _ texts m.local stands.mirrors) ∙ c.if-met_limit.false))) ∙ c.if-can_move.false)
    (sym (c.in-Some-Err.ensures _ texts m.local stands.mirrors) ∙ ap Some c.in-Some-Err.field-0-is)
