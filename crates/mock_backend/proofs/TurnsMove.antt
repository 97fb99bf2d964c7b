-- Over the objects of a mocked domain a turn is the next move of the machine.
use Rattle.std.proofs.Common.{◌≡◌, ◌∙◌, sym, subst}
use Rattle.domain_core.specs.declared.turn.Turn.TheVariants.{Moved, Idle, Spent, Halted}
use Rattle.domain_core.specs.Keeping.{KeptDomain}
use Rattle.mock_backend.specs.Turning.{TurnsAreMoves}
use Rattle.mock_backend.proofs.Running.{turn_moves}
use Rattle.mock_backend.proofs.Runs.{idle_move_is, halted_move_is}

pub turns_are_moves : TurnsAreMoves
turns_are_moves script (Moved line) old_texts new_texts old new before behind turns m stands = turn_moves script line old_texts new_texts old new before behind turns.5 m stands
turns_are_moves script Idle old_texts new_texts old new before behind turns m stands = idle_move_is script m (stands.mirrors.halted ∙ turns.0.0) (turns.3 m.local stands).1
turns_are_moves script Spent old_texts new_texts old new before behind turns m stands = subst (λ (kept : KeptDomain). kept.lines ≡ kept.budget) (sym turns.2.1) turns.1
turns_are_moves script Halted old_texts new_texts old new before behind turns m stands = halted_move_is script m (stands.mirrors.halted ∙ turns.0)
