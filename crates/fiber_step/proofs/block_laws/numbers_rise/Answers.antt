use Rattle.fiber_step.proofs.Numbering.Finding.{numbers_rise}
use Rattle.fiber_step.proofs.block_laws.numbers_rise.Goals as goal

pub returns : goal.returns
returns c = numbers_rise
