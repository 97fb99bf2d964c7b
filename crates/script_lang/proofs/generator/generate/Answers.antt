use Rattle.script_lang.proofs.Generating.{no_fault}
use Rattle.script_lang.proofs.generator.generate.Goals as goal

pub no_memory-requires : goal.no_memory-requires
no_memory-requires c = no_fault _ _ c.args.forks c.in_ok-tree.ensures c.in-Err.ensures.fault
