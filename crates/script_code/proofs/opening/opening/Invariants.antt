use Rattle.std.proofs.Common.{◌≡◌, take}
use Rattle.std.specs.Prelude.{fold}
use Rattle.spec_script.specs.Opening.{textless, with_bound}
use Rattle.script_code.proofs.opening.opening.Given as goal

abbrev pub invariant-loop-what : goal.invariant-loop-what
invariant-loop-what l = l.table ≡ fold with_bound l.initial.table (take l.what-index textless)
