use Rattle.std.proofs.Common.{◌≡◌, ◌+◌, length}
use Rattle.spec_script.specs.Scripts.{domains_in}
use Rattle.script_draft.specs.Ahead.{ahead}
use Rattle.script_lang.proofs.reader.count_domains.Given as goal

abbrev pub invariant-loop-cursor : goal.invariant-loop-cursor
invariant-loop-cursor l = l.count + domains_in (ahead l.cursor) ≡ domains_in (ahead l.initial.cursor) + 1

abbrev pub decreases-loop-cursor : goal.decreases-loop-cursor
decreases-loop-cursor l = length l.cursor
