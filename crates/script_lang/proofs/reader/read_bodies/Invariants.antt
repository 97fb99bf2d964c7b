use Rattle.std.proofs.Common.{◌≡◌, length, Some}
use Rattle.spec_script.specs.Declarations.{Declared}
use Rattle.spec_script.specs.Scripts.{parts_of, body_scope, first_place}
use Rattle.spec_script.specs.Trees.{Trees, Nil}
use Rattle.script_draft.specs.Ahead.{ahead}
use Rattle.script_lang.proofs.ScriptsRead.{IsAmidBodies}
use Rattle.script_lang.proofs.reader.read_bodies.Given as goal

abbrev pub invariant-loop-limits : goal.invariant-loop-limits
invariant-loop-limits l =
    (declared : Declared) → l.fn.scope ≡ body_scope declared → (main behind : Trees) → parts_of (ahead l.fn.cursor) ≡ Some (record { before = Nil; main = main; behind = behind }) → IsAmidBodies l.limits declared main behind l.fn.draft l.numbers.items (ahead l.cursor) l.draft × (l.first_domain ≡ first_place behind)

abbrev pub decreases-loop-limits : goal.decreases-loop-limits
decreases-loop-limits l = length l.cursor
