use Rattle.std.proofs.Common.{◌≡◌, length}
use Rattle.spec_script.specs.Declarations.{declarations_behind, nothing_declared}
use Rattle.script_draft.specs.Ahead.{ahead, IsWithin}
use Rattle.script_declarations.specs.DeclarationsRead.{declared_of, before_main, from_main}
use Rattle.script_draft.specs.Drafts.{made_of}
use Rattle.script_declarations.proofs.declarations.declarations.Given as goal

abbrev pub invariant-loop-limits : goal.invariant-loop-limits
invariant-loop-limits l = record {
  within : IsWithin l.initial.cursor l.cursor;
  main : from_main (ahead l.cursor) ≡ from_main (ahead l.initial.cursor);
  nodes : l.draft.nodes ≡ l.initial.draft.nodes;
  rest : declarations_behind l.limits l.bodies nothing_declared (before_main (ahead l.initial.cursor)) (made_of l.initial.draft) ≡ declarations_behind l.limits l.bodies (declared_of l.declared) (before_main (ahead l.cursor)) (made_of l.draft);
}

abbrev pub decreases-loop-limits : goal.decreases-loop-limits
decreases-loop-limits l = length l.cursor
