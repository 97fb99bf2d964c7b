use Rattle.std.proofs.Common.{◌≡◌, map, drop}
use Rattle.spec_script.specs.Scopes.{named_in}
use Rattle.script_draft.specs.Names.{named_of}
use Rattle.script_draft.proofs.scope.named_in.Given as goal

abbrev pub invariant-loop-it : goal.invariant-loop-it
invariant-loop-it l = named_in (map named_of (drop l.it-index l.names)) l.name ≡ named_in (map named_of l.names) l.name
