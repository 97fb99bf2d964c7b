use Rattle.std.proofs.Common.{◌≡◌, ◌++◌, length, map}
use Rattle.std.specs.Prelude.{reverse}
use Rattle.path_cap.proofs.Parts.{asking}
use Rattle.path_cap.proofs.components.Components.put_before.Given as goal

abbrev pub invariant-loop-part : goal.invariant-loop-part
invariant-loop-part l =
    asking (map (λ part. part.now) l.parts.items) ++ reverse l.self-inside.names.items ≡ asking (map (λ part. part.now) l.initial.parts.items) ++ reverse l.initial.self-inside.names.items

abbrev pub decreases-loop-part : goal.decreases-loop-part
decreases-loop-part l = length l.parts.items
