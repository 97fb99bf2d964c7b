use Rattle.cancel_tree.specs.KeptContext.{contexts_in}
use Rattle.cancel_tree.proofs.Trees.{UpGoesOn, height}
use Rattle.cancel_tree.proofs.tree.Tree.goes_up_to.Given as goal

abbrev pub invariant-way : goal.invariant-way
invariant-way l = UpGoesOn (contexts_in l.self-inside.made l.self-inside.kept l.self-inside.places.items) l.self-inside.places.items l.x l.c l.next

abbrev pub decreases-way : goal.decreases-way
decreases-way l = height l.next
