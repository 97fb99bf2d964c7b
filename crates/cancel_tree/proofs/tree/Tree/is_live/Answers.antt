use Rattle.std.proofs.Common.{sym}
use Rattle.cancel_tree.proofs.Trees.{live_is_placed}
use Rattle.cancel_tree.proofs.tree.Tree.is_live.Goals as goal

pub returns : goal.returns
returns c = rw (← c.self.view_is) (rw (c.is_some.ensures, c.place_of.ensures) (sym (live_is_placed c.self.inside.made c.self.inside.kept c.self.inside.places.items c.self.invariant.tree c.args.c)))
