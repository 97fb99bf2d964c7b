use Rattle.std.proofs.Common.{true, ap, sym, ◌∙◌}
use Rattle.path_cap.specs.Leading.{leads_of}
use Rattle.path_cap.proofs.Ways.{opened_here}
use Rattle.path_cap.proofs.tree.DirTree.open_dir.Goals as goal

pub returns-in-ToDirectory-clause-below : goal.returns-in-ToDirectory-clause-below
returns-in-ToDirectory-clause-below c =
    let tree = c.args.self.now in
    opened_here tree c.args.cap.0 c.args.path.now true c.in-ToDirectory.place c.here.result (ap (leads_of tree) (sym c.in-ToDirectory.is) ∙ c.in_ok-place.ensures) c.here.ensures
