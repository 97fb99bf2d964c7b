use Rattle.std.proofs.Common.{ap, sym, ◌∙◌}
use Rattle.std.proofs.lemmas.Result.{on_ok_weaker}
use Rattle.spec_parts.specs.PathCalls.{directory_removed}
use Rattle.path_cap.specs.Changes.{Rmdir}
use Rattle.path_cap.specs.Leading.{leads_of}
use Rattle.path_cap.proofs.Keeping.{either_keeps}
use Rattle.path_cap.proofs.tree.DirTree.rmdir.Goals as goal

pub returns-in-ToDirectory-clause-outside : goal.returns-in-ToDirectory-clause-outside
returns-in-ToDirectory-clause-outside c =
    let tree = c.args.self.now in
    let led = ap (leads_of tree) (sym c.in-ToDirectory.is) ∙ c.in_ok-place.ensures in
    either_keeps tree c.remove_at.new.self c.args.cap.0 (Rmdir c.args.path.now) c.remove_at.result (on_ok_weaker c.remove_at.result (λ is. ap (directory_removed tree) (sym led) ∙ is) c.remove_at.ensures.ok) c.remove_at.ensures.err
