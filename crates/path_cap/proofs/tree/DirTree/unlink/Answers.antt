use Rattle.std.proofs.Common.{◌≡◌, Ok, rules}
use Rattle.spec_parts.specs.PathCalls.{unlink}
use Rattle.path_cap.specs.Changes.{Unlink}
use Rattle.path_cap.proofs.Keeping.{answered_keeps}
use Rattle.path_cap.proofs.tree.DirTree.unlink.Goals as goal

pub returns-in-ToFile-clause-outside : goal.returns-in-ToFile-clause-outside
returns-in-ToFile-clause-outside c =
    let is : unlink c.args.self.now c.args.cap.0 c.args.path.now ≡ Ok c.take_out.new.self = search rules in
    answered_keeps c.args.self.now c.take_out.new.self c.args.cap.0 (Unlink c.args.path.now) is
