use Rattle.std.proofs.Common.{◌≡◌, Ok, rules}
use Rattle.spec_parts.specs.PathCalls.{mkdir}
use Rattle.path_cap.specs.Changes.{Mkdir}
use Rattle.path_cap.proofs.Keeping.{answered_keeps}
use Rattle.path_cap.proofs.tree.DirTree.mkdir.Goals as goal

pub returns-in-ToNothing-clause-outside : goal.returns-in-ToNothing-clause-outside
returns-in-ToNothing-clause-outside c =
    let is : mkdir c.args.self.now c.args.cap.0 c.args.path.now ≡ Ok c.put_directory.new.self = search rules in
    answered_keeps c.args.self.now c.put_directory.new.self c.args.cap.0 (Mkdir c.args.path.now) is
