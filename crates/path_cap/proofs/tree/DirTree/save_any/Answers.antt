use Rattle.std.proofs.Common.{◌≡◌, Ok, rules}
use Rattle.spec_parts.specs.PathCalls.{save}
use Rattle.path_cap.specs.Changes.{Save}
use Rattle.path_cap.proofs.Keeping.{answered_keeps}
use Rattle.path_cap.proofs.tree.DirTree.save_any.Goals as goal

pub returns-in-ToFile-clause-outside : goal.returns-in-ToFile-clause-outside
returns-in-ToFile-clause-outside c =
    let is : save c.args.self.now c.args.cap.0 c.args.path.now c.args.content.now ≡ Ok c.put.new.self = search rules in
    answered_keeps c.args.self.now c.put.new.self c.args.cap.0 (Save c.args.path.now c.args.content.now) is
