use Rattle.std.proofs.Common.{◌≡◌, Ok, rules}
use Rattle.spec_parts.specs.PathCalls.{save_new}
use Rattle.path_cap.specs.Changes.{SaveNew}
use Rattle.path_cap.proofs.Keeping.{answered_keeps}
use Rattle.path_cap.proofs.tree.DirTree.save_new.Goals as goal

pub returns-in-ToNothing-clause-outside : goal.returns-in-ToNothing-clause-outside
returns-in-ToNothing-clause-outside c =
    let is : save_new c.args.self.now c.args.cap.0 c.args.path.now c.args.content.now ≡ Ok c.put.new.self = search rules in
    answered_keeps c.args.self.now c.put.new.self c.args.cap.0 (SaveNew c.args.path.now c.args.content.now) is
