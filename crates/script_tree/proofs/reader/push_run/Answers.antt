use Rattle.script_tree.specs.Pieces.{piece_of}
use Rattle.script_tree.proofs.Trees.{run_grows}
use Rattle.script_tree.proofs.reader.push_run.Goals as goal

pub returns-clause-run : goal.returns-clause-run
returns-clause-run c =
    run_grows c.args.draft.now c.push.new.self c.args.at c.run_len-len.result c.args.bytes.now c.split_at.result.1.now c.split_at-2.result.0.now c.in_ok-run.run' (piece_of c.into_node.result) c.split_at.ensures.back c.run_len-len.ensures c.split_at-2.ensures.front c.in_ok-run.ensures.tree c.into_node.ensures c.in_ok-push.ensures
