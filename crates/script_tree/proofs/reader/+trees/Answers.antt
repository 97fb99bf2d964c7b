use Rattle.std.proofs.Common.{◌<◌, ◌-◌, ap, sym, subst, arith, ◌∙◌}
use Rattle.std.proofs.lemmas.Result.{err_from_is_err_and}
use Rattle.spec_script.specs.Reading.{tree_at}
use Rattle.script_tree.specs.Views.{Gives}
use Rattle.script_tree.specs.Growing.{grown, grows}
use Rattle.script_tree.proofs.Lists.{list_begins, list_closes, list_goes_on, list_fails, list_unclosed, fault_given}
use Rattle.script_tree.proofs.Trees.{tree_ends, tree_deep, tree_opens, tree_strays, tree_quotes, tree_runs, tree_strange}
use Rattle.script_tree.proofs.reader.+trees.Goals as goal

pub push_list-loop-at-init : goal.push_list-loop-at-init
push_list-loop-at-init t c =
    let gap = c.after_gap-at.ensures in
    record {
      within = gap.within;
      behind = omega (arith, gap.behind);
      read = list_begins (tree_at c.args.lists) c.args.bytes.now c.args.paren c.after_gap-at.result c.args.draft.now c.push.new.self c.requires.within gap.behind c.in_ok-push.ensures gap.gap;
    }

pub push_list-returns-then-bytes-at-eq41-clause-list : goal.push_list-returns-then-bytes-at-eq41-clause-list
push_list-returns-then-bytes-at-eq41-clause-list t c =
    list_closes (tree_at c.args.lists) c.args.bytes.now c.args.paren c.loop-at.at c.loop-at.draft c.push-then-bytes-at-eq41.new.self _ c.loop-at.invariant.read c.loop-at-test.true c.if-bytes-at-eq41.true c.in_ok-push-2.ensures

pub push_list-returns-in_err-next-clause-list : goal.push_list-returns-in_err-next-clause-list
push_list-returns-in_err-next-clause-list t c =
    let failed = list_fails (tree_at c.args.lists) c.args.bytes.now c.args.paren c.loop-at.at c.loop-at.draft _ c.in_err-next.field-0.0 c.loop-at.invariant.read c.loop-at-test.true c.if-bytes-at-eq41.false c.in_err-next.ensures.tree in
    let p = err_from_is_err_and c.from_residual-in_err-next.result c.from_residual-in_err-next.ensures.1 in
    fault_given c.args.bytes.now c.push_tree.new.draft _ c.from_residual-in_err-next.result p.0 c.in_err-next.field-0.0 p.1 p.2 failed

pub push_list-loop-at-preserved : goal.push_list-loop-at-preserved
push_list-loop-at-preserved t c =
    let gap = c.after_gap-at-in-loop-at.ensures in
    let found = c.in_ok-next.ensures in
    let passed : c.loop-at.at < c.after_gap-at-in-loop-at.result = omega (arith, gap.behind, found.behind) in
    record {
      within = gap.within;
      behind = omega (arith, passed, c.loop-at.invariant.behind);
      read = list_goes_on (tree_at c.args.lists) c.args.bytes.now c.args.paren c.loop-at.at c.in_ok-next.next c.after_gap-at-in-loop-at.result c.loop-at.draft c.push_tree.new.draft _ c.loop-at.invariant.read c.loop-at-test.true c.if-bytes-at-eq41.false passed found.tree gap.gap;
    }

pub push_list-returns-clause-list : goal.push_list-returns-clause-list
push_list-returns-clause-list t c = list_unclosed (tree_at c.args.lists) c.args.bytes.now c.args.paren c.loop-at.at c.loop-at.draft _ c.loop-at.invariant.read (omega arith)

pub push_tree-returns-then-at-bytes-clause-tree : goal.push_tree-returns-then-at-bytes-clause-tree
push_tree-returns-then-at-bytes-clause-tree t c = ap (grows c.args.draft.now) (tree_ends c.args.lists c.args.at c.args.bytes.now (omega arith))

pub push_tree-returns-then-lists-eq0-clause-tree : goal.push_tree-returns-then-lists-eq0-clause-tree
push_tree-returns-then-lists-eq0-clause-tree t c = ap (grows c.args.draft.now) (tree_deep c.args.lists c.args.at c.args.bytes.now (omega arith) c.if-bytes-at-eq40.true c.if-lists-eq0.true)

pub push_tree-returns-then-bytes-at-eq40-clause-tree : goal.push_tree-returns-then-bytes-at-eq40-clause-tree
push_tree-returns-then-bytes-at-eq40-clause-tree t c =
    subst (Gives (grown c.args.bytes.now c.push_list.new.draft) c.push_list.result) (ap (grows c.args.draft.now) (sym (tree_opens c.args.lists (c.args.lists - 1) c.args.at c.args.bytes.now (omega arith) c.if-bytes-at-eq40.true (omega arith)))) c.push_list.ensures.list

pub push_tree-returns-then-bytes-at-eq41-clause-tree : goal.push_tree-returns-then-bytes-at-eq41-clause-tree
push_tree-returns-then-bytes-at-eq41-clause-tree t c = ap (grows c.args.draft.now) (tree_strays c.args.lists c.args.at c.args.bytes.now (omega arith) c.if-bytes-at-eq41.true)

pub push_tree-returns-then-bytes-at-eq34-clause-tree : goal.push_tree-returns-then-bytes-at-eq34-clause-tree
push_tree-returns-then-bytes-at-eq34-clause-tree t c =
    subst (Gives (grown c.args.bytes.now c.push_text.new.draft) c.push_text.result) (ap (grows c.args.draft.now) (sym (tree_quotes c.args.lists c.args.at c.args.bytes.now (omega arith) c.if-bytes-at-eq34.true))) c.push_text.ensures.text

pub push_tree-returns-then-is_run_byte-clause-tree : goal.push_tree-returns-then-is_run_byte-clause-tree
push_tree-returns-then-is_run_byte-clause-tree t c =
    subst (Gives (grown c.args.bytes.now c.push_run.new.draft) c.push_run.result) (ap (grows c.args.draft.now) (sym (tree_runs c.args.lists c.args.at c.args.bytes.now (omega arith) c.if-bytes-at-eq40.false c.if-bytes-at-eq41.false c.if-bytes-at-eq34.false (sym c.is_run_byte.ensures ∙ c.if-is_run_byte.true)))) c.push_run.ensures.run

pub push_tree-returns-clause-tree : goal.push_tree-returns-clause-tree
push_tree-returns-clause-tree t c = ap (grows c.args.draft.now) (tree_strange c.args.lists c.args.at c.args.bytes.now (omega arith) c.if-bytes-at-eq40.false c.if-bytes-at-eq41.false c.if-bytes-at-eq34.false (sym c.is_run_byte.ensures ∙ c.if-is_run_byte.false))
