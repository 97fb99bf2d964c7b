use Rattle.std.proofs.Common.{refl, sym, ◌∙◌, []}
use Rattle.std.proofs.lemmas.Result.{err_from_is_err_and}
use Rattle.spec_script.specs.Entries.{entries}
use Rattle.script_draft.specs.Ahead.{ahead, tree_ahead}
use Rattle.script_draft.specs.Drafts.{made_of}
use Rattle.script_declarations.specs.EntriesRead.{names_in, names_onto}
use Rattle.script_draft.proofs.Within.{within_here, within_past}
use Rattle.script_declarations.proofs.EntriesRead.{nothing_before, entry_refused, entry_taken, entries_end, entry_shapeless, entry_unknown, entry_misfit, entry_full, entry_read}
use Rattle.script_declarations.proofs.entries.+entries.Goals as goal

pub entries-loop-cursor-init : goal.entries-loop-cursor-init
unfolding names_onto
entries-loop-cursor-init t c = record {
  within = within_here c.args.cursor.now;
  nodes = refl;
  rest = rw c.new-list.ensures.items (nothing_before (entries [] (ahead c.args.cursor.now) (made_of c.args.draft.now)));
}

pub entries-returns-in_err-next-clause-reads : goal.entries-returns-in_err-next-clause-reads
entries-returns-in_err-next-clause-reads t c =
    let p = err_from_is_err_and c.from_residual.result c.from_residual.ensures.1 in
    rw (p.1, p.2) (entry_refused c.loop-cursor.list.items _ c.loop-cursor.cursor (made_of c.loop-cursor.draft) _ (sym c.has_tree.ensures ∙ c.loop-cursor-test.true) (rw c.deref.ensures.value at c.in_err-next.ensures.reads) c.loop-cursor.invariant.rest)

pub entries-loop-cursor-preserved : goal.entries-loop-cursor-preserved
entries-loop-cursor-preserved t c = record {
  within = within_past c.args.cursor.now c.loop-cursor.cursor c.entry.new.cursor c.loop-cursor.invariant.within c.in_ok-next.ensures.past;
  nodes = c.in_ok-next.ensures.reads.1 ∙ c.loop-cursor.invariant.nodes;
  rest = rw c.in_ok-push.ensures.items (entry_taken c.loop-cursor.list.items _ c.loop-cursor.cursor c.entry.new.cursor (made_of c.loop-cursor.draft) (made_of c.entry.new.draft) c.in_ok-next.next (sym c.has_tree.ensures ∙ c.loop-cursor-test.true) c.in_ok-next.ensures.past (rw c.deref.ensures.value at c.in_ok-next.ensures.reads.0) c.loop-cursor.invariant.rest);
}

pub entries-returns-clause-reads : goal.entries-returns-clause-reads
entries-returns-clause-reads t c = rw c.new.ensures (entries_end c.loop-cursor.list.items _ c.loop-cursor.cursor (made_of c.loop-cursor.draft) (sym c.has_tree.ensures ∙ c.loop-cursor-test.false) c.loop-cursor.invariant.rest, c.loop-cursor.invariant.nodes)

pub entry-returns-in_default-clause-reads : goal.entry-returns-in_default-clause-reads
entry-returns-in_default-clause-reads t c = entry_shapeless (names_in c.args.before.now) (tree_ahead c.args.cursor.now) (made_of c.args.draft.now) c.place-at.result c.in_default.ensures.0 c.place-at.ensures

pub entry-returns-in_default-entry_head-clause-reads : goal.entry-returns-in_default-entry_head-clause-reads
entry-returns-in_default-entry_head-clause-reads t c = entry_unknown (names_in c.args.before.now) _ c.place-at.result _ c.args.cursor.now c.enter.new.self (made_of c.args.draft.now) c.in-Some.ensures c.place-at.ensures c.in_default-entry_head.ensures

pub entry-returns-then-not-takes-clause-reads : goal.entry-returns-then-not-takes-clause-reads
entry-returns-then-not-takes-clause-reads t c = entry_misfit (names_in c.args.before.now) _ c.place-at.result _ _ c.count.result c.args.cursor.now c.enter.new.self (made_of c.args.draft.now) c.in-Some.ensures c.place-at.ensures c.in-Some-entry_head.ensures c.count.ensures (sym c.takes.ensures ∙ c.if-not-takes.true)

pub entry-returns-in_err-entry-clause-reads : goal.entry-returns-in_err-entry-clause-reads
entry-returns-in_err-entry-clause-reads t c =
    let p = err_from_is_err_and c.from_residual.result c.from_residual.ensures.1 in
    rw (p.1, p.2) (entry_full (names_in c.args.before.now) _ c.place-at.result _ _ c.count.result c.args.cursor.now c.enter.new.self (made_of c.args.draft.now) _ c.in-Some.ensures c.place-at.ensures c.in-Some-entry_head.ensures c.count.ensures (sym c.takes.ensures ∙ c.if-not-takes.false) c.in_err-entry.ensures)

pub entry-returns-clause-reads : goal.entry-returns-clause-reads
entry-returns-clause-reads t c = entry_read _ c.named.result (names_in c.args.before.now) _ c.place-at.result _ _ c.count.result c.args.cursor.now c.enter.new.self c.args.draft.now c.entry.new.self c.named.new.draft _ c.in-Some.ensures c.place-at.ensures c.in-Some-entry_head.ensures c.count.ensures (sym c.takes.ensures ∙ c.if-not-takes.false) c.in_ok-entry.ensures.0 c.in_ok-entry.ensures.1 c.named.ensures.reads
