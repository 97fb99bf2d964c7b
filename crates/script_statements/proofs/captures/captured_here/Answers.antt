use Rattle.std.proofs.Common.{◌≡◌, ◌+◌, ◌<◌, [], length, length-append, arith, rules, sym, ◌∙◌, refl, ap}
use Rattle.std.proofs.lemmas.Result.{err_from_is_err_and}
use Rattle.script_draft.specs.Ahead.{ahead}
use Rattle.script_draft.specs.Names.{named_of}
use Rattle.script_statements.proofs.LeavesRead.{taking_begins, taking_goes, taking_fails, taking_ends}
use Rattle.script_statements.proofs.captures.captured_here.Goals as goal

pub loop-names-init : goal.loop-names-init
loop-names-init c =
    let no_slots : c.new-slots.result.items ≡ [] = search rules in
    let no_names : c.new-names.result.items ≡ [] = search rules in
    record { few = omega (arith, ap (λ ns. length ns) no_names); around = refl; fewer = omega arith; taking = taking_begins c.args.scope.now (ahead c.args.cursor.now) c.new-slots.result.items c.new-names.result.items no_slots no_names }

pub returns-in_err-variable-clause-reads : goal.returns-in_err-variable-clause-reads
returns-in_err-variable-clause-reads c =
    let p = err_from_is_err_and c.from_residual.result c.from_residual.ensures.1 in
    rw (p.1, p.2) (λ made. taking_fails c.args.scope.now (ahead c.args.cursor.now) c.loop-names.cursor c.loop-names.slots.items c.loop-names.names.items _ made (sym c.has_tree.ensures ∙ c.loop-names-test.true) c.loop-names.invariant.taking (rw c.deref.ensures.value at (c.in_err-variable.ensures.reads made)))

pub loop-names-preserved : goal.loop-names-preserved
loop-names-preserved c =
    let past = c.in_ok-variable.ensures.past in
    let more : length c.push-in-loop-names.new.self.items ≡ length c.loop-names.names.items + 1 = ap (λ ns. length ns) c.in_ok-push-2.ensures.items ∙ length-append c.loop-names.names.items _ in
    let room : length c.loop-names.names.items < 8 = rw c.deref.ensures.value at c.in_ok-variable.ensures.room in
    let here : c.len-number.result ≡ length c.loop-names.names.items = search rules in
    record {
      few = omega (arith, more, room);
      around = past.around ∙ c.loop-names.invariant.around;
      fewer = omega (arith, past.fewer, c.loop-names.invariant.fewer);
      taking = rw (c.in_ok-push.ensures.items, c.in_ok-push-2.ensures.items) (taking_goes c.args.scope.now (ahead c.args.cursor.now) c.loop-names.cursor c.captured_next.new.cursor c.loop-names.slots.items c.loop-names.names.items c.in_ok-variable.variable (record { name = c.in_ok-variable.variable.name; kind = c.in_ok-variable.variable.kind; number = c.len-number.result }) (sym c.has_tree.ensures ∙ c.loop-names-test.true) past c.loop-names.invariant.taking (rw c.deref.ensures.value at c.in_ok-variable.ensures.reads) (ap (λ n. record (named_of c.in_ok-variable.variable) { number = n }) here));
    }

pub returns-clause-reads : goal.returns-clause-reads
returns-clause-reads c = taking_ends c.args.scope.now (ahead c.args.cursor.now) c.loop-names.cursor c.loop-names.slots.items c.loop-names.names.items _ (sym c.has_tree.ensures ∙ c.loop-names-test.false) c.loop-names.invariant.taking c.new.ensures c.job.ensures
