use Rattle.std.proofs.Common.{◌≡◌, [], sym, refl, append-nil}
use Rattle.spec_script.specs.Syntax as syntax
use Rattle.spec_script.specs.Statements.{form}
use Rattle.script_draft.specs.Ahead.{ahead, tree_count}
use Rattle.script_forms.specs.Flat.{flat_statement}
use Rattle.script_forms.specs.declared.node.Node.TheVariants as node
use Rattle.script_draft.proofs.Counts.{is_empty}
use Rattle.script_draft.proofs.Steps.{fill_stated}
use Rattle.script_statements.proofs.leaves.leaf_form.Goals as goal

pub returns-in-Yield-clause-reads : goal.returns-in-Yield-clause-reads
unfolding form flat_statement
returns-in-Yield-clause-reads c =
    let none : tree_count (ahead c.args.cursor.now) ≡ 0 = rw c.in-Yield.is at c.requires.items in
    rw (c.in-Yield.is, c.bare_form.ensures.ok) (λ last at word.
    fill_stated _ c.args.scope.now c.args.opened c.args.draft.now c.args.draft.now c.bare_form.new.draft syntax.Yield node.Yield [] c.requires.opened
    (rw (is_empty c.args.cursor.now none) refl) (sym (append-nil _)) c.bare_form.ensures.filled refl)

pub returns-in-Check-clause-reads : goal.returns-in-Check-clause-reads
unfolding form flat_statement
returns-in-Check-clause-reads c =
    let none : tree_count (ahead c.args.cursor.now) ≡ 0 = rw c.in-Check.is at c.requires.items in
    rw (c.in-Check.is, c.bare_form-in-Check.ensures.ok) (λ last at word.
    fill_stated _ c.args.scope.now c.args.opened c.args.draft.now c.args.draft.now c.bare_form-in-Check.new.draft syntax.Check node.Check [] c.requires.opened
    (rw (is_empty c.args.cursor.now none) refl) (sym (append-nil _)) c.bare_form-in-Check.ensures.filled refl)

pub returns-in-AwaitCancel-clause-reads : goal.returns-in-AwaitCancel-clause-reads
unfolding form flat_statement
returns-in-AwaitCancel-clause-reads c =
    let none : tree_count (ahead c.args.cursor.now) ≡ 0 = rw c.in-AwaitCancel.is at c.requires.items in
    rw (c.in-AwaitCancel.is, c.bare_form-in-AwaitCancel.ensures.ok) (λ last at word.
    fill_stated _ c.args.scope.now c.args.opened c.args.draft.now c.args.draft.now c.bare_form-in-AwaitCancel.new.draft syntax.AwaitCancel node.AwaitCancel [] c.requires.opened
    (rw (is_empty c.args.cursor.now none) refl) (sym (append-nil _)) c.bare_form-in-AwaitCancel.ensures.filled refl)

pub returns-in-Now-clause-reads : goal.returns-in-Now-clause-reads
unfolding form flat_statement
returns-in-Now-clause-reads c =
    let none : tree_count (ahead c.args.cursor.now) ≡ 0 = rw c.in-Now.is at c.requires.items in
    rw (c.in-Now.is, c.bare_form-in-Now.ensures.ok) (λ last at word.
    fill_stated _ c.args.scope.now c.args.opened c.args.draft.now c.args.draft.now c.bare_form-in-Now.new.draft syntax.Now node.Now [] c.requires.opened
    (rw (is_empty c.args.cursor.now none) refl) (sym (append-nil _)) c.bare_form-in-Now.ensures.filled refl)
