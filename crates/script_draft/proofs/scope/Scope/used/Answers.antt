use Rattle.std.proofs.Common.{sym, ◌∙◌}
use Rattle.std.proofs.lemmas.Result.{err_from_is_err_and}
use Rattle.script_draft.specs.Ahead.{tree_ahead}
use Rattle.script_draft.specs.Names.{kind_of, named_of}
use Rattle.script_draft.proofs.ScopesSeen.{used_refused, used_word, used_other, used_same}
use Rattle.script_draft.proofs.scope.Scope.used.Goals as goal

pub returns-in_err-name-clause-reads : goal.returns-in_err-name-clause-reads
returns-in_err-name-clause-reads c = let p = err_from_is_err_and c.from_residual.result c.from_residual.ensures.1 in rw (p.1, p.2) (used_refused (kind_of c.args.kind) c.args.self.now (tree_ahead c.args.cursor.now) _ c.in_err-name.ensures.word)

pub returns-in_default-clause-reads : goal.returns-in_default-clause-reads
returns-in_default-clause-reads c = λ made. used_word (kind_of c.args.kind) c.args.self.now (tree_ahead c.args.cursor.now) _ _ _ made c.in_ok-name.ensures.word c.in_default.ensures

pub returns-then-not-is_same_kind-clause-reads : goal.returns-then-not-is_same_kind-clause-reads
returns-then-not-is_same_kind-clause-reads c = λ made.
    used_word (kind_of c.args.kind) c.args.self.now (tree_ahead c.args.cursor.now) _ _ _ made c.in_ok-name.ensures.word c.in-Some.ensures
    ∙ used_other (named_of c.in-Some.it) (kind_of c.args.kind) c.in_ok-name.name.at made (sym c.is_same_kind.ensures ∙ c.if-not-is_same_kind.true)

pub returns-clause-reads : goal.returns-clause-reads
returns-clause-reads c = λ made.
    used_word (kind_of c.args.kind) c.args.self.now (tree_ahead c.args.cursor.now) _ _ _ made c.in_ok-name.ensures.word c.in-Some.ensures
    ∙ used_same (named_of c.in-Some.it) (kind_of c.args.kind) c.in_ok-name.name.at made (sym c.is_same_kind.ensures ∙ c.if-not-is_same_kind.false)
