use Rattle.std.proofs.Common.{sym, ◌∙◌, false, true}
use Rattle.std.specs.Prelude.{option_map}
use Rattle.std.proofs.lemmas.Result.{err_from_is_err_and}
use Rattle.script_draft.specs.Ahead.{tree_ahead}
use Rattle.script_draft.specs.Names.{kind_of, named_of}
use Rattle.script_draft.proofs.ScopesSeen.{bring_refused, bring_word, brings_hiding, brings_too_many, brings_twice, brings_new, is_some_none}
use Rattle.script_draft.proofs.scope.Scope.bring.Goals as goal
use Rattle.script_draft.proofs.scope.Scope.bring.Goals.{then-not-is_variable+else-is_full+else-is_some, else-not-is_variable}

pub returns-in_err-name-clause-reads : goal.returns-in_err-name-clause-reads
returns-in_err-name-clause-reads c = let p = err_from_is_err_and c.from_residual.result c.from_residual.ensures.1 in rw (p.1, p.2) (bring_refused (kind_of c.args.kind) c.args.self.now (tree_ahead c.args.cursor.now) _ c.in_err-name.ensures.word)

pub returns-then-is_full-clause-reads : goal.returns-then-is_full-clause-reads
returns-then-is_full-clause-reads c = λ made.
    bring_word (kind_of c.args.kind) c.args.self.now (tree_ahead c.args.cursor.now) c.in_ok-name.name.at c.in_ok-name.name.word.now _ made c.in_ok-name.ensures.word c.named-before.ensures
    ∙ brings_too_many (kind_of c.args.kind) c.args.self.now c.in_ok-name.name.at c.in_ok-name.name.word.now (option_map named_of c.named-before.result) made (sym c.is_variable.ensures ∙ c.if-not-is_variable.true) (sym c.is_full.ensures ∙ c.if-is_full.true)

pub returns-then-is_some-clause-reads : goal.returns-then-is_some-clause-reads
returns-then-is_some-clause-reads c = λ made.
    bring_word (kind_of c.args.kind) c.args.self.now (tree_ahead c.args.cursor.now) c.in_ok-name.name.at c.in_ok-name.name.word.now _ made c.in_ok-name.ensures.word c.named-before.ensures
    ∙ brings_twice (kind_of c.args.kind) c.args.self.now c.in_ok-name.name.at c.in_ok-name.name.word.now (option_map named_of c.named-before.result) made (sym c.is_variable.ensures ∙ c.if-not-is_variable.true) (sym c.is_full.ensures ∙ c.if-is_full.false) (is_some_none c.named-before.result true (sym c.is_some.ensures ∙ c.if-is_some.true))

pub returns-clause-reads : goal.returns-clause-reads
returns-clause-reads c = λ made.
    rw c.in_ok-push.ensures (bring_word (kind_of c.args.kind) c.args.self.now (tree_ahead c.args.cursor.now) c.in_ok-name.name.at c.in_ok-name.name.word.now _ made c.in_ok-name.ensures.word c.named-before.ensures
    ∙ elim c.if-not-is_variable.branch [
      | then-not-is_variable+else-is_full+else-is_some w ↦ brings_new (kind_of c.args.kind) c.args.self.now c.in_ok-name.name.at c.in_ok-name.name.word.now (option_map named_of c.named-before.result) made (sym c.is_variable.ensures ∙ w.if-not-is_variable.true) (sym w.is_full.ensures ∙ w.if-is_full.false) (is_some_none c.named-before.result false (sym w.is_some.ensures ∙ w.if-is_some.false))
      | else-not-is_variable w ↦ brings_hiding (kind_of c.args.kind) c.args.self.now c.in_ok-name.name.at c.in_ok-name.name.word.now (option_map named_of c.named-before.result) made (sym c.is_variable.ensures ∙ w.if-not-is_variable.false)
    ])
