use Rattle.std.proofs.Common.{◌∙◌}
use Rattle.std.proofs.lemmas.Result.{err_from_is_err_and}
use Rattle.script_draft.specs.Ahead.{tree_ahead}
use Rattle.script_draft.proofs.ScopesSeen.{directory_refused, directory_word, directory_opened, directory_declared, directory_other}
use Rattle.script_draft.proofs.scope.Scope.directory.Goals as goal

pub returns-in_err-name-clause-reads : goal.returns-in_err-name-clause-reads
returns-in_err-name-clause-reads c = let p = err_from_is_err_and c.from_residual.result c.from_residual.ensures.1 in rw (p.1, p.2) (directory_refused c.args.self.now (tree_ahead c.args.cursor.now) _ c.in_err-name.ensures.word)

pub returns-in_default-clause-reads : goal.returns-in_default-clause-reads
returns-in_default-clause-reads c = λ made. directory_word c.args.self.now (tree_ahead c.args.cursor.now) _ _ _ made c.in_ok-name.ensures.word c.in_default.ensures

pub returns-in-Capability-clause-reads : goal.returns-in-Capability-clause-reads
returns-in-Capability-clause-reads c = λ made. directory_word c.args.self.now (tree_ahead c.args.cursor.now) _ _ _ made c.in_ok-name.ensures.word c.in-Some.ensures ∙ directory_opened c.in-Some.it c.in_ok-name.name.at made c.in-Capability.is

pub returns-in-Directory-clause-reads : goal.returns-in-Directory-clause-reads
returns-in-Directory-clause-reads c = λ made. directory_word c.args.self.now (tree_ahead c.args.cursor.now) _ _ _ made c.in_ok-name.ensures.word c.in-Some.ensures ∙ directory_declared c.in-Some.it c.in_ok-name.name.at made c.in-Directory.is

pub returns-in_default-kind : goal.returns-in_default-kind
returns-in_default-kind c = record {
  past = tt;
  reads = λ made. directory_word c.args.self.now (tree_ahead c.args.cursor.now) _ _ _ made c.in_ok-name.ensures.word c.in-Some.ensures ∙ directory_other c.in-Some.it c.in_ok-name.name.at made c.in_default-kind.not-Capability c.in_default-kind.not-Directory;
}
