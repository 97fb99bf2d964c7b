use Rattle.std.proofs.Common.{sym, ◌∙◌}
use Rattle.script_draft.specs.Ahead.{ahead}
use Rattle.script_declarations.specs.DeclarationsRead.{declared_of}
use Rattle.script_draft.specs.Drafts.{made_of}
use Rattle.script_declarations.proofs.DeclarationsRead.{declaration_unknown, declaration_misfit, declaration_full, declaration_read}
use Rattle.script_declarations.proofs.declarations.form.Goals as goal

pub returns-in_default-clause-reads : goal.returns-in_default-clause-reads
returns-in_default-clause-reads c = λ place. declaration_unknown c.args.limits c.args.bodies (declared_of c.args.declared.now) c.args.head.now.at place c.args.head.now.word.now (ahead c.args.cursor.now) (made_of c.args.draft.now) c.in_default.ensures

pub returns-then-not-takes-clause-reads : goal.returns-then-not-takes-clause-reads
returns-then-not-takes-clause-reads c = λ place. declaration_misfit c.args.limits c.args.bodies (declared_of c.args.declared.now) c.args.head.now.at place c.args.head.now.word.now c.in-Some.it c.count.result (ahead c.args.cursor.now) (made_of c.args.draft.now) c.in-Some.ensures c.count.ensures (sym c.takes.ensures ∙ c.if-not-takes.true)

pub returns-then-is_full-clause-reads : goal.returns-then-is_full-clause-reads
returns-then-is_full-clause-reads c = λ place. declaration_full c.args.limits c.args.bodies (declared_of c.args.declared.now) c.args.head.now.at place c.args.head.now.word.now c.in-Some.it c.count.result (ahead c.args.cursor.now) (made_of c.args.draft.now) c.in-Some.ensures c.count.ensures (sym c.takes.ensures ∙ c.if-not-takes.false) (sym c.is_full.ensures ∙ c.if-is_full.true)

pub returns-clause-reads : goal.returns-clause-reads
returns-clause-reads c = λ place. declaration_read _ c.named.result c.args.limits c.args.bodies (declared_of c.args.declared.now) c.args.head.now.at place c.args.head.now.word.now c.in-Some.it c.count.result (ahead c.args.cursor.now) c.feature_of.result c.is_mocked.result c.args.draft.now c.form.new.self c.named.new.draft c.in-Some.ensures c.count.ensures (sym c.takes.ensures ∙ c.if-not-takes.false) (sym c.is_full.ensures ∙ c.if-is_full.false) c.feature_of.ensures c.is_mocked.ensures c.in_ok-form.ensures c.named.ensures.reads
