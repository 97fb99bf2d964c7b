use Rattle.std.proofs.Common.{refl}
use Rattle.spec_script.specs.Forms as forms
use Rattle.spec_script.specs.Kinds.{ContextKind, SwitchKind}
use Rattle.spec_script.specs.Statements.{form}
use Rattle.spec_script.specs.Syntax as syntax
use Rattle.spec_script.specs.Trees.{And}
use Rattle.script_draft.specs.Ahead.{ahead}
use Rattle.script_forms.specs.Flat.{flat_statement}
use Rattle.script_statements.specs.declared.bodies.BodyForm.TheVariants as body
use Rattle.script_forms.specs.declared.node.Forking.TheVariants as forking
use Rattle.script_statements.proofs.BodiesRead.{plain_opened, naming_opened, fork_opened}
use Rattle.script_statements.proofs.bodies.open_body.Goals as goal

pub returns-in-Loop-clause-reads : goal.returns-in-Loop-clause-reads
unfolding form flat_statement
returns-in-Loop-clause-reads c = λ last at word. rw c.in-Loop.is (plain_opened c.plain_body.result c.args.scope.now (λ b. syntax.Loop b) body.Loop (form c.args.scope.now last at forms.LoopHead (And word (ahead c.args.cursor.now))) (ahead c.args.cursor.now) c.args.draft.now c.plain_body.ensures.ok c.plain_body.ensures.fault refl (λ n number inner. refl))

pub returns-in-Protect-clause-reads : goal.returns-in-Protect-clause-reads
unfolding form flat_statement
returns-in-Protect-clause-reads c = λ last at word. rw c.in-Protect.is (plain_opened c.plain_body-in-Protect.result c.args.scope.now (λ b. syntax.Protect b) body.Protect (form c.args.scope.now last at forms.ProtectHead (And word (ahead c.args.cursor.now))) (ahead c.args.cursor.now) c.args.draft.now c.plain_body-in-Protect.ensures.ok c.plain_body-in-Protect.ensures.fault refl (λ n number inner. refl))

pub returns-in-Sub-clause-reads : goal.returns-in-Sub-clause-reads
unfolding form flat_statement
returns-in-Sub-clause-reads c = λ last at word. rw c.in-Sub.is (naming_opened c.naming_body.result ContextKind c.args.scope.now (λ b. syntax.Sub b) body.Sub (λ items. form c.args.scope.now last at forms.SubHead (And word items)) c.args.cursor.now c.naming_body.new.cursor c.args.draft.now (rw c.in-Sub.is at c.requires.items) c.naming_body.ensures.past c.naming_body.ensures.form c.naming_body.ensures.name (λ tree items. refl) (λ n number inner. refl))

pub returns-in-Switch-clause-reads : goal.returns-in-Switch-clause-reads
unfolding form flat_statement
returns-in-Switch-clause-reads c = λ last at word. rw c.in-Switch.is (naming_opened c.naming_body-in-Switch.result SwitchKind c.args.scope.now (λ b. syntax.Switch b) body.Switch (λ items. form c.args.scope.now last at forms.SwitchHead (And word items)) c.args.cursor.now c.naming_body-in-Switch.new.cursor c.args.draft.now (rw c.in-Switch.is at c.requires.items) c.naming_body-in-Switch.ensures.past c.naming_body-in-Switch.ensures.form c.naming_body-in-Switch.ensures.name (λ tree items. refl) (λ n number inner. refl))

pub returns-in-Fork-clause-reads : goal.returns-in-Fork-clause-reads
unfolding form
returns-in-Fork-clause-reads c = λ last at word. rw c.in-Fork.is (fork_opened c.fork_body.result c.args.scope.now syntax.Plain forking.Plain (λ items. form c.args.scope.now last at forms.ForkHead (And word items)) c.args.cursor.now c.fork_body.new.cursor c.args.draft.now (rw c.in-Fork.is at c.requires.items) c.fork_body.ensures.past c.fork_body.ensures.inner refl c.fork_body.ensures.reads (λ tree items. refl))

pub returns-in-ForkDaemon-clause-reads : goal.returns-in-ForkDaemon-clause-reads
unfolding form
returns-in-ForkDaemon-clause-reads c = λ last at word. rw c.in-ForkDaemon.is (fork_opened c.fork_body-in-ForkDaemon.result c.args.scope.now syntax.Daemon forking.Daemon (λ items. form c.args.scope.now last at forms.ForkDaemonHead (And word items)) c.args.cursor.now c.fork_body-in-ForkDaemon.new.cursor c.args.draft.now (rw c.in-ForkDaemon.is at c.requires.items) c.fork_body-in-ForkDaemon.ensures.past c.fork_body-in-ForkDaemon.ensures.inner refl c.fork_body-in-ForkDaemon.ensures.reads (λ tree items. refl))
