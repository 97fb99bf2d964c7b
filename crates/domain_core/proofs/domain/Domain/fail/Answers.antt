use Rattle.std.proofs.Common.{◌≡◌, ℕ, true, false, List, ◌∙◌, sym, subst}
use Rattle.std.proofs.lemmas.Result.{on_ok_weaker}
use Rattle.eio_value.specs.declared.plain.Member.{Member}
use Rattle.eio_value.specs.declared.plain.Misuse.TheVariants.{SwitchFinished}
use Rattle.eio_value.specs.declared.plain.Plain.TheVariants.{Failure, Invalid}
use Rattle.eio_value.specs.declared.raised.Raised.TheVariants as raised
use Rattle.spec_parts.specs.Switches.{switch_at}
use Rattle.script_forms.specs.Flat.{nodes_of}
use Rattle.script_forms.specs.declared.node.Node.{Node}
use Rattle.trace_lines.specs.declared.line.Did.TheVariants as did
use Rattle.spec_machine.specs.Domain.{DomainState}
use Rattle.spec_machine.specs.Moves.{own_call}
use Rattle.spec_machine.specs.Steps.{Step, does, new_raise, raises}
use Rattle.spec_machine.specs.SwitchMoves.{fails}
use Rattle.domain_core.specs.Keeping.{KeptDomain}
use Rattle.domain_core.proofs.Composing.{makes_after, makes_after_raise, makes_as}
use Rattle.domain_core.proofs.Scopes.{fails_late, fails_now, finished_there}
use Rattle.domain_core.proofs.domain.Domain.fail.Goals as goal

pub returns-then-is_finished-clause-answers : goal.returns-then-is_finished-clause-answers
unfolding own_call
returns-then-is_finished-clause-answers c = (
    let g : ℕ = c.args.fiber in
    let over : (switch_at c.args.self.now.switches c.args.switch).finished ≡ true =
    subst (λ (kept : KeptDomain). (switch_at kept.switches c.args.switch).finished ≡ true) c.self.view_is (sym c.if-is_finished.ensures) in
    on_ok_weaker c.raise.result (λ makes script. (
    let nodes : List Node = nodes_of script in
    makes_as nodes _ (raises (did.Fail c.args.switch c.args.text) (Invalid SwitchFinished) g) _ _ _
    (λ texts l mirrors. fails_late c.args.switch c.args.text g l (finished_there nodes texts _ l mirrors c.args.switch ∙ over))
    (makes nodes))) c.raise.ensures.makes)

pub returns-clause-answers : goal.returns-clause-answers
unfolding own_call
returns-clause-answers c script = (
    let nodes : List Node = nodes_of script in
    let g : ℕ = c.args.fiber in
    let n : ℕ = c.args.switch in
    let unfinished : (switch_at c.args.self.now.switches n).finished ≡ false =
    subst (λ (kept : KeptDomain). (switch_at kept.switches n).finished ≡ false) c.self.view_is (sym c.if-is_finished.ensures) in
    let then : Member → DomainState → Step = λ x m. does (did.Fail n c.args.text) g (fails g n (raised.One x) m) in
    let made : Member = c.in_ok-member.member in
    makes_as nodes _ (λ (l : DomainState). new_raise (Failure c.args.text) l then) _ _ _
    (λ texts l mirrors. fails_now n c.args.text g l (finished_there nodes texts _ l mirrors n ∙ unfinished))
    (makes_after_raise nodes (Failure c.args.text) made then _ c.new_raise.new.self _ _ c.in_ok-member.ensures.raises
    (makes_after nodes (fails g n (raised.One made)) (does (did.Fail n c.args.text) g) _ c.fails.new.self _ _
    (c.fails.ensures.becomes nodes) (c.give.ensures.makes nodes))))
