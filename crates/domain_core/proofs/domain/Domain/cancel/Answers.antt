use Rattle.std.proofs.Common.{◌≡◌, ℕ, true, false, List, ◌∙◌, sym, subst}
use Rattle.std.proofs.lemmas.Result.{on_ok_weaker}
use Rattle.eio_value.specs.declared.plain.Misuse.TheVariants.{ContextFinished}
use Rattle.eio_value.specs.declared.plain.Plain.TheVariants.{Failure, Invalid}
use Rattle.spec_parts.specs.Contexts.{is_live}
use Rattle.script_forms.specs.Flat.{nodes_of}
use Rattle.script_forms.specs.declared.node.Node.{Node}
use Rattle.trace_lines.specs.declared.line.Did.TheVariants as did
use Rattle.spec_machine.specs.Domain.{DomainState}
use Rattle.spec_machine.specs.Moves.{own_call}
use Rattle.spec_machine.specs.Steps.{cancels, does, raises}
use Rattle.domain_core.specs.Keeping.{KeptDomain}
use Rattle.domain_core.proofs.Composing.{makes_after, makes_as}
use Rattle.domain_core.proofs.Scopes.{cancels_late, cancels_live, live_alike}
use Rattle.domain_core.proofs.domain.Domain.cancel.Goals as goal

pub returns-then-not-is_live-clause-answers : goal.returns-then-not-is_live-clause-answers
unfolding own_call
returns-then-not-is_live-clause-answers c = (
    let g : ℕ = c.args.fiber in
    let over : is_live c.args.self.now.contexts.made c.args.context ≡ false =
    subst (λ (kept : KeptDomain). is_live kept.contexts.made c.args.context ≡ false) c.self.view_is (sym c.if-not-is_live.ensures) in
    on_ok_weaker c.raise.result (λ makes script. (
    let nodes : List Node = nodes_of script in
    makes_as nodes _ (raises (did.Cancel c.args.context c.args.text) (Invalid ContextFinished) g) _ _ _
    (λ texts l mirrors. cancels_late c.args.context c.args.text g l (live_alike nodes texts _ l mirrors c.args.context ∙ over))
    (makes nodes))) c.raise.ensures.makes)

pub returns-clause-answers : goal.returns-clause-answers
unfolding own_call
returns-clause-answers c script = (
    let nodes : List Node = nodes_of script in
    let g : ℕ = c.args.fiber in
    let live : is_live c.args.self.now.contexts.made c.args.context ≡ true =
    subst (λ (kept : KeptDomain). is_live kept.contexts.made c.args.context ≡ true) c.self.view_is (sym c.if-not-is_live.ensures) in
    makes_as nodes _ (λ (l : DomainState). does (did.Cancel c.args.context c.args.text) g (cancels g c.args.context (Failure c.args.text) l)) _ _ _
    (λ texts l mirrors. cancels_live c.args.context c.args.text g l (live_alike nodes texts _ l mirrors c.args.context ∙ live))
    (makes_after nodes (cancels g c.args.context (Failure c.args.text)) (does (did.Cancel c.args.context c.args.text) g) _ c.cancel_context.new.self _ _
    (c.cancel_context.ensures.becomes nodes) (c.give.ensures.makes nodes)))
