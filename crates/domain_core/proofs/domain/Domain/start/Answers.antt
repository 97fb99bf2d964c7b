use Rattle.std.proofs.Common.{◌≡◌, ◌∙◌, ap, sym, ℕ, [], ◌∷◌, Some, arith}
use Rattle.std.specs.Result.{result_ok}
use Rattle.std.proofs.lemmas.Option.{same_Some}
use Rattle.spec_parts.specs.Contexts.{root}
use Rattle.spec_parts.specs.ContextCalls.{Contexts, Root, called}
use Rattle.spec_parts.specs.ReadyList.{push_back}
use Rattle.spec_machine.specs.Domain.{OfBody}
use Rattle.domain_core.specs.Keeping.{new_fiber}
use Rattle.domain_core.proofs.Starting.{beginning_is, starts}
use Rattle.domain_core.proofs.domain.Domain.start.Goals as goal

pub returns : goal.returns
returns c = (
    let has = c.in_ok-fibers.ensures in
    let root_is : c.unwrap-root.result ≡ 0 = same_Some _ _ (sym (ap result_ok c.unwrap-root.ensures) ∙ c.root.ensures.number ∙ ap (λ (s : Contexts). (root s.made).number) c.in_ok-contexts.ensures) in
    let fibers : c.in_ok-fibers.fibers ≡ Some (new_fiber 0 0 OfBody has.frames) ∷ [] = has.is ∙ ap (λ (n : ℕ). Some (new_fiber 0 n OfBody has.frames) ∷ []) root_is in
    let ready : c.push_back_reserved.new.self.fibers ≡ 0 ∷ [] =
    ap (λ r. r.fibers) c.push_back_reserved.ensures ∙ ap (λ r. push_back 0 r.fibers) c.in_ok-ready.ensures in
    starts c.args.script.now c.requires.runnable c.args.body c.requires.body c.args.budget c.args.mocked has.frames has.begins has.placed
    _ (beginning_is c.args.body has.frames _ _ c.in_ok-owed.owed c.root.new.self c.new-4.result c.new-5.result _
    fibers ready c.in_ok-owed.ensures (c.root.ensures.after ∙ ap (λ (s : Contexts). called Root s) c.in_ok-contexts.ensures) c.new-4.ensures c.new-5.ensures (omega (arith, c.ranges.body.fits))))
