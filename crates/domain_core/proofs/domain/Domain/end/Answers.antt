use Rattle.std.proofs.Common.{◌≡◌, ◌∙◌, ap, sym, subst}
use Rattle.std.proofs.lemmas.Option.{same_Some}
use Rattle.trace_lines.specs.declared.line.Did.TheVariants as did
use Rattle.trace_lines.specs.declared.line.Said2.{Said2}
use Rattle.script_forms.specs.Flat.{nodes_of}
use Rattle.spec_fiber.specs.Asks as asks
use Rattle.spec_machine.specs.EndMoves.{ends}
use Rattle.spec_machine.specs.Moves.{own_call}
use Rattle.spec_machine.specs.Steps.{reply_of}
use Rattle.domain_core.specs.contracts.domain.Domain.{the_view}
use Rattle.domain_core.specs.Answering.{BecomesUnder, MakesUnder}
use Rattle.domain_core.specs.Conditions.{IsAwake, MayEnd}
use Rattle.domain_core.specs.Keeping.{KeptFiber, KeptDomain}
use Rattle.domain_core.specs.Keyed.{fiber_of, role_of}
use Rattle.domain_core.specs.Mirrors.{Mirrors}
use Rattle.domain_core.proofs.Awake.{awake_inside}
use Rattle.domain_core.proofs.Composing.{makes_told}
use Rattle.domain_core.proofs.Ended.{ends_body, ends_switched, ends_branch}
use Rattle.domain_core.proofs.domain.Domain.end.Goals as goal
use Rattle.domain_core.proofs.domain.Domain.end.Goals.{in-Body, in-Switched, in-Branch}

pub returns-clause-answers : goal.returns-clause-answers
unfolding own_call
returns-clause-answers c = λ script. (
    let awake : IsAwake (the_view c.self.inside) c.args.fiber = awake_inside (the_view c.self.inside) c.args.self.now c.self.view_is c.args.fiber c.requires.can.awake in
    let may : MayEnd (the_view c.self.inside) c.args.fiber = subst (λ (k : KeptDomain). MayEnd k c.args.fiber) (sym c.self.view_is) c.requires.may in
    let same : fiber_of c.at-ended.ensures.0 c.at-ended.result.now ≡ awake.fiber = same_Some _ _ (sym c.at-ended.ensures.1 ∙ awake.there) in
    let role : awake.fiber.role ≡ role_of c.at-ended.result.now.role = ap (λ (f : KeptFiber). f.role) (sym same) in
    let context : c.at-ended.result.now.context ≡ awake.fiber.context = ap (λ (f : KeptFiber). f.context) same in
    let becomes : BecomesUnder (nodes_of script) (ends c.args.outcome.now c.args.fiber) (the_view c.self.inside) c.match-role.self = λ texts l mirrors.
    elim c.match-role.branch as (λ _. Mirrors (nodes_of script) texts c.match-role.self (ends c.args.outcome.now c.args.fiber l)) [
      | in-Body w ↦ subst (λ (k : KeptDomain). Mirrors (nodes_of script) texts k (ends c.args.outcome.now c.args.fiber l)) (sym w.self-is)
          (ends_body (nodes_of script) texts (the_view c.self.inside) l mirrors c.args.fiber awake c.args.outcome.now may (role ∙ ap role_of w.in-Body.is)
          c.at-ended.result.now.context context c.end.new.self w.end-in-Body.new.self c.end.ensures w.end-in-Body.ensures)
      | in-Switched w ↦ subst (λ (k : KeptDomain). Mirrors (nodes_of script) texts k (ends c.args.outcome.now c.args.fiber l)) (sym w.self-is)
          (ends_switched (nodes_of script) texts (the_view c.self.inside) l mirrors c.args.fiber awake c.args.outcome.now may w.in-Switched.switch w.in-Switched.daemon (role ∙ ap role_of w.in-Switched.is)
          c.end.new.self w.detach.new.self c.end.ensures (w.detach.ensures.becomes (nodes_of script)))
      | in-Branch w ↦ subst (λ (k : KeptDomain). Mirrors (nodes_of script) texts k (ends c.args.outcome.now c.args.fiber l)) (sym w.self-is)
          (ends_branch (nodes_of script) texts (the_view c.self.inside) l mirrors c.args.fiber awake c.args.outcome.now may w.in-Branch.group (role ∙ ap role_of w.in-Branch.is)
          c.end.new.self w.branch_ends.new.self c.end.ensures (w.branch_ends.ensures.becomes (nodes_of script)))
    ] in
    subst (λ (said : Said2). MakesUnder (nodes_of script) (own_call script (asks.End c.args.outcome.now) c.args.fiber) c.args.self.now (record { fiber = c.args.fiber; did = did.End; reply = said }) c.match-role.self) (sym c.reply_to.ensures)
    (makes_told (nodes_of script) (ends c.args.outcome.now c.args.fiber) c.args.fiber did.End (reply_of c.args.outcome.now) c.args.self.now c.match-role.self
    (subst (λ (k : KeptDomain). BecomesUnder (nodes_of script) (ends c.args.outcome.now c.args.fiber) k c.match-role.self) c.self.view_is becomes)))
