use Rattle.std.proofs.Common.{◌≡◌, ◌∙◌, ◌⊎◌, inl, inr, false, List, sym, subst}
use Rattle.std.proofs.lemmas.Result.{on_ok_weaker}
use Rattle.script_forms.specs.Flat.{nodes_of}
use Rattle.script_forms.specs.declared.node.Node.{Node}
use Rattle.spec_fiber.specs.Asks as asks
use Rattle.spec_parts.specs.Contexts.{is_full}
use Rattle.spec_parts.specs.Switches.{runs_handler, switch_at}
use Rattle.spec_machine.specs.Moves.{own_call}
use Rattle.spec_machine.specs.Steps.{halts}
use Rattle.spec_machine.specs.SwitchMoves.{fails_with}
use Rattle.domain_core.specs.contracts.domain.Domain.{the_view}
use Rattle.domain_core.specs.Answering.{MakesUnder, closes_on}
use Rattle.domain_core.specs.Keeping.{KeptDomain}
use Rattle.domain_core.specs.Mirrors.{Mirrors}
use Rattle.domain_core.proofs.Calling.{can_enter, enters_still}
use Rattle.domain_core.proofs.Composing.{makes_as, makes_after}
use Rattle.domain_core.proofs.Closes.{closes_full, closes_with_room, runs_alike, full_alike, has_room, strikes_still, handlers_still, closes_still}
use Rattle.domain_core.proofs.domain.Domain.close.Goals as goal
use Rattle.domain_core.proofs.domain.Domain.close.Goals.{else-handler_next-via-then-handler_next+else-is_full, else-handler_next-via-else-handler_next}

pub returns-then-is_full-clause-answers : goal.returns-then-is_full-clause-answers
returns-then-is_full-clause-answers c =
    makes_as (nodes_of c.args.script.now) (own_call c.args.script.now (asks.Close c.args.switch c.args.failed c.args.kept) c.args.fiber) (halts c.args.fiber) c.args.self.now c.halt.new.told c.halt.new.self
    (λ texts l mirrors. (
    let here : Mirrors (nodes_of c.args.script.now) texts (the_view c.self.inside) l = subst (λ (kept : KeptDomain). Mirrors (nodes_of c.args.script.now) texts kept l) (sym c.self.view_is) mirrors in
    closes_full c.args.script.now c.args.switch c.args.kept c.args.fiber c.args.failed l
    (c.if-handler_next.ensures ∙ runs_alike (nodes_of c.args.script.now) texts (the_view c.self.inside) l here c.args.switch)
    (c.if-is_full.ensures ∙ full_alike (nodes_of c.args.script.now) texts (the_view c.self.inside) l here)))
    (c.halt.ensures.makes (nodes_of c.args.script.now))

pub close_on-requires-clause-enters : goal.close_on-requires-clause-enters
close_on-requires-clause-enters c = (
    let nodes : List Node = nodes_of c.args.script.now in
    enters_still nodes c.args.self.now c.fails_with.new.self c.fails_with.ensures.leaves c.args.fiber
    (can_enter nodes c.args.self.now c.args.fiber c.requires.may.can c.requires.may.placed))

pub close_on-requires-clause-once : goal.close_on-requires-clause-once
close_on-requires-clause-once c = strikes_still c.args.self.now c.fails_with.new.self c.fails_with.ensures.leaves c.args.switch c.fails_with.ensures.once

pub close_on-requires-clause-may : goal.close_on-requires-clause-may
close_on-requires-clause-may c = closes_still c.args.self.now c.fails_with.new.self c.fails_with.ensures.leaves c.args.switch c.requires.may.met.0

pub close_on-requires-clause-handlers : goal.close_on-requires-clause-handlers
close_on-requires-clause-handlers c = handlers_still c.args.self.now c.fails_with.new.self c.fails_with.ensures.leaves c.args.switch c.args.script.now c.requires.may.met.1

pub returns-clause-answers : goal.returns-clause-answers
returns-clause-answers c = (
    let none : (false ≡ runs_handler (switch_at c.self.inside.switches c.args.switch)) ⊎ (false ≡ is_full c.self.inside.contexts.made)
    = elim c.else-handler_next.branch as (λ _. (false ≡ runs_handler (switch_at c.self.inside.switches c.args.switch)) ⊎ (false ≡ is_full c.self.inside.contexts.made)) [
      | else-handler_next-via-then-handler_next+else-is_full w ↦ inr w.if-is_full.ensures
      | else-handler_next-via-else-handler_next w ↦ inl w.if-handler_next.ensures
    ] in
    on_ok_weaker c.close_on.result
    (λ (makes : MakesUnder (nodes_of c.args.script.now) (closes_on c.args.script.now c.args.switch c.args.kept c.args.fiber) c.fails_with.new.self c.close_on.new.told c.close_on.new.self).
    makes_as (nodes_of c.args.script.now) (own_call c.args.script.now (asks.Close c.args.switch c.args.failed c.args.kept) c.args.fiber)
    (λ l. closes_on c.args.script.now c.args.switch c.args.kept c.args.fiber (fails_with c.args.fiber c.args.switch c.args.failed l))
    c.args.self.now c.close_on.new.told c.close_on.new.self
    (λ texts l mirrors. closes_with_room c.args.script.now c.args.switch c.args.kept c.args.fiber c.args.failed l
    (has_room (nodes_of c.args.script.now) texts (the_view c.self.inside) l (subst (λ (kept : KeptDomain). Mirrors (nodes_of c.args.script.now) texts kept l) (sym c.self.view_is) mirrors) c.args.switch none))
    (makes_after (nodes_of c.args.script.now) (fails_with c.args.fiber c.args.switch c.args.failed) (closes_on c.args.script.now c.args.switch c.args.kept c.args.fiber)
    c.args.self.now c.fails_with.new.self c.close_on.new.told c.close_on.new.self (c.fails_with.ensures.becomes (nodes_of c.args.script.now)) makes))
    c.close_on.ensures.makes)
