use Rattle.script_forms.specs.Flat.{nodes_of}
use Rattle.domain_core.proofs.Awake.{awake_inside}
use Rattle.domain_core.proofs.Entering.{entered_awake, enters_becomes}
use Rattle.domain_core.proofs.domain.Domain.enter.Goals as goal

pub to_head-requires-clause-awake : goal.to_head-requires-clause-awake
to_head-requires-clause-awake c =
    entered_awake _ c.args.self.now c.self.view_is c.args.fiber (awake_inside _ c.args.self.now c.self.view_is c.args.fiber c.requires.awake) c.args.context c.go_to.new.self c.go_to.ensures
    (nodes_of c.args.script.now) c.args.ask.now c.args.number c.enter.new.self c.in_ok-enter.ensures

pub returns-clause-becomes : goal.returns-clause-becomes
returns-clause-becomes c texts l mirrors =
    c.to_head.ensures.becomes (nodes_of c.args.script.now) texts _
    (enters_becomes _ c.args.self.now c.self.view_is c.args.fiber (awake_inside _ c.args.self.now c.self.view_is c.args.fiber c.requires.awake) c.args.context c.go_to.new.self c.go_to.ensures
    (nodes_of c.args.script.now) c.args.ask.now c.args.number c.enter.new.self c.in_ok-enter.ensures texts l mirrors)
