use Rattle.std.proofs.lemmas.Result.{on_ok_weaker}
use Rattle.domain_core.proofs.Moving.{may, moves, texts_stay}
use Rattle.domain_core.proofs.domain.Domain.move_of.Goals as goal

pub answer-requires : goal.answer-requires
answer-requires c = record {
  may = may c.args.script.now c.requires.runnable c.args.texts.now _ c.args.self.now c.args.fiber c.requires.owes c.requires.going c.requires.few c.requires.stands.0
      c.requires.stands.1 _ _ (c.in-Ok.ensures.calls c.requires.stands.0 c.requires.stands.1) c.in-Ok.ensures.bodies;
}

pub returns-in-Ok-clause-moves : goal.returns-in-Ok-clause-moves
returns-in-Ok-clause-moves c = on_ok_weaker c.answer.result
    (λ answers l stands.
    moves c.args.script.now c.requires.runnable c.args.texts.now c.next_call.new.texts c.args.self.now c.args.fiber c.requires.owes c.requires.going c.requires.few l stands
    _ _ (c.in-Ok.ensures.calls l stands) c.answer.new.told c.answer.new.self answers)
    c.answer.ensures.answers

pub returns-in-Ok-clause-texts : goal.returns-in-Ok-clause-texts
returns-in-Ok-clause-texts c = on_ok_weaker c.answer.result
    (λ same.
    texts_stay c.args.script.now c.requires.runnable c.args.texts.now c.next_call.new.texts c.args.self.now c.args.fiber c.requires.owes c.requires.going c.requires.few
    c.requires.stands.0 c.requires.stands.1 _ _ (c.in-Ok.ensures.calls c.requires.stands.0 c.requires.stands.1))
    c.answer.ensures.same
