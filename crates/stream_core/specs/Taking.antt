-- What a taken item answers.
use Rattle.std.specs.Prelude.{Option, Some, None}
use Rattle.eio_value.specs.declared.call.Answer.{Answer}
use Rattle.eio_value.specs.declared.call.Answer.TheVariants as answer
use Rattle.eio_value.specs.declared.value.Value.{Value}

abbrev pub taken_answer : Option Value → Answer
taken_answer None = answer.Nothing
taken_answer (Some item) = answer.Done item
