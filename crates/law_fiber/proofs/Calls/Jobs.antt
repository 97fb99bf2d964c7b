-- What a job is given, and how it begins.
use Rattle.std.proofs.Common.{refl}
use Rattle.eio_value.specs.declared.raised.Outcome.TheVariants as outcome
use Rattle.eio_value.specs.declared.value.Value.TheVariants as value
use Rattle.spec_fiber.specs.Replies.{begun}
use Rattle.spec_fiber.specs.Settling.{answered}
use Rattle.spec_fiber.specs.Silent.{items_of, statement}
use Rattle.spec_fiber.specs.Work.{restored}
use Rattle.law_fiber.specs.Calls.Alike.{Ends, Goes, Units, Oks}
use Rattle.law_fiber.specs.Calls.AlikeWork as works
use Rattle.law_fiber.specs.Calls.Laws.{GivesCaptured, CapturedAreGivenAlike, JobsGoByWhatIsGiven, JobsSeeCaptured}
use Rattle.law_fiber.proofs.Calls.Variables.{variables_of, as_long}
use Rattle.law_fiber.proofs.Calls.Statements.{given_alike, items_see}
use Rattle.law_fiber.proofs.Calls.Settling.{next_call_sees_scope}

gives_captured : GivesCaptured
unfolding statement
gives_captured executor weight captured job c = refl

captured_are_given_alike : CapturedAreGivenAlike
captured_are_given_alike captured c d all = given_alike c.variables d.variables captured all

-- the value that a statement begins with is dropped
jobs_go_by_what_is_given : JobsGoByWhatIsGiven
unfolding answered
jobs_go_by_what_is_given sight job given taken before past c d sees alike tables =
    next_call_sees_scope sight (outcome.Ok value.Unit) (outcome.Ok value.Unit) (begun job given).work (begun job taken).work
    (restored given c) (restored taken d)
    (Oks Units) (Goes (works.Runs (items_of job) (items_see sight job sees)) Ends)
    (record { tables = tables; variables = record { as_many = as_long alike; in_scope = λ slot sees. variables_of alike slot } })

pub jobs_see_captured : JobsSeeCaptured
jobs_see_captured = record { gives = gives_captured; given = captured_are_given_alike; job = jobs_go_by_what_is_given }
