-- From what `clap` promises of a parse to the words behind `mock`.
use Rattle.std.proofs.Common.{◌≡◌, List, [], true, Option, codes, refl, ap, sym, subst, ◌∙◌}
use Rattle.std.specs.Prelude.{◌⊎◌}
use Rattle.clap.proofs.WalkLemmas.{first_value-rows}
use Rattle.clap.specs.Kinds.{HasKind}
use Rattle.clap.specs.Matches.{first_value, found_of}
use Rattle.clap.specs.Simple.{App, HasMatchesOf, with_rule}
use Rattle.clap.specs.Values.{kind_of}
use Rattle.clap.specs.Walk.{Rule, Text, first_of}
use Rattle.clap.specs.Words.{IsAmong, fault_of, is_simple_and_free}
use Rattle.clap.specs.declared.error.Error.{Error}
use Rattle.clap.specs.declared.error.kind.ErrorKind.{ErrorKind}
use Rattle.clap.specs.declared.error.kind.ErrorKind.TheVariants as kind
use Rattle.clap.specs.declared.parser.matches.ArgMatches.{ArgMatches}
use Rattle.eio_run.specs.Behind.{behind_app}
use Rattle.eio_run.specs.Steps.{mock_app, steps_rule, text_in}

-- the command with its option
pub app_is : (app before : App) (rule : Rule) → before ≡ behind_app → rule ≡ steps_rule → app ≡ with_rule before rule → app ≡ mock_app
app_is app before rule start option is = is ∙ (ap (λ a. with_rule a rule) start ∙ ap (with_rule behind_app) option)

pub passes : (app : App) (words : List Text) → app ≡ mock_app → (is_simple_and_free app ≡ true → fault_of app words ≡ []) → fault_of mock_app words ≡ []
passes app words is taken =
    let here = subst (λ (a : App). is_simple_and_free a ≡ true → fault_of a words ≡ []) is taken in
    here refl

pub text_is : (app : App) (words : List Text) (m : ArgMatches) (text : Option Text) → app ≡ mock_app → HasMatchesOf app words m → text ≡ first_value (found_of m) (codes "steps") → text ≡ text_in words
text_is app words m text is rows value =
    let here = subst (λ (a : App). HasMatchesOf a words m) is rows in
    value ∙ (first_value-rows (found_of m) (codes "steps") ∙ ap (first_of (codes "steps")) (here refl).0)

pub fails : (app : App) (words : List Text) (e : Error) (refusal : ErrorKind) → app ≡ mock_app → (is_simple_and_free app ≡ true → HasKind (fault_of app words) e) → refusal ≡ kind_of e → (refusal ≡ kind.OutOfMemory) ⊎ IsAmong refusal (fault_of mock_app words)
fails app words e refusal is refused same =
    let here = subst (λ (a : App). is_simple_and_free a ≡ true → HasKind (fault_of a words) e) is refused in
    subst (λ (k : ErrorKind). (k ≡ kind.OutOfMemory) ⊎ IsAmong k (fault_of mock_app words)) (sym same) (here refl)
