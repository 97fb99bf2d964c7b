-- The forms that a command refuses, each by the place of the first in reading order: the place of the form's list.
use Rattle.std.specs.Prelude.{ℕ, Bool, not, Option, option_map}
use Rattle.std.specs.List.{find}
use Rattle.spec_script.specs.Features.{Built, is_built}
use Rattle.spec_script.specs.Reads.{Formed}
use Rattle.spec_script.specs.Scripts.{Script}

abbrev pub first_form : (Formed → Bool) → Script → Option ℕ
first_form test script = option_map (λ it. it.at) (find test script.formed)

-- a form that is for the mocked domain alone
abbrev pub mock_only : Script → Option ℕ
mock_only = first_form (λ it. it.mocked)

-- a further body
abbrev pub domain_only : Script → Option ℕ
domain_only script = script.first_domain

-- a declaration, a statement or an expression that isn't built yet
abbrev pub unbuilt : Built → Script → Option ℕ
unbuilt built = first_form (λ it. not (is_built built it.feature))
