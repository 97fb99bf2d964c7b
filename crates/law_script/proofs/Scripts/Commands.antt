-- The scripts that `mock` and `domains` run.
use Rattle.std.proofs.Common.{◌≡◌, ℕ, length, Option, Some, None, Ok, refl, subst}
use Rattle.spec_script.specs.Inputs.{input_script, unless_at, mocked_script, shared_script}
use Rattle.spec_script.specs.RefusedForms.{mock_only, domain_only, unbuilt}
use Rattle.spec_script.specs.Refusals.{Refusal, MockOnly, DomainOnly, Unbuilt}
use Rattle.spec_script.specs.Results.{◌>>=◌}
use Rattle.spec_script.specs.Scripts.{Script}
use Rattle.law_script.proofs.Trees.Steps.{same_Ok, err-ok, both_gave}
use Rattle.law_script.specs.Scripts.Readings.{MockedScriptsAreSound, DomainScriptsAreShared}
use Rattle.law_script.specs.Scripts.Sharing.{IsShared}
use Rattle.law_script.specs.Scripts.Soundness.{IsSound}
use Rattle.law_script.proofs.Scripts.Scripts.{script_is_read, input_is_sound}
use Rattle.law_script.proofs.Scripts.SharedScripts.{shared_scripts}

-- what isn't refused at any place is the script itself
unless_is : (refusal : ℕ → Refusal) (at : Option ℕ) (script found : Script) → unless_at refusal at script ≡ Ok found → (at ≡ None) × (script ≡ found)
unless_is refusal None script found e = (refl, same_Ok script found e)
unless_is refusal (Some at) script found e = absurd (err-ok _ _ e)

abbrev HasOneBody : Script → Type 0
HasOneBody script = IsSound script × (length script.bodies ≡ 1)

pub mocked_is_sound : MockedScriptsAreSound
unfolding mocked_script
mocked_is_sound built bytes script e =
    let read = both_gave (input_script bytes) (λ script. unless_at DomainOnly (domain_only script) script >>= λ one. unless_at Unbuilt (unbuilt built one) one) script e in
    let rest = both_gave (unless_at DomainOnly (domain_only read.0) read.0) (λ one. unless_at Unbuilt (unbuilt built one) one) script read.2 in
    let whole = unless_is DomainOnly (domain_only read.0) read.0 rest.0 rest.1 in
    let plain = unless_is Unbuilt (unbuilt built rest.0) rest.0 script rest.2 in
    let sound = input_is_sound bytes read.0 read.1 in
    let both : IsSound read.0 × (length read.0.bodies ≡ 1) = (sound, sound.main_alone whole.0) in
    subst HasOneBody plain.1 (subst HasOneBody whole.1 both)

pub domains_are_shared : DomainScriptsAreShared
unfolding shared_script
domains_are_shared built bytes script e =
    let read = both_gave (input_script bytes) (λ script. unless_at MockOnly (mock_only script) script >>= λ plain. unless_at Unbuilt (unbuilt built plain) plain) script e in
    let rest = both_gave (unless_at MockOnly (mock_only read.0) read.0) (λ plain. unless_at Unbuilt (unbuilt built plain) plain) script read.2 in
    let whole = unless_is MockOnly (mock_only read.0) read.0 rest.0 rest.1 in
    let plain = unless_is Unbuilt (unbuilt built rest.0) rest.0 script rest.2 in
    let own = script_is_read bytes read.0 read.1 in
    let both : IsSound read.0 × IsShared read.0 = (input_is_sound bytes read.0 read.1, shared_scripts own.0 read.0 own.2 whole.0) in
    subst (λ (s : Script). IsSound s × IsShared s) plain.1 (subst (λ (s : Script). IsSound s × IsShared s) whole.1 both)
