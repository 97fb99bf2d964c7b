-- Runs of scripts that both commands run.
use Rattle.std.proofs.Common.{ℕ, length, subst}
use Rattle.spec_script.specs.Scripts.{Script}
use Rattle.spec_machine.specs.Mock.{opening}
use Rattle.spec_machine.specs.Trace.{run}
use Rattle.law_history.proofs.Legal.Rows.{length_mapped}
use Rattle.law_script.specs.Scripts.Sharing.{IsShared}
use Rattle.law_script.specs.Scripts.Soundness.{kind_of, kinds_of, in_body, IsSound}
use Rattle.law_script.proofs.Scripts.Commands.{mocked_is_sound, domains_are_shared}
use Rattle.law_history.specs.Waits.Mocked.{IsHistory}
use Rattle.law_history.proofs.Waits.Histories.{mock_runs_are_legal}
use Rattle.law_history.specs.Both.Both.{IsOfDomain, RunsOfBothAreOfDomains, MockRunsOfBothAreLegal}
use Rattle.law_history.proofs.Both.Plain.{ArePlain}
use Rattle.law_history.proofs.Both.Runs.{bodies_plain, blocks_are, opens_plain, moves_plain}

-- a sound and shared script is plain
script_plain : (script : Script) → IsSound script → IsShared script → ArePlain (length script.declarations) script.bodies
script_plain script sound shared =
    subst (λ (objects : ℕ). ArePlain objects script.bodies) (length_mapped kind_of script.declarations) (bodies_plain (in_body (kinds_of script.declarations)) script.bodies sound.bodies shared.bodies)

plain_runs : (script : Script) → ArePlain (length script.declarations) script.bodies → (n : ℕ) → IsOfDomain script n
unfolding run
plain_runs script plain n =
    let all = moves_plain (length script.declarations) script (blocks_are (length script.declarations) script plain) n (opening script) (opens_plain (length script.declarations) script plain) in
    record { asks = all.0; untimed = all.1.0.2 }

pub runs_of_both : RunsOfBothAreOfDomains
runs_of_both built bytes script n mocked shared = (let is = domains_are_shared built bytes script shared in plain_runs script (script_plain script is.0 is.1) n)

pub mock_runs_of_both : MockRunsOfBothAreLegal
mock_runs_of_both built bytes script n below mocked shared =
    let is : IsOfDomain script n = runs_of_both built bytes script n mocked shared in
    let history : IsHistory script (run script n) = mock_runs_are_legal script n below (mocked_is_sound built bytes script mocked).1 is.asks in
    record { history = history; ending = history.ending is.untimed }
