-- All that is known of a domain between two moves, as far as a script of the built forms leads: it is sound, its variables name what was made, and the texts of all
-- that stands in it are in its table. It holds at the opening and is kept by each move of the domain's own that doesn't halt it.
use Rattle.std.specs.Prelude.{◌≡◌, ℕ, ◌<◌, false, List, [], ◌∷◌, All, length}
use Rattle.std.specs.List.{flat_map}
use Rattle.spec_script.specs.Opening.{opening_texts}
use Rattle.spec_script.specs.Scripts.{Script}
use Rattle.law_script.specs.Scripts.Soundness.{IsSound}
use Rattle.spec_fiber.specs.Numbered.{blocks_from}
use Rattle.spec_machine.specs.Domain.{DomainState}
use Rattle.spec_machine.specs.Labels.{Inner}
use Rattle.spec_machine.specs.Mock.{opening_domain}
use Rattle.spec_machine.specs.Runs.{Noted, DomainMoves}
use Rattle.law_fiber.specs.Kinded.Kinds.{IsOfScript, HasKindsOfSettled}
use Rattle.law_domain.specs.Texts.Domains.{IsTexted}
use Rattle.law_domain.specs.Texts.DomainLaws.{MovesTexted, PreparesTexted}
use Rattle.law_fiber.specs.Texts.Laws.{HasItsTexts}
use Rattle.law_domain.specs.Sound.BuiltForms.{HasBuiltForms}
use Rattle.law_domain.specs.Sound.Conditions.{Calls}
use Rattle.law_domain.specs.Sound.Laws.{body_of}
use Rattle.law_domain.specs.Sound.SoundStates.{IsSoundState}
use Rattle.law_domain.specs.Kinded.KindedStates.{IsKinded, made_facts}
use Rattle.law_domain.specs.Kinded.Laws.{WereMade}

-- ## Scripts

-- what is asked of a script: it is sound, has the built forms alone, each of its blocks is the one of its number, and the texts that it names stand in its table
pub record IsRunnable (script : Script) : Type 0 where
  pub sound : IsSound script
  pub forms : HasBuiltForms script
  pub blocks : All (IsOfScript script) (flat_map blocks_from script.bodies)
  pub texts : HasItsTexts script

-- ## Domains

pub record StandsWell (script : Script) (l : DomainState) : Type 0 where
  pub sound : IsSoundState l
  pub kinded : IsKinded script l
  pub texted : IsTexted script l

abbrev pub OpensWell : Type 0
OpensWell = (script : Script) (body : ℕ) → IsRunnable script → body < length script.bodies
    → StandsWell script (opening_domain body (opening_texts script) (body_of script body))

abbrev pub KeepsWell : Type 0
KeepsWell = (script : Script) (l k : DomainState) (x : Noted) → IsRunnable script → StandsWell script l → x.label ≡ Inner → DomainMoves script l x k
    → k.halted ≡ false → StandsWell script k

-- ## Calls

-- what is so when the fiber at the head of the ready list calls
pub record CallsWell (script : Script) (l : DomainState) (g : ℕ) (others : List ℕ) : Type 0 where
  pub calls : Calls l g others
  pub kinds : HasKindsOfSettled (made_facts script (length l.switches) (length l.contexts)) calls.settled
  pub made : WereMade l calls.settled.call
  pub texts : PreparesTexted script l

abbrev pub MovesCallWell : Type 0
MovesCallWell = (script : Script) (l : DomainState) (g : ℕ) (others : List ℕ) → IsRunnable script → StandsWell script l → l.duties ≡ [] → l.ready ≡ g ∷ others
    → CallsWell script l g others

-- what a move tells is known, and the table of texts stays as it is
abbrev pub MovesTellKnown : Type 0
MovesTellKnown = (script : Script) (l k : DomainState) (x : Noted) → IsRunnable script → StandsWell script l → x.label ≡ Inner → DomainMoves script l x k
    → MovesTexted script l x k
