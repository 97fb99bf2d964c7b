-- Laws of the definitions of one domain on what its fibers' variables hold.
use Rattle.std.specs.Prelude.{◌≡◌, ℕ, ◌<◌, List, ◌∷◌, All, length}
use Rattle.std.specs.List.{flat_map}
use Rattle.spec_script.specs.Opening.{opening_texts}
use Rattle.spec_script.specs.Scripts.{Script}
use Rattle.law_script.specs.Scripts.Soundness.{IsSound}
use Rattle.spec_fiber.specs.Asks as ask
use Rattle.spec_fiber.specs.Asks.{Ask}
use Rattle.spec_fiber.specs.Numbered.{blocks_from}
use Rattle.spec_machine.specs.Domain.{DomainState, fiber_at, off_for}
use Rattle.spec_machine.specs.Labels.{Inner}
use Rattle.spec_machine.specs.Mock.{opening_domain}
use Rattle.spec_machine.specs.Preparing.{next_call, carry_of, next_of}
use Rattle.spec_machine.specs.Runs.{Noted, DomainMoves}
use Rattle.law_fiber.specs.Kinded.Kinds.{IsOfScript, HasKindsOfSettled}
use Rattle.law_domain.specs.Sound.BuiltForms.{HasBuiltForms}
use Rattle.law_domain.specs.Sound.Conditions.{Calls}
use Rattle.law_domain.specs.Sound.Laws.{body_of}
use Rattle.law_domain.specs.Sound.SoundStates.{IsSoundState}
use Rattle.law_domain.specs.Kinded.KindedStates.{IsKinded, made_facts}

-- a domain that has just started, where each block of the script is the one of its number
abbrev pub OpensKinded : Type 0
OpensKinded = (script : Script) (body : ℕ) → IsSound script → All (IsOfScript script) (flat_map blocks_from script.bodies) → body < length script.bodies
    → IsKinded script (opening_domain body (opening_texts script) (body_of script body))

-- and so it stays
abbrev pub KeepsKinded : Type 0
KeepsKinded = (script : Script) (l k : DomainState) (x : Noted) → HasBuiltForms script → IsSoundState l → IsKinded script l → x.label ≡ Inner → DomainMoves script l x k
    → IsKinded script k

-- the next call of the fiber at the head of the ready list names what was made
abbrev pub CallsKinded : Type 0
CallsKinded = (script : Script) (l : DomainState) (g : ℕ) (others : List ℕ) → IsSoundState l → IsKinded script l → l.ready ≡ g ∷ others
    → HasKindsOfSettled (made_facts script (length l.switches) (length l.contexts))
    (next_call (next_of (fiber_at l.fibers g).standing) (off_for l g) (fiber_at l.fibers g) (carry_of (fiber_at l.fibers g) l))

-- what a call names by a slot was made: a switch, or a context
abbrev pub WereMade : DomainState → Ask → Type 0
WereMade l (ask.Cancel context text) = context < length l.contexts
WereMade l (ask.Fork forking switch body) = switch < length l.switches
WereMade l (ask.Fail switch text) = switch < length l.switches
WereMade l (ask.OnRelease switch handler) = switch < length l.switches
WereMade l call = Unit {0}

-- so it is of the call that a sound domain makes next
abbrev pub NamedWereMade : Type 0
NamedWereMade = (script : Script) (l : DomainState) (g : ℕ) (others : List ℕ) → IsKinded script l → (it : Calls l g others)
    → WereMade l it.settled.call
