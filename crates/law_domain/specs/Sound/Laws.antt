-- Laws of the definitions of one domain: how its fibers' silent statements go, and that each move keeps what holds between two moves.
use Rattle.std.specs.Prelude.{◌≡◌, ◌≢◌, ℕ, ◌<◌, Bool, Some, true, false, List, [], ◌∷◌, ◌++◌, length}
use Rattle.std.specs.Prelude.{slice_get}
use Rattle.std.specs.Option.{unwrap_or}
use Rattle.eio_value.specs.declared.raised.Outcome.{Outcome}
use Rattle.spec_parts.specs.Contexts.{context_at, is_live}
use Rattle.spec_parts.specs.Switches.{switch_at}
use Rattle.spec_script.specs.Opening.{opening_texts}
use Rattle.spec_script.specs.Scripts.{Script}
use Rattle.spec_script.specs.Syntax.{Block, Begins, Done}
use Rattle.spec_fiber.specs.Replies.{passed}
use Rattle.spec_fiber.specs.Work.{Work, Carry}
use Rattle.spec_machine.specs.Domain.{OfGroup, DomainState, fiber_at, has_ended, most_fibers}
use Rattle.spec_machine.specs.Labels.{Inner}
use Rattle.spec_machine.specs.Mock.{opening_domain}
use Rattle.spec_machine.specs.Runs.{Noted, DomainMoves}
use Rattle.law_domain.specs.Sound.BuiltForms.{AreBuiltWork, HasBuiltForms, IsBuiltCall}
use Rattle.law_domain.specs.Sound.Scopes.{Entered, InSwitch, InGroup, ScopeAt, called_scope, context_in, is_end, scopes_in, scopes_of}
use Rattle.law_domain.specs.Sound.SoundStates.{IsSoundState, attached_to}

-- ## Silent statements

-- whatever came, the scopes of the work are that at whose end the next call is made, and those of the work behind it; and nothing is behind the end of the fiber.
-- So it is of all forms
abbrev pub ScopesSettle : Type 0
ScopesSettle = (came : Outcome) (work : List Work) (c : Carry)
    → (scopes_in work ≡ called_scope (passed came work c).call ++ scopes_in (passed came work c).behind)
    × (is_end (passed came work c).call ≡ true → (passed came work c).behind ≡ [])

-- work of the built forms comes to a call of theirs
abbrev pub BuiltSettle : Type 0
BuiltSettle = (came : Outcome) (work : List Work) (c : Carry) → AreBuiltWork work → IsBuiltCall (passed came work c).call × AreBuiltWork (passed came work c).behind

-- ## States

-- the body of a domain, by its number among those of the script
abbrev pub body_of : Script → (number : ℕ) → Block
body_of script number = unwrap_or (slice_get script.bodies number) (Begins 0 Done)

abbrev pub OpensSound : Type 0
OpensSound = (script : Script) (body : ℕ) → HasBuiltForms script → body < length script.bodies → IsSoundState (opening_domain body (opening_texts script) (body_of script body))

-- a domain that isn't halted is sound, and so is what it is after a move, unless that halts it. No message comes to such a domain
abbrev pub KeepsSound : Type 0
KeepsSound = (script : Script) (l k : DomainState) (x : Noted) → HasBuiltForms script → IsSoundState l → x.label ≡ Inner → DomainMoves script l x k
    → k.halted ≡ false → IsSoundState k

-- ## What follows

-- nothing is behind a scope that a fiber goes out of: it is the innermost one of the fiber, and nobody is attached to it if it is a switch, and no branch is left of
-- it if it is a group
pub record IsLast (l : DomainState) (scope : Entered) (g : ℕ) : Type 0 where
  pub innermost : ScopeAt (scopes_of l) l scope g 0
  pub nobody : (n : ℕ) → scope ≡ InSwitch n → (daemon : Bool) → attached_to daemon (switch_at l.switches n) ≡ []
  pub no_branch : (n : ℕ) (own : Bool) (h : ℕ) → scope ≡ InGroup n own → (fiber_at l.fibers h).role ≡ OfGroup n → has_ended (fiber_at l.fibers h) ≡ false → ⊥

-- then no live context lies in its context, and no other fiber runs there
abbrev pub ScopesEndAlone : Type 0
ScopesEndAlone = (l : DomainState) (scope : Entered) (g : ℕ) → IsSoundState l → IsLast l scope g
    → ((x : ℕ) → is_live l.contexts x ≡ true → (context_at l.contexts x).parent ≢ Some (context_in l scope))
    × ((h : ℕ) → has_ended (fiber_at l.fibers h) ≡ false → (fiber_at l.fibers h).context ≡ context_in l scope → h ≡ g)

-- and so it is of the first context, once the body is in no scope
abbrev pub BodyEndsAlone : Type 0
BodyEndsAlone = (l : DomainState) → IsSoundState l → scopes_of l 0 ≡ []
    → ((x : ℕ) → is_live l.contexts x ≡ true → (context_at l.contexts x).parent ≢ Some 0)
    × ((h : ℕ) → has_ended (fiber_at l.fibers h) ≡ false → (fiber_at l.fibers h).context ≡ 0 → h ≡ 0)

-- a fiber runs in a live context, as long as it hasn't ended
abbrev pub FibersRunInLive : Type 0
FibersRunInLive = (l : DomainState) (g : ℕ) → IsSoundState l → has_ended (fiber_at l.fibers g) ≡ false → is_live l.contexts (fiber_at l.fibers g).context ≡ true

-- behind the head of the ready list there is room for one more
abbrev pub HasRoomBehind : Type 0
HasRoomBehind = (l : DomainState) (g : ℕ) (others : List ℕ) → IsSoundState l → l.ready ≡ g ∷ others → length others < most_fibers
