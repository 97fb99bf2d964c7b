-- What a domain does next between two moves: what it owes, or the call of the fiber at the head of its ready list.
use Rattle.std.proofs.Common.{◌≡◌, ℕ, true, false, List, [], ◌∷◌, ◌++◌, length, Option, Some, None, refl, ap, ◌∙◌, sym, subst, true≢false}
use Rattle.std.specs.List.{Contains}
use Rattle.std.specs.Option.{unwrap_or}
use Rattle.eio_value.specs.declared.plain.Plain.{Plain as PlainException}
use Rattle.eio_value.specs.declared.plain.Plain.TheVariants.{Exit}
use Rattle.eio_value.specs.declared.raised.Outcome.{Outcome}
use Rattle.eio_value.specs.declared.raised.Outcome.TheVariants as outcome
use Rattle.eio_value.specs.declared.raised.Raised.TheVariants.{Cancelled}
use Rattle.eio_value.specs.declared.value.Value.TheVariants as value
use Rattle.spec_fiber.specs.Asks as ask
use Rattle.spec_fiber.specs.Asks.{Ask}
use Rattle.spec_fiber.specs.Replies.{passed}
use Rattle.spec_fiber.specs.Settling.{Settled}
use Rattle.spec_fiber.specs.Work as work
use Rattle.spec_fiber.specs.Work.{Work, Carry}
use Rattle.spec_machine.specs.Domain.{Role, OfBody, OfSwitch, OfGroup, Next, GoesOn, LooksUp, FindsOff, CallsAgain, Ready, Duty, Fiber, DomainState, fiber_at, has_ended, off_for}
use Rattle.spec_machine.specs.Preparing.{Prepared, Owes, at_once, next_call, called_by, carry_of, moves_of, moves, next_of, prepared_ready, prepared_timers, prepared}
use Rattle.law_domain.specs.Sound.BuiltForms.{IsBuiltCall}
use Rattle.law_domain.specs.Sound.Scopes.{called_scope, is_end, scope_held, scopes_in, scopes_of}
use Rattle.law_domain.specs.Sound.SoundStates.{IsBuiltNext, IsBuiltRole, IsBuiltStanding, IsSoundPosition, IsSoundState}
use Rattle.law_domain.proofs.Sound.BuiltSettle.{built_settle}
use Rattle.law_domain.proofs.Sound.Lists.{contains_first}
use Rattle.law_domain.proofs.Sound.Midst.{is_ready_lives}
use Rattle.law_domain.proofs.Sound.ScopesSettle.{scopes_settle}

-- ## The call

-- what a fiber calls, and what is left to it
pub record CallsBuilt (l : DomainState) (g : ℕ) (settled : Settled) : Type 0 where
  pub sees : scopes_of l g ≡ called_scope settled.call ++ scopes_in settled.behind
  pub built : IsBuiltCall settled.call
  pub position : IsSoundPosition (length l.switches) (length l.contexts) settled.behind settled.carry.variables
  pub bare : is_end settled.call ≡ true → settled.behind ≡ []

module _ (l : DomainState) (sound : IsSoundState l) (g : ℕ) (lives : has_ended (fiber_at l.fibers g) ≡ false) where
  settled_by : (came : Outcome) (c : Carry) → scope_held (fiber_at l.fibers g).standing ≡ [] → CallsBuilt l g (passed came (fiber_at l.fibers g).work c)
  settled_by came c quiet = (
      let scopes = scopes_settle came (fiber_at l.fibers g).work c in
      let forms = built_settle came (fiber_at l.fibers g).work c ((sound.fibers g).position lives) in
      record {
        sees = ap (λ xs. xs ++ scopes_in (fiber_at l.fibers g).work) quiet ∙ scopes.0;
        built = forms.0;
        position = forms.1;
        bare = scopes.1;
      })

  pub calls_by : (next : Next) (why : Option PlainException) → IsBuiltNext next → (fiber_at l.fibers g).standing ≡ Ready next
      → CallsBuilt l g (next_call next why (fiber_at l.fibers g) (carry_of (fiber_at l.fibers g) l))
  calls_by (GoesOn it) why may is = settled_by it (carry_of (fiber_at l.fibers g) l) (ap scope_held is)
  calls_by LooksUp (Some why) may is = settled_by (outcome.Err (Cancelled (work.member why (carry_of (fiber_at l.fibers g) l)))) _ (ap scope_held is)
  calls_by LooksUp None may is = settled_by (outcome.Ok value.Unit) (carry_of (fiber_at l.fibers g) l) (ap scope_held is)
  calls_by FindsOff why may is = settled_by (outcome.Err (Cancelled (work.member (unwrap_or why Exit) (carry_of (fiber_at l.fibers g) l)))) _ (ap scope_held is)
  calls_by (CallsAgain (ask.Close n None kept)) why may is = record {
    sees = ap (λ s. scope_held s ++ scopes_in (fiber_at l.fibers g).work) is;
    built = tt;
    position = (sound.fibers g).position lives;
    bare = λ e. absurd (true≢false (sym e));
  }
  calls_by (CallsAgain (ask.Join n None)) why may is = record {
    sees = ap (λ s. scope_held s ++ scopes_in (fiber_at l.fibers g).work) is;
    built = tt;
    position = (sound.fibers g).position lives;
    bare = λ e. absurd (true≢false (sym e));
  }
  calls_by (CallsAgain call) why may is = absurd may

-- ## What is prepared

role_calls : (g : ℕ) (role : Role) → IsBuiltRole g role → (fiber : Fiber) (next : Next) (l : DomainState)
    → moves_of role g fiber next l ≡ called_by g fiber (next_call next (off_for l g) fiber (carry_of fiber l)) l
role_calls g OfBody is fiber next l = refl
role_calls g (OfSwitch switch daemon) is fiber next l = refl
role_calls g (OfGroup group) is fiber next l = refl
role_calls g role is fiber next l = absurd is

abbrev pub by_duties : DomainState → List Duty → Prepared
by_duties l duties = elim duties [ [] ↦ prepared_ready l | duty ∷ others ↦ at_once (Owes duty) (record l { duties = others }) ]

abbrev pub by_ready : DomainState → List ℕ → Prepared
by_ready l numbers = elim numbers [ [] ↦ prepared_timers l | g ∷ others ↦ moves g (fiber_at l.fibers g) (record l { ready = others }) ]

-- the call of the head of the ready list, up to which its silent statements were run
pub record PreparesCall (l : DomainState) (g : ℕ) (others : List ℕ) : Type 0 where
  pub next : Next
  pub stands : (fiber_at l.fibers g).standing ≡ Ready next
  pub may : IsBuiltNext next
  pub settled : Settled
  pub settles : settled ≡ next_call next (off_for l g) (fiber_at l.fibers g) (carry_of (fiber_at l.fibers g) l)
  pub lives : has_ended (fiber_at l.fibers g) ≡ false
  pub calls : CallsBuilt l g settled
  pub prepares : prepared l ≡ called_by g (fiber_at l.fibers g) settled (record l { ready = others })

pub prepares_call : (l : DomainState) → IsSoundState l → (g : ℕ) (others : List ℕ) → l.duties ≡ [] → l.ready ≡ g ∷ others → PreparesCall l g others
unfolding prepared
prepares_call l sound g others none is = (
    let ready : (next : Next) × ((fiber_at l.fibers g).standing ≡ Ready next) = sound.ready g (subst (λ xs. Contains xs g) (sym is) (contains_first g others)) in
    let lives : has_ended (fiber_at l.fibers g) ≡ false = is_ready_lives (fiber_at l.fibers g) ready.0 ready.1 in
    let may : IsBuiltNext ready.0 = subst IsBuiltStanding ready.1 (sound.fibers g).stand in
    let left : DomainState = record l { ready = others } in
    let fiber : Fiber = fiber_at l.fibers g in
    record {
      next = ready.0;
      stands = ready.1;
      may = may;
      settled = next_call ready.0 (off_for l g) fiber (carry_of fiber l);
      settles = refl;
      lives = lives;
      calls = calls_by l sound g lives ready.0 (off_for l g) may ready.1;
      prepares =
          ap (by_duties l) none
          ∙ (ap (by_ready l) is
          ∙ (ap (λ n. moves_of fiber.role g fiber n left) (ap next_of ready.1) ∙ role_calls g fiber.role ((sound.fibers g).role lives) fiber ready.0 left));
    })
