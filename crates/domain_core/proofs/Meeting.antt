-- What is asked for the next call of a fiber is met, in the words of what is kept, where a domain that stands well has come to that call.
use Rattle.std.proofs.Common.{◌≡◌, ℕ, ◌<◌, true, false, List, [], ◌∷◌, length, refl, ap, subst, arith}
use Rattle.domain_core.specs.Conditions.{CanCall}
use Rattle.domain_core.specs.Keeping.{KeptDomain}
use Rattle.domain_core.specs.Mirrors.{Mirrors}
use Rattle.domain_core.specs.Moving.{IsMetBy, MayAnswer}
use Rattle.domain_core.proofs.MeetingCounts as counts
use Rattle.domain_core.proofs.MeetingCounts.{IsAtCall, at_call}
use Rattle.domain_core.proofs.MeetingScopes as scopes
use Rattle.law_domain.specs.Sound.BuiltForms.{IsBuiltCall}
use Rattle.law_domain.specs.Sound.Conditions.{IsMet}
use Rattle.law_domain.specs.Kinded.Laws.{WereMade}
use Rattle.fiber_step.specs.declared.ask.Ask.{Ask}
use Rattle.fiber_step.specs.declared.ask.Ask.TheVariants as ask
use Rattle.fiber_step.specs.Standing.{ask_of}
use Rattle.fiber_step.specs.Stepping.{HasBodiesOf}
use Rattle.spec_machine.specs.Domain.{DomainState}
use Rattle.spec_machine.specs.Preparing.{Calls, Prepared, prepared}
use Rattle.script_forms.specs.Flat.{nodes_of}
use Rattle.script_forms.specs.declared.node.Forking.{Forking}
use Rattle.script_forms.specs.declared.node.Forking.TheVariants as forking
use Rattle.spec_script.specs.Scripts.{Script}
use Rattle.spec_fiber.specs.Asks.{Ask as Called}
use Rattle.law_domain.specs.Well.WellStates.{CallsWell, IsRunnable, StandsWell}
use Rattle.law_domain.proofs.Well.Standing.{moves_call_well}

module _ (script : Script) {texts : List (List ℕ)} {l : DomainState} {g : ℕ} {others : List ℕ} {kept : KeptDomain} (at : IsAtCall (nodes_of script) texts l g others kept)
    (well : StandsWell script l) where
  -- its switch was made
  made_too : (n : ℕ) → n < length l.switches → n < length kept.switches
  made_too n below = omega (arith, below, counts.same_switches at)

  -- it is a daemon or it isn't: the other forks aren't built
  forks : (kind : Forking) (n body : ℕ) → IsBuiltCall (ask_of (nodes_of script) (ask.Fork kind n body)) → n < length l.switches → IsMetBy script g (ask.Fork kind n body) kept
  forks forking.Plain n body built made = (false, refl, made_too n made)
  forks forking.Daemon n body built made = (true, refl, made_too n made)
  forks (forking.Promising promise) n body built made = absurd built

  met : (call : Ask) → IsBuiltCall (ask_of (nodes_of script) call) → IsMet l g (ask_of (nodes_of script) call) → WereMade l (ask_of (nodes_of script) call) → IsMetBy script g call kept
  met (ask.Trace operands) built is made = tt
  met ask.Yield built is made = tt
  met ask.Check built is made = tt
  met ask.AwaitCancel built is made = (scopes.waits_not at, scopes.few_wait at)
  met ask.Turn built is made = tt
  met (ask.Sub body) built is made = tt
  met (ask.Protect body) built is made = tt
  met (ask.Cancel context text) built is made = tt
  met (ask.Switch body) built is made = tt
  met (ask.Fork kind n body) built is made = forks kind n body built made
  met (ask.Fail n text) built is made = made_too n made
  met (ask.OnRelease n handler) built is made = made_too n made
  met (ask.Branches group form) built is made = tt
  met (ask.Leave context late it) built is made = scopes.may_end at context is.live is.alone
  met (ask.Close n failed it) built is made = (scopes.may_close at n is, scopes.handlers_begin at script well.kinded n)
  met (ask.Join n own) built is made = scopes.may_join at n own is
  met (ask.End it) built is made = scopes.may_be_ended at is.1
  met call built is made = absurd built

  can_call : CanCall kept g
  can_call = record {
    awake = counts.awake at;
    live = counts.live at;
    owes = counts.owes_nothing at;
    room = counts.room at;
    most = counts.most at;
    parked = counts.parked at;
    contexts = scopes.live_contexts at;
    apart = scopes.apart at;
    few_contexts = counts.few_contexts at;
    few_switches = counts.few_switches at;
    few_groups = counts.few_groups at;
    few_fibers = counts.few_fibers at;
  }

  answers : (call : Ask) → IsBuiltCall (ask_of (nodes_of script) call) → IsMet l g (ask_of (nodes_of script) call) → WereMade l (ask_of (nodes_of script) call)
      → HasBodiesOf (nodes_of script) call → MayAnswer script g call kept
  answers call built is made bodies = record { can = can_call; placed = counts.placed at; bodies = bodies; met = met call built is made }

same_call : (doing : _) (g : ℕ) (one other : Called) → doing ≡ Calls g one → doing ≡ Calls g other → one ≡ other
same_call doing g one other here there = cc

-- the call is the one that the definitions come to
pub may_answer : (script : Script) (texts : List (List ℕ)) (l : DomainState) (g : ℕ) (others : List ℕ) (kept : KeptDomain) (call : Ask) → IsRunnable script → StandsWell script l
    → l.duties ≡ [] → l.ready ≡ g ∷ others → l.lines < 1000000 → (prepared l).doing ≡ Calls g (ask_of (nodes_of script) call)
    → Mirrors (nodes_of script) texts kept (prepared l).state → HasBodiesOf (nodes_of script) call → MayAnswer script g call kept
may_answer script texts l g others kept call runnable well none is few calls mirrors bodies = (
    let it : CallsWell script l g others = moves_call_well script l g others runnable well none is in
    let at : IsAtCall (nodes_of script) texts l g others kept = record {
      sound = well.sound;
      owes = none;
      ready = is;
      few = few;
      calls = it.calls;
      mirrors = subst (λ (p : Prepared). Mirrors (nodes_of script) texts kept p.state) it.calls.prepares mirrors;
    } in
    let same : it.calls.settled.call ≡ ask_of (nodes_of script) call =
    same_call (prepared l).doing g it.calls.settled.call (ask_of (nodes_of script) call) (ap (λ (p : Prepared). p.doing) it.calls.prepares) calls in
    answers script at well call
    (subst IsBuiltCall same it.calls.built)
    (subst (IsMet l g) same it.calls.met)
    (subst (WereMade l) same it.made)
    bodies)
