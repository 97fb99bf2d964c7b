-- A worked domain, so that the premises of the laws can be met: `(eio 1 (main (switch s (fork s (yield)))))` at first, and when its switch is open.
use Rattle.std.proofs.Common.{◌≡◌, ℕ, ◌<◌, Bool, true, false, List, [], ◌∷◌, ◌++◌, slice_get, None, refl, ap, subst, arith}
use Rattle.std.proofs.lemmas.List.Elements.{All-from_recursion}
use Rattle.eio_value.specs.declared.raised.Outcome.TheVariants as outcome
use Rattle.eio_value.specs.declared.value.Value.TheVariants as value
use Rattle.spec_parts.specs.Contexts.{is_live, way_within}
use Rattle.spec_parts.specs.Switches.{switch_at}
use Rattle.spec_script.specs.Opening.{opening_texts}
use Rattle.spec_script.specs.Scripts.{Script}
use Rattle.spec_script.specs.Syntax.{Yield, Switch, Fork, Plain, Block, Begins, Done, Then}
use Rattle.spec_fiber.specs.Evaluation.{value_of, values_of}
use Rattle.spec_fiber.specs.Replies.{passed}
use Rattle.spec_fiber.specs.Settling.{Settled, answered}
use Rattle.spec_fiber.specs.Silent.{statement}
use Rattle.spec_fiber.specs.Work.{Work, Carry}
use Rattle.trace_lines.specs.declared.line.Did.TheVariants as did
use Rattle.trace_lines.specs.declared.line.Said2.TheVariants as said
use Rattle.spec_machine.specs.Domain.{DomainState, fiber_at, has_ended, most_fibers}
use Rattle.spec_machine.specs.Labels.{Inner}
use Rattle.spec_machine.specs.Mock.{opening_domain}
use Rattle.spec_machine.specs.Moves.{asks, own_call, after, line_of}
use Rattle.spec_machine.specs.Preparing.{prepared, carry_of}
use Rattle.spec_machine.specs.Runs.{Noted, DomainMoves}
use Rattle.spec_machine.specs.Steps.{waiting_from}
use Rattle.law_domain.specs.Sound.BuiltForms.{IsBuilt, IsBuiltBlock, AreBuilt, HasBuiltForms, AreBuiltWork, IsBuiltCall}
use Rattle.law_domain.specs.Sound.Conditions.{Calls, HasSoundSwitches}
use Rattle.law_domain.specs.Sound.Laws.{body_of, IsLast}
use Rattle.law_domain.specs.Sound.Scopes.{Entered, InSwitch, InGroup, called_scope, context_in, is_end, scopes_in, scopes_of}
use Rattle.law_domain.specs.Sound.SoundStates.{IsSoundState, attached_to}
use Rattle.law_domain.proofs.Sound.BuiltSettle.{built_settle}
use Rattle.law_domain.proofs.Sound.Conditions.{moves_may_call, switches_are_sound}
use Rattle.law_domain.proofs.Sound.EndingAlone.{body_ends_alone, fibers_run_in_live, has_room_behind, scopes_end_alone}
use Rattle.law_domain.proofs.Sound.Keeping.{keeps_sound}
use Rattle.law_domain.proofs.Sound.Opening.{opens_sound}
use Rattle.law_domain.proofs.Sound.ScopesSettle.{scopes_settle}

-- ## The script

abbrev pub forked : Block
forked = Begins 2 (Then Yield Done)

abbrev pub inner : Block
inner = Begins 1 (Then (Fork Plain 0 forked) Done)

abbrev pub main : Block
main = Begins 0 (Then (Switch inner) Done)

abbrev pub script : Script
script = record { version = 1; names = []; declarations = []; bodies = main ∷ []; texts = []; failures = []; formed = []; first_domain = None }

pub has_built_forms : HasBuiltForms script
unfolding IsBuilt IsBuiltBlock AreBuilt
has_built_forms = All-from_recursion IsBuiltBlock script.bodies ((((tt, tt), tt), tt), tt)

-- ## Its first move

abbrev pub at_first : DomainState
at_first = opening_domain 0 (opening_texts script) (body_of script 0)

-- when the switch is open
abbrev pub opened : DomainState
opened = after script at_first 1 Inner

abbrev pub opens_switch : Noted
opens_switch = record {
  line = record { stamp = 1; domain = 0; fiber = 0; did = did.Switch; reply = said.Done (value.Switch 0) };
  label = Inner;
  away = None;
  from = 0;
}

pub switch_opens : DomainMoves script at_first opens_switch opened
unfolding asks line_of prepared own_call value_of values_of answered statement waiting_from way_within
switch_opens = record { runs = refl; fits = refl; later = omega arith; told = refl; next = refl }

pub is_not_halted : opened.halted ≡ false
unfolding after prepared own_call value_of values_of answered statement waiting_from way_within
is_not_halted = refl

pub owes_nothing : opened.duties ≡ []
unfolding after prepared own_call value_of values_of answered statement waiting_from way_within
owes_nothing = refl

pub main_is_ready : opened.ready ≡ 0 ∷ []
unfolding after prepared own_call value_of values_of answered statement waiting_from way_within
main_is_ready = refl

-- ## It is sound

pub sound_at_first : IsSoundState at_first
sound_at_first = opens_sound script 0 has_built_forms (omega arith)

pub sound_when_opened : IsSoundState opened
sound_when_opened = keeps_sound script at_first opened opens_switch has_built_forms sound_at_first refl switch_opens is_not_halted

-- ## What follows

main_runs_in_live : is_live at_first.contexts (fiber_at at_first.fibers 0).context ≡ true
main_runs_in_live = fibers_run_in_live at_first 0 sound_at_first refl

there_is_room : 0 < most_fibers
there_is_room = has_room_behind at_first 0 [] sound_at_first refl

pub main_calls : Calls opened 0 []
main_calls = moves_may_call opened 0 [] sound_when_opened owes_nothing main_is_ready

its_switch_is_sound : HasSoundSwitches opened
its_switch_is_sound = switches_are_sound opened sound_when_opened

main_ends_alone : (h : ℕ) → has_ended (fiber_at at_first.fibers h) ≡ false → (fiber_at at_first.fibers h).context ≡ 0 → h ≡ 0
main_ends_alone = (body_ends_alone at_first sound_at_first refl).1

-- ## The end of its switch, to which nobody is attached yet

nobody_at : (daemon : Bool) → attached_to daemon (switch_at opened.switches 0) ≡ []
unfolding after prepared own_call value_of values_of answered statement waiting_from way_within
nobody_at true = refl
nobody_at false = refl

abbrev number_in : Entered → ℕ
number_in (InSwitch n) = n
number_in scope = 0

no_group : (n : ℕ) (own : Bool) → InSwitch 0 ≡ InGroup n own → ⊥
no_group n own same = absurd (cc)

main_is_inside : scopes_of opened 0 ≡ InSwitch 0 ∷ []
unfolding after prepared own_call value_of values_of answered statement waiting_from way_within
main_is_inside = refl

main_lives : has_ended (fiber_at opened.fibers 0) ≡ false
unfolding after prepared own_call value_of values_of answered statement waiting_from way_within
main_lives = refl

is_last : IsLast opened (InSwitch 0) 0
is_last = record {
  innermost = record { lives = main_lives; there = ap (λ scopes. slice_get scopes 0) main_is_inside };
  nobody = λ n same daemon. subst (λ (m : ℕ). attached_to daemon (switch_at opened.switches m) ≡ []) (ap number_in same) (nobody_at daemon);
  no_branch = λ n own h same role lives. no_group n own same;
}

main_closes_alone : (h : ℕ) → has_ended (fiber_at opened.fibers h) ≡ false → (fiber_at opened.fibers h).context ≡ context_in opened (InSwitch 0) → h ≡ 0
main_closes_alone = (scopes_end_alone opened (InSwitch 0) 0 sound_when_opened is_last).1

-- ## Its next call

abbrev work : List Work
work = (fiber_at opened.fibers 0).work

abbrev carry : Carry
carry = carry_of (fiber_at opened.fibers 0) opened

abbrev next : Settled
next = passed (outcome.Ok (value.Switch 0)) work carry

scopes_stay : (scopes_in work ≡ called_scope next.call ++ scopes_in next.behind) × (is_end next.call ≡ true → next.behind ≡ [])
scopes_stay = scopes_settle (outcome.Ok (value.Switch 0)) work carry

next_is_built : IsBuiltCall next.call × AreBuiltWork next.behind
next_is_built = built_settle (outcome.Ok (value.Switch 0)) work carry ((sound_when_opened.fibers 0).position main_lives)
