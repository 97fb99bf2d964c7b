-- The call of the fiber that moves: what is asked for it holds, it asks nothing from outside, and what was answered is a move of the domain's own.
use Rattle.std.proofs.Common.{◌≡◌, ℕ, ◌<◌, false, List, [], refl, ap, ◌∙◌, sym, subst, arith}
use Rattle.eio_value.specs.declared.raised.Outcome.{Outcome}
use Rattle.fiber_step.specs.declared.ask.Ask.{Ask}
use Rattle.fiber_step.specs.Standing.{ask_of}
use Rattle.fiber_step.specs.Stepping.{HasBodiesOf}
use Rattle.script_forms.specs.Flat.{nodes_of}
use Rattle.spec_script.specs.Scripts.{Script}
use Rattle.spec_script.specs.Syntax.{Plain, Daemon}
use Rattle.spec_fiber.specs.Asks as ask
use Rattle.spec_fiber.specs.Asks.{Ask as Called}
use Rattle.spec_machine.specs.Asking.{asks_by, asks_for, end_of}
use Rattle.spec_machine.specs.Domain.{Role, OfBody, OfSwitch, OfGroup, DomainState, fiber_at}
use Rattle.spec_machine.specs.Labels.{Own}
use Rattle.spec_machine.specs.Moves.{asks, own_call, own_move}
use Rattle.spec_machine.specs.Preparing.{Prepared, prepared}
use Rattle.law_domain.specs.Sound.BuiltForms.{IsBuiltCall}
use Rattle.law_domain.specs.Sound.SoundStates.{IsBuiltRole}
use Rattle.law_domain.specs.Well.WellStates.{IsRunnable}
use Rattle.domain_core.specs.declared.told.Told.{Told}
use Rattle.domain_core.specs.Answering.{Answers}
use Rattle.domain_core.specs.Keeping.{KeptDomain}
use Rattle.domain_core.specs.Mirrors.{Mirrors}
use Rattle.domain_core.specs.Moving.{with_head, ComesTo, MayAnswer, MovesOwn}
use Rattle.domain_core.specs.Turns.{StandsFor}
use Rattle.domain_core.proofs.Meeting.{may_answer}
use Rattle.domain_core.proofs.MeetingCounts.{IsAtCall, at_call, same_role}
use Rattle.domain_core.proofs.Mirroring.{mirrors_as, tells_as}
use Rattle.domain_core.proofs.Preparing.{calls_well, prior, well}

-- ## Such a call asks nothing from outside

end_own : (role : Role) (g : ℕ) → IsBuiltRole g role → (l : DomainState) (it : Outcome) → end_of role l g it ≡ Own
end_own OfBody g may l it = refl
end_own (OfSwitch switch daemon) g may l it = refl
end_own (OfGroup group) g may l it = refl
end_own role g may l it = absurd may

asks_own : (call : Called) → IsBuiltCall call → (g : ℕ) (l : DomainState) → IsBuiltRole g (fiber_at l.fibers g).role → asks_for call g l ≡ Own
asks_own (ask.Trace operands) built g l role = refl
asks_own ask.Yield built g l role = refl
asks_own ask.Check built g l role = refl
asks_own ask.AwaitCancel built g l role = refl
asks_own ask.Turn built g l role = refl
asks_own (ask.Sub body) built g l role = refl
asks_own (ask.Protect body) built g l role = refl
asks_own (ask.Cancel context text) built g l role = refl
asks_own (ask.Switch body) built g l role = refl
asks_own (ask.Fork Plain switch body) built g l role = refl
asks_own (ask.Fork Daemon switch body) built g l role = refl
asks_own (ask.Fail switch text) built g l role = refl
asks_own (ask.OnRelease switch handler) built g l role = refl
asks_own (ask.Branches group branches) built g l role = refl
asks_own (ask.Leave context late it) built g l role = refl
asks_own (ask.Close switch came kept) built g l role = refl
asks_own (ask.Join group own) built g l role = refl
asks_own (ask.End it) built g l role = end_own (fiber_at l.fibers g).role g role l it
asks_own call built g l role = absurd built

-- ## The move

module _ (script : Script) (runnable : IsRunnable script) (texts new_texts : List (List ℕ)) (old : KeptDomain) (g : ℕ) (owes : old.owed ≡ []) (going : old.halted ≡ false)
    (few : old.lines < 1000000) (l : DomainState) (stands : StandsFor script texts (with_head g old) l) (call : Ask) (kept : KeptDomain) (comes : ComesTo script new_texts l g call kept) where
  few_lines : l.lines < 1000000
  few_lines = omega (arith, few, stands.mirrors.lines)

  pub may : HasBodiesOf (nodes_of script) call → MayAnswer script g call kept
  may =
      may_answer script new_texts l g old.ready kept call runnable (well script runnable texts old g owes going l stands) (stands.mirrors.duties ∙ owes) stands.mirrors.ready
      few_lines comes.calls comes.mirrors

  -- the table is as it was
  pub texts_stay : new_texts ≡ texts
  texts_stay = sym comes.mirrors.texts ∙ ((calls_well script runnable texts old g owes going l stands).texts.same ∙ stands.mirrors.texts)

  at : IsAtCall (nodes_of script) new_texts l g old.ready kept
  at = (let first = prior script runnable texts old g owes going l stands in record {
    sound = (well script runnable texts old g owes going l stands).sound;
    owes = stands.mirrors.duties ∙ owes;
    ready = stands.mirrors.ready;
    few = few_lines;
    calls = first;
    mirrors = subst (λ (p : Prepared). Mirrors (nodes_of script) new_texts kept p.state) first.prepares comes.mirrors;
  })

  asks_nothing : asks l ≡ Own
  unfolding asks
  asks_nothing =
      ap asks_by at.calls.prepares
      ∙ asks_own at.calls.settled.call at.calls.built g (at_call l g old.ready at.calls.settled)
      (subst (IsBuiltRole g) (sym (same_role at g)) ((at.sound.fibers g).role at.calls.lives))

  is_step : own_move script (prepared l) ≡ own_call script (ask_of (nodes_of script) call) g (prepared l).state
  is_step = ap (λ doing. own_move script (record (prepared l) { doing = doing })) comes.calls

  -- the call was answered
  pub moves : (told : Told) (new : KeptDomain) → Answers script call g kept told new → MovesOwn script new_texts l told new
  moves told new answers = record {
    own = asks_nothing;
    texts = (calls_well script runnable texts old g owes going l stands).texts.same;
    tells = tells_as _ _ told is_step (answers.tells new_texts (prepared l).state comes.mirrors);
    becomes = mirrors_as (nodes_of script) new_texts new _ _ is_step (answers.becomes new_texts (prepared l).state comes.mirrors);
  }
