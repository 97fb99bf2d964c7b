-- A turn: what was told becomes a line, and what is kept stands for the domain behind it.
use Rattle.std.proofs.Common.{◌≡◌, inl, ℕ, ◌+◌, ◌<◌, Bool, false, List, [], ◌∷◌, Option, Some, None, refl, ap, ap₂, ◌∙◌, sym, subst, true≢false, arith}
use Rattle.std.specs.List.{Contains}
use Rattle.std.proofs.lemmas.List.{append-nil}
use Rattle.std.proofs.lemmas.Option.{none-some, same_Some}
use Rattle.eio_value.specs.declared.call.Answered.{Answered}
use Rattle.eio_value.specs.declared.call.Call.{Call}
use Rattle.eio_value.specs.declared.call.Struck.{Struck}
use Rattle.eio_value.specs.declared.message.Message.{Message}
use Rattle.eio_value.specs.declared.message.Message.TheVariants as message
use Rattle.eio_value.specs.declared.message.Waiter.{Waiter}
use Rattle.eio_value.specs.declared.mock_call.Extra.{Extra}
use Rattle.eio_value.specs.declared.mock_call.MockCall.{MockCall}
use Rattle.eio_value.specs.Fitting.{Bounds, Submit, FitsMessage}
use Rattle.eio_value.specs.Waits.{Open, IsForOpen}
use Rattle.spec_parts.specs.ReadyList.{pop}
use Rattle.script_forms.specs.Flat.{nodes_of}
use Rattle.spec_script.specs.Scripts.{Script}
use Rattle.trace_lines.specs.declared.line.Did.{Did}
use Rattle.trace_lines.specs.declared.line.Line.{Line}
use Rattle.trace_lines.specs.declared.line.Said2.{Said2}
use Rattle.spec_machine.specs.Asking.{asks_by}
use Rattle.spec_machine.specs.Domain.{Duty, DomainState}
use Rattle.spec_machine.specs.Labels.{Inner, Idle}
use Rattle.spec_machine.specs.Moves.{asks, after, line_of, own_move}
use Rattle.spec_machine.specs.Preparing.{Rests, Ticks, Prepared, prepared, at_once}
use Rattle.spec_machine.specs.Runs.{Noted, DomainMoves}
use Rattle.law_domain.specs.Sound.SoundStates.{IsSoundState}
use Rattle.law_domain.proofs.Sound.Preparing.{by_duties, by_ready}
use Rattle.law_domain.specs.Well.WellStates.{IsRunnable}
use Rattle.law_domain.proofs.Well.Standing.{keeps_well}
use Rattle.domain_core.specs.declared.told.Told.{Told}
use Rattle.domain_core.specs.declared.turn.Turn.TheVariants.{Moved}
use Rattle.domain_core.specs.Answering.{SameCounts}
use Rattle.domain_core.specs.Keeping.{KeptDomain}
use Rattle.domain_core.specs.Mirrors.{Mirrors}
use Rattle.domain_core.specs.Moving.{MovesOwn}
use Rattle.domain_core.specs.Turns as turns
use Rattle.domain_core.specs.Turns.{StandsFor}

-- ## The look for a message

-- none comes where nobody waits and nothing was submitted
pub no_message : (bounds : Bounds) (is_open : Open) (found : Option Message) → IsForOpen is_open found → FitsMessage bounds found
    → ((who : Waiter) → is_open who ≡ false) → bounds.submits ≡ [] → found ≡ None
no_message bounds is_open None waited fits closed none = refl
no_message bounds is_open (Some (message.Resume who given stamp)) waited fits closed none = absurd (true≢false (sym waited ∙ closed who))
no_message bounds is_open (Some (message.Start job number stamp)) waited fits closed none = (
    let it : Submit = record { executor = job.executor; node = job.node; count = job.count } in
    let there : Contains [] it = subst (λ (xs : List Submit). Contains xs it) none fits.submit in
    let below : there.0 < 0 = there.1 in
    absurd (omega (arith, below)))

-- ## Nothing to do

-- nothing is owed and nobody is ready, and so nothing is done next
pub rests : (l : DomainState) → IsSoundState l → l.duties ≡ [] → l.ready ≡ [] → asks l ≡ Idle
unfolding asks prepared
rests l sound owes none = (
    let there : prepared l ≡ at_once Rests l =
    ap (by_duties l) owes
    ∙ (ap (by_ready l) none
    ∙ ap (λ ts. elim ts as (λ _. Prepared) [ [] ↦ at_once Rests l | timer ∷ rest ↦ at_once Ticks l ]) sound.sleeps) in
    ap asks_by there)

-- nobody stood in the ready list, or this fiber stood first
pub none_popped : (ready : List ℕ) → (pop ready).fiber ≡ None → ready ≡ []
none_popped [] is = refl
none_popped (g ∷ others) is = absurd (none-some _ (sym is))

pub one_popped : (ready : List ℕ) (g : ℕ) → (pop ready).fiber ≡ Some g → ready ≡ g ∷ (pop ready).others
one_popped [] g is = absurd (none-some _ is)
one_popped (h ∷ others) g is = ap (λ (n : ℕ). n ∷ others) (same_Some _ _ is)

-- what is owed and who is ready put in place again
pub again : (view now : KeptDomain) → view ≡ now → (owed : List Duty) (ready : List ℕ) → owed ≡ view.owed → ready ≡ view.ready → record view { owed = owed; ready = ready } ≡ now
again view now is owed ready same_owed same_ready = ap₂ (λ (os : List Duty) (rs : List ℕ). record view { owed = os; ready = rs }) same_owed same_ready ∙ is

-- ## The line

same_line : (stamp : ℕ) (number domain : ℕ) (fiber other : ℕ) (it other_did : Did) (reply other_reply : Said2) → number ≡ domain → fiber ≡ other → it ≡ other_did → reply ≡ other_reply
    → ◌≡◌ {A = Line} (record { stamp = stamp; domain = number; fiber = fiber; did = it; reply = reply }) (record { stamp = stamp; domain = domain; fiber = other; did = other_did; reply = other_reply })
same_line stamp number domain fiber other it other_did reply other_reply e f g h =
    ap₂ (λ (d b : ℕ). record { stamp = stamp; domain = d; fiber = b; did = it; reply = reply }) e f
    ∙ ap₂ (λ (d : Did) (r : Said2). record { stamp = stamp; domain = domain; fiber = other; did = d; reply = r }) g h

module _
    {O : Type 0}
    (calls : O → Waiter → Bool → ℕ → ℕ → Call → Answered → O → Type 0)
    (strikes : O → Waiter → ℕ → Struck → O → Type 0)
    (receives : O → Option Message → O → Type 0)
    (extras : O → List (List ℕ) → MockCall → ℕ → Extra → List (List ℕ) → O → Type 0)
    (learns : O → List (List ℕ) → O → Type 0)
    (script : Script) (runnable : IsRunnable script) (old_texts texts : List (List ℕ)) (old : KeptDomain) (told : Told) (mid : KeptDomain)
    (moved : (l : DomainState) → StandsFor script old_texts old l → MovesOwn script texts l told mid)
    (same : SameCounts old mid)
    (runs : old.halted ≡ false) (before behind : O) (looked : turns.Looked calls strikes receives extras learns old.owed before behind) where
  abbrev line : Line
  line = record { stamp = mid.stamp + 1; domain = mid.number; fiber = told.fiber; did = told.did; reply = told.reply }

  abbrev new : KeptDomain
  new = record mid { stamp = mid.stamp + 1; lines = mid.lines + 1 }

  abbrev noted : Noted
  noted = record { line = line; label = Inner; away = None; from = 0 }

  module _ (l : DomainState) (stands : StandsFor script old_texts old l) where
    it : MovesOwn script texts l told mid
    it = moved l stands

    goes : l.halted ≡ false
    goes = stands.mirrors.halted ∙ runs

    same_stamp : mid.stamp ≡ l.stamp
    same_stamp = same.stamp ∙ sym stands.mirrors.stamp

    line_is : line ≡ line_of script l (mid.stamp + 1) Inner
    unfolding line_of
    line_is = same_line (mid.stamp + 1) mid.number l.number told.fiber (own_move script (prepared l)).fiber told.did (own_move script (prepared l)).did told.reply (own_move script (prepared l)).reply
        (same.number ∙ sym stands.mirrors.number) (sym it.tells.fiber) (sym it.tells.did) (sym it.tells.reply)

    domain_moves : DomainMoves script l noted (after script l (mid.stamp + 1) Inner)
    domain_moves = record {
      runs = goes;
      fits = it.own;
      later = omega (arith, same_stamp);
      told = line_is;
      next = refl;
    }

    counted : Mirrors (nodes_of script) texts new (after script l (mid.stamp + 1) Inner)
    unfolding after
    counted = (let step : Mirrors (nodes_of script) texts mid (own_move script (prepared l)).state = it.becomes in record {
      number = step.number;
      count = step.count;
      fibers = step.fibers;
      came = step.came;
      ready = step.ready;
      duties = step.duties;
      contexts = step.contexts;
      switches = step.switches;
      groups = step.groups;
      texts = step.texts;
      serial = step.serial;
      stamp = refl;
      lines = ap (λ (n : ℕ). n + 1) step.lines;
      halted = step.halted;
    })

    moves_to : (k : DomainState) × StandsFor script texts new k × turns.MadeLine calls strikes receives extras learns script l line k before behind
    moves_to = (
      after script l (mid.stamp + 1) Inner,
      record { mirrors = counted; well = λ then. keeps_well script l (after script l (mid.stamp + 1) Inner) noted runnable (stands.well goes) refl domain_moves then },
      record {
        label = Inner;
        moves = domain_moves;
        came = (
          record {
            between = behind;
            looked = subst (λ duties. turns.Looked calls strikes receives extras learns duties before behind) (sym stands.mirrors.duties) looked;
            learned = inl (it.texts, refl);
          },
          ap (λ (n : ℕ). n + 1) same_stamp,
        );
      },
    )

  turned : old.lines < old.budget → texts ≡ old_texts → turns.Turns calls strikes receives extras learns script (Moved line) old_texts texts old new before behind
  turned few table = (
    (runs, few),
    ap (λ (n : ℕ). n + 1) same.lines,
    same.budget,
    same.mocked,
    record { more = []; is = table ∙ sym (append-nil old_texts) },
    moves_to,
  )

  -- the same of the stamp and the domain that were made of it
  pub made_turn : (stamp : ℕ) (kept : KeptDomain) → old.lines < old.budget → texts ≡ old_texts
      → stamp ≡ mid.stamp + 1
      → kept ≡ record mid { stamp = mid.stamp + 1; lines = mid.lines + 1 }
      → turns.Turns calls strikes receives extras learns script (Moved (turns.line_told stamp kept.number told)) old_texts texts old kept before behind
  made_turn stamp kept few table stamp_is new_as =
      subst (λ (ln : Line). turns.Turns calls strikes receives extras learns script (Moved ln) old_texts texts old kept before behind)
      (sym (ap₂ (λ (n : ℕ) (k : KeptDomain). turns.line_told n k.number told) stamp_is new_as))
      (subst (λ (k : KeptDomain). turns.Turns calls strikes receives extras learns script (Moved line) old_texts texts old k before behind) (sym new_as) (turned few table))
