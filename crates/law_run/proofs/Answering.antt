-- What a move keeps that goes on by an answer from outside, a message or an obligation.
use Rattle.std.proofs.Common.{◌≡◌, ℕ, ◌+◌, ◌==◌, inr, Bool, true, false, List, [], ◌∷◌, length, Option, Some, None, refl, sym, subst}
use Rattle.std.specs.Prelude.{pos, negsuc, unwrap_or, take}
use Rattle.std.proofs.lemmas.List.Elements.{All-append}
use Rattle.eio_value.specs.declared.call.Answer.{Answer}
use Rattle.eio_value.specs.declared.call.Answer.TheVariants as answer
use Rattle.eio_value.specs.declared.message.Job.{Job}
use Rattle.eio_value.specs.declared.message.Message.{Message}
use Rattle.eio_value.specs.declared.message.Message.TheVariants as message
use Rattle.eio_value.specs.declared.mock_call.Extra.{Extra}
use Rattle.eio_value.specs.declared.mock_call.Extra.TheVariants as extra
use Rattle.eio_value.specs.declared.mock_call.Said.{Said}
use Rattle.eio_value.specs.declared.plain.Member.{Member}
use Rattle.eio_value.specs.declared.plain.Plain.{Plain}
use Rattle.eio_value.specs.declared.plain.Plain.TheVariants.{Exit}
use Rattle.eio_value.specs.declared.raised.Outcome.{Outcome}
use Rattle.eio_value.specs.declared.raised.Outcome.TheVariants as outcome
use Rattle.eio_value.specs.declared.raised.Raised.{Raised}
use Rattle.eio_value.specs.declared.raised.Raised.TheVariants.{One, Cancelled}
use Rattle.eio_value.specs.declared.value.Value.{Value}
use Rattle.eio_value.specs.declared.value.Value.TheVariants as value
use Rattle.eio_value.specs.Table.{text_at}
use Rattle.spec_parts.specs.Contexts.{Context, root}
use Rattle.spec_parts.specs.Timers.{remove}
use Rattle.spec_script.specs.Scripts.{Script}
use Rattle.spec_script.specs.Syntax as syntax
use Rattle.spec_script.specs.Syntax.{ObjectCall, ObjectCallWith}
use Rattle.spec_fiber.specs.Asks as ask
use Rattle.spec_fiber.specs.Asks.{Ask, passing}
use Rattle.spec_fiber.specs.Evaluation.{number_in}
use Rattle.spec_fiber.specs.Numbered.{block_numbered}
use Rattle.spec_fiber.specs.Replies.{begun}
use Rattle.trace_lines.specs.declared.line.Did.{Did}
use Rattle.trace_lines.specs.declared.line.Did.TheVariants as did
use Rattle.trace_lines.specs.declared.line.Said2.{Said2}
use Rattle.trace_lines.specs.declared.line.Said2.TheVariants as said
use Rattle.spec_machine.specs.Domain.{Role, OfJob, OfWriter, GoesOn, CallsAgain, OnObject, Asleep, ForCancel, ForOthers, Resting, Standing, Parked, Owed, Wake, Start, Duty, DomainState, off_for, made, placed, to_head, to_back}
use Rattle.spec_machine.specs.Steps as steps
use Rattle.spec_machine.specs.Steps.{Step, member, counted}
use Rattle.spec_machine.specs.Shared.{Asked}
use Rattle.spec_machine.specs.ContextMoves as on_contexts
use Rattle.spec_machine.specs.EndMoves as on_ends
use Rattle.spec_machine.specs.ObjectMoves as on_objects
use Rattle.spec_machine.specs.MockMoves as on_mocks
use Rattle.spec_machine.specs.DutyMoves as on_duties
use Rattle.law_run.specs.Exceptions.{InMessage}
use Rattle.law_run.proofs.Places.{AllDid, AllReply, AllRaised, AllOutcome, AllCall, AllResult, none, all_one, all_cancelled}
use Rattle.law_run.proofs.Settling.{With}
use Rattle.law_run.proofs.Rows.{AllAnswer}
use Rattle.law_run.proofs.Outside.{ExtraIs}
use Rattle.law_run.proofs.Standings.{DutyFits, Stands, head_stands, back_stands, parked_stands, made_stands, ends_stands, woken_if_stands, all_single}
use Rattle.law_run.proofs.Raising.{StepKeeps, telling, more, is_born, new_stands, does_kept, answers_kept, goes_off_kept, enters_stands, in_new_kept}

-- the calls that may raise what was raised before
abbrev pub awaits : Ask → Bool
awaits (ask.OnObject syntax.Await object) = true
awaits call = false

-- the promise that a call resolves, if it does
abbrev pub resolves : Ask → Option ℕ
resolves (ask.OnObjectWith syntax.Resolve promise operand) = Some promise
resolves (ask.OnObjectWith syntax.TryResolve promise operand) = Some promise
resolves (ask.ResolveEnd promise result) = Some promise
resolves call = None

module _ (P : Member → Type 0) (kinds : ℕ → Bool) (s : ℕ) where
  -- ## Going on

  passing_is : (call : Ask) → AllCall P call → AllResult P (passing call)
  passing_is (ask.Leave context true (outcome.Ok value)) all = none P
  passing_is (ask.Leave context false (outcome.Ok value)) all = all
  passing_is (ask.Leave context true (outcome.Err raised)) all = all
  passing_is (ask.Leave context false (outcome.Err raised)) all = all
  passing_is (ask.ShutReader reader it) all = all
  passing_is (ask.ShutWriter writer it) all = all
  passing_is (ask.UnlockEnd mutex it) all = none P
  passing_is (ask.PoisonEnd mutex raised) all = all
  passing_is (ask.PutEnd pool resource it) all = all
  passing_is call all = none P

  goes_on_is : (passed : Option Outcome) (given : Value) → AllResult P passed → AllOutcome P (on_objects.goes_on_with passed given)
  goes_on_is None given all = none P
  goes_on_is (Some it) given all = all

  goes_on_kept : (call : Ask) (it : Did) (reply : Said2) → AllDid P it → AllReply P reply → (given : Value) (g : ℕ) (l : DomainState) → AllCall P call → Stands P kinds s l
      → StepKeeps P kinds s (steps.told g it reply (to_head (GoesOn (on_objects.goes_on_with (passing call) given)) g l))
  goes_on_kept call it reply d r given g l all h = telling P kinds s _ refl d r (head_stands P kinds s (GoesOn (on_objects.goes_on_with (passing call) given)) g l (goes_on_is (passing call) given (passing_is call all)) h)

  answered_with_kept : (call : Ask) (it : Did) (reply : Said2) → AllDid P it → AllReply P reply → (given : Value) (g : ℕ) (l : DomainState) → AllCall P call → Stands P kinds s l → StepKeeps P kinds s (on_objects.answered_with call it reply given g l)
  answered_with_kept (ask.End result) it reply d r given g l all h = telling P kinds s _ refl d r (ends_stands P kinds s result g l all h)
  answered_with_kept call it reply d r given g l all h = goes_on_kept call it reply d r given g l all h

  nothing_done_kept : (call : Ask) (it : Did) → AllDid P it → (g : ℕ) (l : DomainState) → AllCall P call → Stands P kinds s l → StepKeeps P kinds s (on_objects.nothing_done call it g l)
  nothing_done_kept (ask.Submit executor weight given block) it d g l all h = telling P kinds s _ refl (none P) (none P) h
  nothing_done_kept call it d g l all h = answered_with_kept call it said.Nothing d (none P) value.Unit g l all h

  -- ## Obligations

  owes_stands : (maker : ℕ) (it : Owed) (l : DomainState) → DutyFits P kinds s (record { maker = maker; owed = it }) → Stands P kinds s l → Stands P kinds s (on_objects.owes maker it l)
  owes_stands maker it l fits h = (h.0, All-append (DutyFits P kinds s) l.duties (record { maker = maker; owed = it } ∷ []) h.1 (all_single (DutyFits P kinds s) (record { maker = maker; owed = it }) fits), h.2, h.3, h.4)

  if_resolved_stands : (maker promise : ℕ) (it : Value) (l : DomainState) → kinds promise ≡ false → Stands P kinds s l → Stands P kinds s (on_objects.owes_if_resolved maker promise it l)
  if_resolved_stands maker promise (value.Int (pos n)) l fits h = by (n == 1)
    where
      by : (b : Bool) → Stands P kinds s (elim b [ true ↦ on_objects.owes maker (Wake promise false) l | false ↦ l ])
      by true = owes_stands maker (Wake promise false) l fits h
      by false = h
  if_resolved_stands maker promise (value.Int (negsuc n)) l fits h = h
  if_resolved_stands maker promise it l fits h = h

  abbrev pub ResolvesNoMutex : Option ℕ → Type 0
  ResolvesNoMutex None = Unit {0}
  ResolvesNoMutex (Some promise) = kinds promise ≡ false

  end_owes_stands : (role : Role) (result : Outcome) (it : Value) (maker : ℕ) (l : DomainState) → Stands P kinds s l → Stands P kinds s (on_objects.owing (ask.End result) role it maker l)
  end_owes_stands (OfJob executor number) result it maker l h = owes_stands maker (Start executor) l tt h
  end_owes_stands role result it maker l h = h

  owing_stands : (call : Ask) (role : Role) (it : Value) (maker : ℕ) (l : DomainState) → ResolvesNoMutex (resolves call) → Stands P kinds s l → Stands P kinds s (on_objects.owing call role it maker l)
  owing_stands (ask.OnObjectWith syntax.Resolve promise operand) role it maker l fits h = owes_stands maker (Wake promise false) l fits h
  owing_stands (ask.OnObjectWith syntax.TryResolve promise operand) role it maker l fits h = if_resolved_stands maker promise it l fits h
  owing_stands (ask.ResolveEnd promise result) role it maker l fits h = owes_stands maker (Wake promise false) l fits h
  owing_stands (ask.PoisonEnd mutex raised) role it maker l fits h = owes_stands maker (Wake mutex true) l tt h
  owing_stands (ask.End result) role it maker l fits h = end_owes_stands role result it maker l h
  owing_stands call role it maker l fits h = h

  owing_wait_stands : (call : Ask) (maker : ℕ) (l : DomainState) → Stands P kinds s l → Stands P kinds s (on_objects.owing_wait call maker l)
  owing_wait_stands (ask.Submit executor weight given block) maker l h = owes_stands maker (Start executor) l tt h
  owing_wait_stands call maker l h = h

  -- ## What the line tells of the call

  end_is : (role : Role) → AllDid P (on_objects.did_end role)
  end_is (OfJob executor number) = none P
  end_is role = none P

  call_is : (it : ObjectCall) (object : ℕ) → AllDid P (on_objects.did_call it object)
  call_is syntax.Take object = none P
  call_is syntax.TakeNonblocking object = none P
  call_is syntax.Length object = none P
  call_is syntax.Await object = none P
  call_is syntax.Acquire object = none P
  call_is syntax.Release object = none P
  call_is syntax.Lock object = none P
  call_is syntax.TryLock object = none P
  call_is syntax.Unlock object = none P

  call_with_is : (it : ObjectCallWith) (object : ℕ) (operand : Value) → AllDid P (on_objects.did_call_with it object operand)
  call_with_is syntax.Add object operand = none P
  call_with_is syntax.Resolve object operand = none P
  call_with_is syntax.TryResolve object operand = none P

  pub ask_is : (call : Ask) (role : Role) → AllCall P call → AllDid P (on_objects.did_ask call role)
  ask_is (ask.OnObject it object) role all = call_is it object
  ask_is (ask.OnObjectWith it object operand) role all = call_with_is it object operand
  ask_is (ask.Use pool) role all = none P
  ask_is (ask.Submit executor weight given block) role all = none P
  ask_is (ask.UnlockEnd mutex it) role all = none P
  ask_is (ask.PoisonEnd mutex raised) role all = none P
  ask_is (ask.PutEnd pool resource it) role all = none P
  ask_is (ask.ResolveEnd promise it) role all = all
  ask_is other role all = end_is role

  -- ## Answers of objects

  -- what is raised under the counter's number
  raised_new : (what : Plain) (raised : Raised) (it : Did) → AllDid P it → (g : ℕ) (l : DomainState) → raised ≡ One (member what l) → Stands P kinds s l → StepKeeps P kinds s (steps.raises_given it raised g l)
  raised_new what raised it d g l alone h =
      subst (λ r. StepKeeps P kinds s (steps.raises_given it r g l)) (sym alone) (record {
        born = Some (member what l);
        to = s + 1;
        range = is_born P kinds s what l h;
        stands = head_stands (With P (Some (member what l))) kinds (s + 1) (GoesOn (outcome.Err (One (member what l)))) g (counted l) (all_one (With P (Some (member what l))) (member what l) (inr refl)) (new_stands P kinds s what l h);
        call = (λ x i. more P (Some (member what l)) x (d x i));
        reply = all_one (With P (Some (member what l))) (member what l) (inr refl);
      })

  raised_kept : (call : Ask) (what : Plain) (raised : Raised) (it : Did) → AllDid P it → (g : ℕ) (l : DomainState) → (awaits call ≡ true → AllRaised P raised) → (awaits call ≡ false → raised ≡ One (member what l)) → Stands P kinds s l
      → StepKeeps P kinds s (on_objects.raised_for call it raised g l)
  raised_kept (ask.OnObject syntax.Await object) what raised it d g l old new h = answers_kept P kinds s it d (outcome.Err raised) g l (old refl) h
  raised_kept call what raised it d g l old new h = raised_new what raised it d g l (new refl) h

  abbrev pub IfDone : Answer → Type 0 → Type 0
  IfDone (answer.Done given) it = it
  IfDone other it = Unit {0}

  pub answered_kept : (call : Ask) (role : Role) (it : Did) → AllDid P it → (asked : Asked) (what : Plain) (given : Answer) (g : ℕ) (l : DomainState) → AllCall P call
      → (awaits call ≡ true → AllAnswer P (AllRaised P) P given) → (awaits call ≡ false → AllAnswer P (λ raised. raised ≡ One (member what l)) P given) → IfDone given (ResolvesNoMutex (resolves call)) → Stands P kinds s l
      → StepKeeps P kinds s (on_objects.answered_by call role it asked given g l)
  answered_kept call role it d asked what (answer.Done given) g l all old new fits h = answered_with_kept call it (said.Done given) d (none P) given g (on_objects.owing call role given g l) all (owing_stands call role given g l fits h)
  answered_kept call role it d asked what answer.Waits g l all old new fits h = telling P kinds s _ refl d (none P) (parked_stands P kinds s (OnObject asked.who) g (on_objects.owing_wait call g l) (none P) (owing_wait_stands call g l h))
  answered_kept call role it d asked what answer.Off g l all old new fits h = goes_off_kept P kinds s it d g l h
  answered_kept call role it d asked what answer.Nothing g l all old new fits h = nothing_done_kept call it d g l all h
  answered_kept call role it d asked what (answer.Raised raised) g l all old new fits h = raised_kept call what raised it d g l old new h
  answered_kept call role it d asked what (answer.Woke who) g l all old new fits h = does_kept P kinds s it d g l h
  answered_kept call role it d asked what (answer.Started domain number) g l all old new fits h = does_kept P kinds s it d g l h

  -- ## Messages

  begun_stands : (script : Script) (job : Job) (number : ℕ) (c : Option ℕ) (all : List Context) (l : DomainState) → Stands P kinds s l
      → Stands P kinds s (elim c [ None ↦ l | Some c ↦ on_ends.job_made script job number c (record l { contexts = all }) ])
  begun_stands script job number None all l h = h
  begun_stands script job number (Some c) all l h =
      let m : DomainState = record l { contexts = all } in
      let t : DomainState = made c (OfJob job.executor number) (begun (block_numbered script job.node) (take job.count job.given)) m in
      back_stands P kinds s (GoesOn (outcome.Ok value.Unit)) (length m.fibers) t (none P) (made_stands P kinds s c (OfJob job.executor number) (begun (block_numbered script job.node) (take job.count job.given)) m h)

  abbrev pub AllMine : Option Message → Type 0
  AllMine None = Unit {0}
  AllMine (Some it) = (x : Member) → InMessage x it → P x

  pub received_stands : (script : Script) (mine : Option Message) (l : DomainState) → AllMine mine → Stands P kinds s l → Stands P kinds s (on_ends.received_if script mine l)
  received_stands script None l all h = h
  received_stands script (Some (message.Resume who result stamp)) l all h = back_stands P kinds s (GoesOn result) who.fiber l all h
  received_stands script (Some (message.Start job number stamp)) l all h = begun_stands script job number (root l.contexts).number (root l.contexts).contexts l h

  -- ## Answers of the mocked outside

  into_stands : (call : Ask) (number g : ℕ) (l : DomainState) → Stands P kinds s l → Stands P kinds s (to_head (GoesOn (outcome.Ok value.Unit)) g (placed (on_contexts.before_block call number g l) g l))
  into_stands call number g l h = enters_stands P kinds s (on_contexts.before_block call number g l) g l h

  wakes_copier_stands : (writer : ℕ) (l : DomainState) → Stands P kinds s l → Stands P kinds s (on_mocks.wakes_copier writer l)
  wakes_copier_stands writer l h = by (on_mocks.resting_copier writer l.fibers)
    where
      by : (who : Option ℕ) → Stands P kinds s (elim who [ None ↦ l | Some g ↦ to_back (GoesOn (outcome.Ok value.Unit)) g l ])
      by None = h
      by (Some g) = back_stands P kinds s (GoesOn (outcome.Ok value.Unit)) g l (none P) h

  wakes_by_bytes_stands : (writer : ℕ) (bytes : List ℕ) (l : DomainState) → Stands P kinds s l → Stands P kinds s (on_mocks.wakes_by_bytes writer bytes l)
  wakes_by_bytes_stands writer [] l h = h
  wakes_by_bytes_stands writer (b ∷ bytes) l h = wakes_copier_stands writer l h

  opens_writer_kept : (call : Ask) (number : ℕ) (it : Said) (g : ℕ) (l : DomainState) → Stands P kinds s l → StepKeeps P kinds s (on_mocks.opens_writer call number it g l)
  opens_writer_kept call number it g l h =
      in_new_kept P kinds s (on_contexts.protected_of l g).number (on_contexts.protected_of l g).contexts g l (λ c m. (
      let new = length m.fibers in
      let t : DomainState = made c (OfWriter number) (record { work = []; variables = [] }) m in
      let step : Step = on_mocks.goes_into call number it g t in
      record step { state = to_head (GoesOn (outcome.Ok value.Unit)) new step.state })) h
      (λ c m k.
      let t : DomainState = made c (OfWriter number) (record { work = []; variables = [] }) m in
      telling P kinds s _ refl (none P) (none P) (head_stands P kinds s (GoesOn (outcome.Ok value.Unit)) (length m.fibers) (on_mocks.goes_into call number it g t).state (none P)
      (into_stands call number g t (made_stands P kinds s c (OfWriter number) (record { work = []; variables = [] }) m k))))

  by_passing_kept : (passed : Option Outcome) (given : Value) (it : Said) (g : ℕ) (l : DomainState) → AllResult P passed → Stands P kinds s l
      → StepKeeps P kinds s (elim passed as (λ _. Step) [
        | Some result ↦ steps.told g (did.Mock it) (said.Done given) (to_head (GoesOn result) g l)
        | None ↦ steps.answers (did.Mock it) (outcome.Ok given) g l
      ])
  by_passing_kept None given it g l all h = answers_kept P kinds s (did.Mock it) (none P) (outcome.Ok given) g l (none P) h
  by_passing_kept (Some result) given it g l all h = telling P kinds s _ refl (none P) (none P) (head_stands P kinds s (GoesOn result) g l all h)

  done_kept : (call : Ask) (given : Value) (it : Said) (g : ℕ) (l : DomainState) → AllCall P call → Stands P kinds s l → StepKeeps P kinds s (on_mocks.done_by call given it g l)
  done_kept (ask.OpenReader flow limit block) given it g l all h = telling P kinds s _ refl (none P) (none P) (into_stands (ask.OpenReader flow limit block) (number_in given) g l h)
  done_kept (ask.OpenDirectory place path block) given it g l all h = telling P kinds s _ refl (none P) (none P) (into_stands (ask.OpenDirectory place path block) (number_in given) g l h)
  done_kept (ask.OpenWriter flow block) given it g l all h = opens_writer_kept (ask.OpenWriter flow block) (number_in given) it g l h
  done_kept (ask.PutText writer text) given it g l all h = answers_kept P kinds s (did.Mock it) (none P) (outcome.Ok given) g (on_mocks.wakes_by_bytes writer (text_at l.texts text) l) (none P) (wakes_by_bytes_stands writer (text_at l.texts text) l h)
  done_kept call given it g l all h = by_passing_kept (passing call) given it g l (passing_is call all) h

  waits_by_kept : (call : Ask) (g : ℕ) (l : DomainState) → AllCall P call → Stands P kinds s l → StepKeeps P kinds s (on_mocks.waits_by call g l)
  waits_by_kept (ask.ShutWriter writer result) g l all h = telling P kinds s _ refl (none P) (none P) (parked_stands P kinds s (ForOthers (ask.ShutWriter writer result)) g (on_mocks.wakes_copier writer l) all (wakes_copier_stands writer l h))
  waits_by_kept call g l all h = telling P kinds s _ refl (none P) (none P) (parked_stands P kinds s (ForOthers call) g l all h)

  pub mock_answered_kept : (call : Ask) (given : Extra) (g : ℕ) (l : DomainState) → AllCall P call → ExtraIs l.serial given → Stands P kinds s l → StepKeeps P kinds s (on_mocks.mock_answered call given g l)
  mock_answered_kept call (extra.Done given it) g l all is h = done_kept call given it g l all h
  mock_answered_kept call (extra.More it) g l all is h = telling P kinds s _ refl (none P) (none P) (head_stands P kinds s (CallsAgain call) g l all h)
  mock_answered_kept call extra.Back g l all is h = telling P kinds s _ refl (none P) (none P) (back_stands P kinds s (CallsAgain call) g l all h)
  mock_answered_kept call extra.Waits g l all is h = waits_by_kept call g l all h
  mock_answered_kept call (extra.Raised raised it) g l all is h =
      raised_new is.what raised (did.Mock it) (none P) g l is.alone h

  pub carried_kept : (writer : ℕ) (given : Extra) (g : ℕ) (l : DomainState) → Stands P kinds s l → StepKeeps P kinds s (on_mocks.carried_by writer given g l)
  carried_kept writer (extra.More it) g l h = telling P kinds s _ refl (none P) (none P) (head_stands P kinds s (GoesOn (outcome.Ok value.Unit)) g l (none P) h)
  carried_kept writer (extra.Done given it) g l h =
      let t : DomainState = on_ends.ends (outcome.Ok value.Unit) g l in
      telling P kinds s _ refl (none P) (none P) (woken_if_stands P kinds s (on_mocks.shutter writer t.fibers) t (ends_stands P kinds s (outcome.Ok value.Unit) g l (none P) h))
  carried_kept writer other g l h = telling P kinds s _ refl (none P) (none P) (parked_stands P kinds s Resting g l (none P) h)

  -- ## Strikes

  pub strike_kept : (duty : Duty) (g : ℕ) (won : Bool) (l : DomainState) → Stands P kinds s l → StepKeeps P kinds s (on_duties.strike_told duty g won l)
  strike_kept duty g true l h =
      let what : Plain = unwrap_or (off_for l g) Exit in
      record {
        born = Some (member what l);
        to = s + 1;
        range = is_born P kinds s what l h;
        stands = back_stands (With P (Some (member what l))) kinds (s + 1) (GoesOn (outcome.Err (Cancelled (member what l)))) g (counted l) (all_cancelled (With P (Some (member what l))) (member what l) (inr refl)) (new_stands P kinds s what l h);
        call = none (With P (Some (member what l)));
        reply = none (With P (Some (member what l)));
      }
  strike_kept duty g false l h = telling P kinds s _ refl (none P) (none P) h

  pub own_strike_kept : (duty : Duty) (g : ℕ) (standing : Standing) (l : DomainState) → Stands P kinds s l → StepKeeps P kinds s (on_duties.own_strike duty g standing l)
  own_strike_kept duty g (Parked Asleep) l h = strike_kept duty g true (record l { timers = remove g l.timers }) h
  own_strike_kept duty g (Parked ForCancel) l h = strike_kept duty g true l h
  own_strike_kept duty g standing l h = strike_kept duty g false l h
