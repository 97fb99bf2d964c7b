-- A run in code: what was written so far, and where the moves that are left lead.
use Rattle.std.proofs.Common.{◌≡◌, ℕ, suc, ◌+◌, ◌-◌, ◌<◌, ◌≤◌, true, List, [], ◌∷◌, ◌++◌, length, Some, None, refl, ap, sym, ◌∙◌, subst, append_assoc, append-nil, length-append, arith}
use Rattle.std.specs.Prelude.{All, slice_get, Result, Ok, Err, IsErr}
use Rattle.std.specs.declared.option.Option.{Option}
use Rattle.std.specs.List.{AllByRecursion as Each}
use Rattle.std.specs.Option.{unwrap_or}
use Rattle.std.proofs.lemmas.Grind.{flat_map-append}
use Rattle.std.proofs.lemmas.List.Elements.{All-from_recursion}
use Rattle.eio_value.specs.declared.value.TextId.{TextId}
use Rattle.eio_value.specs.Table.{HasText}
use Rattle.script_code.specs.Texted.{IsAmong}
use Rattle.spec_script.specs.Opening.{opening_texts}
use Rattle.spec_script.specs.Scripts.{Script}
use Rattle.spec_script.specs.Syntax.{Block, Begins, Done}
use Rattle.trace_lines.specs.declared.line.Line.{Line}
use Rattle.trace_out.specs.Causes.{AppendsFront}
use Rattle.trace_out.specs.Passing.{PassesOn}
use Rattle.trace_lines.specs.TraceTexts.{CanTrace, trace_text}
use Rattle.trace_out.proofs.Appended.{front_longer}
use Rattle.trace_out.proofs.Passed.{front_passed, front_written, passes_more, passes_none}
use Rattle.spec_machine.specs.Domain.{DomainState}
use Rattle.spec_machine.specs.Labels.{Label, Inner, Called, Struck, Mocked, Took}
use Rattle.spec_machine.specs.Mock.{Mock, Moved, move, moves, opening, opening_domain, first_body}
use Rattle.spec_machine.specs.Moves.{after, line_of}
use Rattle.spec_machine.specs.Runs.{Fits, Noted}
use Rattle.spec_machine.specs.Trace.{run, trace, written_by, last_after}
use Rattle.fiber_step.specs.Throwing.{IsGrown}
use Rattle.domain_core.specs.declared.turn.Turn.TheVariants as turn
use Rattle.domain_core.specs.Keeping.{KeptDomain}
use Rattle.domain_core.specs.Turns.{StandsFor, Starts, Came, MovesTo, Turns}
use Rattle.law_domain.specs.Sound.Laws.{body_of}
use Rattle.law_domain.specs.Texts.DomainLaws.{MovesTexted}
use Rattle.law_domain.proofs.Texts.Moving.{known_have_texts}
use Rattle.law_domain.specs.Well.WellStates.{IsRunnable, StandsWell}
use Rattle.law_domain.proofs.Well.Standing.{moves_tell_known}
use Rattle.mock_backend.specs.declared.fault.RunFault.{RunFault}
use Rattle.mock_backend.specs.declared.local.Local.{Local}
use Rattle.mock_backend.specs.Faults.{HasRunCause, RoseAtFault, WritesText}
use Rattle.mock_backend.specs.declared.fault.RunFault.TheVariants as fault
use Rattle.mock_backend.specs.Objects.{Calls, Strikes, Asks, Receives, Learns}
use Rattle.mock_backend.specs.Turning.{IsMoved}
use Rattle.mock_backend.proofs.Runs.{inner_moved, inner_line, inner_next, inner_stamp, own_move_is, idle_move_is, halted_move_is, moves_none, moves_zero, moves_some}

-- ## The next move

some_none : {A : Type 0} (x : A) → Some x ≡ None → ⊥
some_none x e = cc

-- nothing comes from the objects
came_inner : (l : DomainState) (stamp : ℕ) (label : Label) (before after : Local) → Came Calls Strikes Receives Asks Learns l stamp label before after → (label ≡ Inner) × (stamp ≡ l.stamp + 1)
came_inner l stamp Inner before after came = (refl, came.1)
came_inner l stamp (Called asked answer mine) before after came = absurd came.3
came_inner l stamp (Struck who won) before after came = absurd came.1
came_inner l stamp (Mocked asked answer texts) before after came = absurd came.2
came_inner l stamp (Took message) before after came = absurd (some_none message came.0.0)

module _ (script : Script) (line : Line) (old_texts new_texts : List (List ℕ)) (old new : KeptDomain) (before behind : Local)
    (makes : MovesTo Calls Strikes Receives Asks Learns script line old_texts new_texts old new before behind) where
  pub turn_moves : (m : Mock) → StandsFor script old_texts old m.local → IsMoved script m line new_texts new
  turn_moves m stands = (
      let l : DomainState = m.local in
      let made = makes l stands in
      let k : DomainState = made.0 in
      let own = came_inner l line.stamp made.2.label before behind made.2.came in
      let fits : Fits l Inner = subst (Fits l) own.0 made.2.moves.fits in
      let told : line ≡ line_of script l (l.stamp + 1) Inner =
      made.2.moves.told ∙ (ap (λ (label : Label). line_of script l line.stamp label) own.0 ∙ ap (λ stamp. line_of script l stamp Inner) own.1) in
      let next : k ≡ after script l (l.stamp + 1) Inner =
      made.2.moves.next ∙ (ap (λ (label : Label). after script l line.stamp label) own.0 ∙ ap (λ stamp. after script l stamp Inner) own.1) in
      record {
        moved = inner_moved script m;
        is = own_move_is script m made.2.moves.runs fits;
        told = inner_line script m ∙ sym told;
        stands = subst (λ (it : DomainState). StandsFor script new_texts new it) (next ∙ sym (inner_next script m)) made.1;
        stamp = inner_stamp script m;
      })

  -- and its lines of the trace can be written: what they show is known, and the table is the one with which the script starts
  pub turn_can_trace : IsRunnable script → (names : List TextId) → names ≡ script.names → (l : DomainState) → StandsFor script old_texts old l → CanTrace new_texts names line.did
  turn_can_trace runnable names same l stands = (
      let made = makes l stands in
      let own = came_inner l line.stamp made.2.label before behind made.2.came in
      let well : StandsWell script l = stands.well made.2.moves.runs in
      let noted : Noted = record { line = line; label = made.2.label; away = None; from = 0 } in
      let tells : MovesTexted script l noted made.0 = moves_tell_known script l made.0 noted runnable well own.0 made.2.moves in
      let table : opening_texts script ≡ new_texts = sym well.texted.table ∙ (sym tells.same ∙ made.1.mirrors.texts) in
      subst (λ (t : List (List ℕ)). CanTrace t names line.did) table
      (subst (λ (ids : List TextId). CanTrace (opening_texts script) ids line.did) (sym same) (known_have_texts.lines script line.did tells.call)))

-- the names of a script stand in a table that has its texts
pub names_stand : (n : ℕ) (texts : List (List ℕ)) (names : List TextId) → n ≤ length texts → Each (IsAmong n) names → All (HasText texts) names
names_stand n texts names within among = All-from_recursion (HasText texts) names (each names among)
  where
    each : (ids : List TextId) → Each (IsAmong n) ids → Each (HasText texts) ids
    each [] are = tt
    each (id ∷ ids) are = (omega (arith, are.0), each ids are.1)

-- ## The run so far

-- what was written, what is held back, and what is left are parts of the whole run
pub record IsPart (script : Script) (steps : ℕ) (old now : Option (List ℕ)) (pending : List ℕ) (made : ℕ) (texts : List (List ℕ)) (kept : KeptDomain) : Type 0 where
  pub state : Mock
  pub stands : StandsFor script texts kept state.local
  pub before : List Moved
  pub passed : PassesOn old now [] (trace script before) pending
  pub goes : moves script steps (opening script) ≡ before ++ moves script (steps - made) state
  pub leads : last_after (opening script) (moves script steps (opening script)) ≡ last_after state (moves script (steps - made) state)
  pub lines : kept.lines ≡ made
  pub stamp : kept.stamp ≡ made
  pub budget : kept.budget ≡ steps

-- the whole run was written or is held back, and has come to what is stood for
pub record IsWhole (script : Script) (steps : ℕ) (old now : Option (List ℕ)) (pending : List ℕ) (texts : List (List ℕ)) (kept : KeptDomain) : Type 0 where
  pub state : Mock
  pub stands : StandsFor script texts kept state.local
  pub passed : PassesOn old now [] (trace script (run script steps).moves) pending
  pub last : (run script steps).last ≡ state

run_moves : (script : Script) (n : ℕ) → (run script n).moves ≡ moves script n (opening script)
unfolding run
run_moves script n = refl

run_last : (script : Script) (n : ℕ) → (run script n).last ≡ last_after (opening script) (moves script n (opening script))
unfolding run
run_last script n = refl

trace_both : (script : Script) (first second : List Moved) → trace script (first ++ second) ≡ trace script first ++ trace script second
trace_both script first second = flat_map-append (written_by script) first second

trace_one : (script : Script) (moved : Moved) → trace script (moved ∷ []) ≡ written_by script moved
trace_one script moved = append-nil (written_by script moved)

-- ## Its beginning

first_is : (bodies : List Block) → unwrap_or (slice_get bodies 0) (Begins 0 Done) ≡ first_body bodies
first_is [] = refl
first_is (main ∷ others) = refl

-- before the first move nothing was written, and nothing is held back
pub part_opens : (script : Script) (steps : ℕ) (old : Option (List ℕ)) (pending : List ℕ) (texts : List (List ℕ)) (kept : KeptDomain) → pending ≡ [] → texts ≡ opening_texts script → Starts script 0 steps true kept
    → IsPart script steps old old pending 0 texts kept
part_opens script steps old pending texts kept none table starts = (
    let all : steps - 0 ≡ steps = omega arith in
    let main : body_of script 0 ≡ first_body script.bodies = first_is script.bodies in
    record {
      state = opening script;
      stands =
          subst (λ (t : List (List ℕ)). StandsFor script t kept (opening script).local) (sym table)
          (subst (λ (body : Block). StandsFor script (opening_texts script) kept (opening_domain 0 (opening_texts script) body)) main starts.stands);
      before = [];
      passed = subst (λ (bs : List ℕ). PassesOn old old [] [] bs) (sym none) (passes_none old []);
      goes = ap (λ n. moves script n (opening script)) (sym all);
      leads = ap (λ n. last_after (opening script) (moves script n (opening script))) (sym all);
      lines = starts.lines;
      stamp = starts.stamp;
      budget = starts.budget;
    })

-- a table that has grown has the texts of the script still
pub grown_has : (n : ℕ) (old new : List (List ℕ)) → IsGrown old new → n ≤ length old → n ≤ length new
grown_has n old new grown within = (let all : length new ≡ length (old ++ grown.more) = ap length grown.is in omega (arith, length-append old grown.more))

-- ## Its end

module _ (script : Script) (steps : ℕ) (old now : Option (List ℕ)) (pending : List ℕ) (made : ℕ) (texts : List (List ℕ)) (kept : KeptDomain) (part : IsPart script steps old now pending made texts kept) where
  -- nothing is left
  over : moves script (steps - made) part.state ≡ [] → IsWhole script steps old now pending texts kept
  over none = record {
    state = part.state;
    stands = part.stands;
    passed =
        subst (λ (xs : List Moved). PassesOn old now [] (trace script xs) pending)
        (sym (run_moves script steps ∙ (part.goes ∙ (ap (λ xs. part.before ++ xs) none ∙ append-nil part.before)))) part.passed;
    last = run_last script steps ∙ (part.leads ∙ ap (λ xs. last_after part.state xs) none);
  }

  -- as many moves were made as may be
  pub whole_spent : steps ≤ made → IsWhole script steps old now pending texts kept
  whole_spent all = (let none : steps - made ≡ 0 = omega arith in over (ap (λ n. moves script n part.state) none ∙ moves_zero script part.state))

  -- no move is possible
  pub whole_still : move script part.state ≡ None → IsWhole script steps old now pending texts kept
  whole_still none = over (moves_none script part.state (steps - made) none)

  whole_trace : trace script (run script steps).moves ≡ trace script part.before ++ trace script (moves script (steps - made) part.state)
  whole_trace = ap (trace script) (run_moves script steps ∙ part.goes) ∙ trace_both script part.before (moves script (steps - made) part.state)

  -- what was written is a front of the whole trace
  pub part_front : AppendsFront old now (trace script (run script steps).moves)
  part_front = subst (AppendsFront old now) (sym whole_trace) (front_longer old now _ _ (front_written old now [] _ pending part.passed))

-- ## One move more

module _ (script : Script) (steps : ℕ) (old mid now : Option (List ℕ)) (pending : List ℕ) (made : ℕ) (texts new_texts : List (List ℕ)) (kept new : KeptDomain)
    (part : IsPart script steps old mid pending made texts kept) (more : made < steps) (line : Line) (moved : IsMoved script part.state line new_texts new) where
  left_behind : moves script (steps - made) part.state ≡ moved.moved ∷ moves script (steps - (made + 1)) moved.moved.next
  left_behind = (
      let one : steps - made ≡ suc (steps - (made + 1)) = omega arith in
      ap (λ n. moves script n part.state) one ∙ moves_some script part.state (steps - (made + 1)) moved.moved moved.is)

  -- its lines of the trace
  written_is : (names : List TextId) → names ≡ script.names → trace_text new_texts names line ≡ written_by script moved.moved
  written_is names same =
      ap (λ (ids : List TextId). trace_text new_texts ids line) same
      ∙ (ap (λ (it : Line). trace_text new_texts script.names it) (sym moved.told)
      ∙ ap (λ (t : List (List ℕ)). trace_text t script.names moved.moved.line) (sym moved.stands.mirrors.texts))

  pub part_moves : (left : List ℕ) (names : List TextId) → names ≡ script.names → PassesOn mid now pending (trace_text new_texts names line) left → new.lines ≡ kept.lines + 1 → new.budget ≡ kept.budget
      → IsPart script steps old now left (made + 1) new_texts new
  part_moves left names same passed lines budget = (
      let rest = moves script (steps - (made + 1)) moved.moved.next in
      let traced : trace script (part.before ++ moved.moved ∷ []) ≡ trace script part.before ++ written_by script moved.moved =
      trace_both script part.before (moved.moved ∷ []) ∙ ap (λ xs. trace script part.before ++ xs) (trace_one script moved.moved) in
      record {
        state = moved.moved.next;
        stands = moved.stands;
        before = part.before ++ moved.moved ∷ [];
        passed =
            subst (λ (bs : List ℕ). PassesOn old now [] bs left) (sym traced)
            (passes_more old mid now [] _ pending _ part.passed left (subst (λ (bs : List ℕ). PassesOn mid now pending bs left) (written_is names same) passed));
        goes = part.goes ∙ (ap (λ xs. part.before ++ xs) left_behind ∙ sym (append_assoc part.before (moved.moved ∷ []) rest));
        leads = part.leads ∙ ap (λ xs. last_after part.state xs) left_behind;
        lines = lines ∙ ap (λ n. n + 1) part.lines;
        stamp = sym moved.stands.mirrors.stamp ∙ (moved.stamp ∙ ap (λ n. n + 1) (part.stands.mirrors.stamp ∙ part.stamp));
        budget = budget ∙ part.budget;
      })

  -- the same where only a front of its lines was written
  pub part_front_moves : (names : List TextId) → names ≡ script.names → AppendsFront mid now (pending ++ trace_text new_texts names line) → AppendsFront old now (trace script (run script steps).moves)
  part_front_moves names same front = (
      let rest = moves script (steps - (made + 1)) moved.moved.next in
      let traced : trace script (run script steps).moves ≡ (trace script part.before ++ written_by script moved.moved) ++ trace script rest =
      ap (trace script) (run_moves script steps ∙ (part.goes ∙ ap (λ xs. part.before ++ xs) left_behind))
      ∙ (trace_both script part.before (moved.moved ∷ rest) ∙ sym (append_assoc (trace script part.before) (written_by script moved.moved) (trace script rest))) in
      subst (AppendsFront old now) (sym traced)
      (front_longer old now _ _ (front_passed old mid now [] _ pending _ part.passed (subst (λ (bs : List ℕ). AppendsFront mid now (pending ++ bs)) (written_is names same) front))))

-- ## A turn that made no line

module _ (script : Script) (steps : ℕ) (old now : Option (List ℕ)) (pending : List ℕ) (made : ℕ) (texts new_texts : List (List ℕ)) (kept new : KeptDomain) (before behind : Local)
    (part : IsPart script steps old now pending made texts kept) where
  stays : new_texts ≡ texts → new ≡ kept → IsWhole script steps old now pending texts kept → IsWhole script steps old now pending new_texts new
  stays same_texts same_kept whole =
      subst (λ (t : List (List ℕ)). IsWhole script steps old now pending t new) (sym same_texts) (subst (λ (k : KeptDomain). IsWhole script steps old now pending texts k) (sym same_kept) whole)

  pub whole_idle : Turns Calls Strikes Receives Asks Learns script turn.Idle texts new_texts kept new before behind → IsWhole script steps old now pending new_texts new
  whole_idle it =
      stays it.1.0 it.1.1
      (whole_still script steps old now pending made texts kept part (idle_move_is script part.state (part.stands.mirrors.halted ∙ it.0.0) (it.3 part.state.local part.stands).1))

  -- it may make as many lines as the run has moves
  pub whole_budget : made < steps → Turns Calls Strikes Receives Asks Learns script turn.Spent texts new_texts kept new before behind → IsWhole script steps old now pending new_texts new
  whole_budget more it = (let all : made ≡ steps = sym part.lines ∙ (it.1 ∙ part.budget) in absurd (omega arith))

  pub whole_halted : Turns Calls Strikes Receives Asks Learns script turn.Halted texts new_texts kept new before behind → IsWhole script steps old now pending new_texts new
  whole_halted it =
      stays it.1.0 it.1.1 (whole_still script steps old now pending made texts kept part (halted_move_is script part.state (part.stands.mirrors.halted ∙ it.0)))

-- ## Faults

-- a run that stopped wrote a front of its text
pub writes_failed : {T : Type 0} (old now : Option (List ℕ)) (text : List ℕ) (result : Result T RunFault) → IsErr result → AppendsFront old now text → WritesText old now text result
writes_failed old now text (Ok x) failed front = cc
writes_failed old now text (Err it) failed front = front

rose_before : (first mid now : ℕ) (it : RunFault) → first ≤ mid → RoseAtFault {T = ℕ} mid now (Err it) → RoseAtFault {T = ℕ} first now (Err it)
rose_before first mid now fault.WriteFault later rose = omega arith
rose_before first mid now fault.NoMemory later rose = tt

same_rose : (T U : Type 0) (before now : ℕ) (it : RunFault) → RoseAtFault {T = U} before now (Err it) → RoseAtFault {T = T} before now (Err it)
same_rose T U before now fault.WriteFault rose = rose
same_rose T U before now fault.NoMemory rose = tt

-- the count never fell before either
pub cause_before : {T U : Type 0} (first mid now : ℕ) (result : Result T RunFault) (made it : RunFault) → result ≡ Err made → made ≡ it → first ≤ mid → HasRunCause {T = U} mid now (Err it) → HasRunCause first now result
cause_before {T} {U} first mid now result made it is same later cause =
    let own : HasRunCause {T = T} first now (Err it) = record {
      later = omega (arith, cause.later);
      failed = same_rose T ℕ first now it (rose_before first mid now it later (same_rose ℕ U mid now it cause.failed));
    } in
    subst (λ (r : Result T RunFault). HasRunCause first now r) (sym (is ∙ ap Err same)) own
