-- The moves of a reader's call end as the bytes to come say.
-- The idea: a move that goes on leaves the bytes to come as they were, and what decides a call stays decided by all of them.
use Rattle.std.proofs.Common.{◌≡◌, ◌≢◌, ℕ, zero, suc, ◌≤◌, List, [], ◌∷◌, ◌++◌, length, Bool, true, false, Option, Some, None, refl, ap, sym, ◌∙◌, subst, arith, append_assoc, append-nil, inl, inr}
use Rattle.std.specs.Prelude.{◌⊎◌}
use Rattle.eio_value.specs.declared.flow_step.FlowStep.{FlowStep}
use Rattle.eio_value.specs.declared.flow_step.FlowStep.TheVariants.{Data, Fault, Pause}
use Rattle.eio_value.specs.declared.value.TextId.{TextId}
use Rattle.spec_parts.specs.BytesToCome.{ReaderCall, Item, Bytes, Flag, EndOfFile, BufferLimit, NeedMore, Taken, taken, ToCome, with_front, bytes_to_come, Answer, Gives, Fails, unless_undecided, answer}
use Rattle.spec_parts.specs.Flows.{next_step, behind_next}
use Rattle.spec_parts.specs.Readers.{Reader, feed, finish, item, after_item, still_to_come, Reading, Answers, ReadsOn, GivesWay, Raises, MeetsClosed, Read, answered_or, read_once, read_open, read_move}
use Rattle.buf_flow.specs.Cuts.{with_behind}
use Rattle.buf_flow.specs.Moves.{unless_goes_on, last_move, IsOpen, EndsAs, CallsEndByBytesToCome}
use Rattle.buf_flow.proofs.Cutting.{given_of_all}
use Rattle.buf_flow.proofs.Deciding.{decided_stays, end_decides, undecided_leaves}

-- a call that this item answers
abbrev given_now : ReaderCall → (shown : Option (List ℕ)) → Reader → List FlowStep → Item → Read
given_now call shown reader steps i = record { reading = Answers i; shown = shown; reader = after_item call reader; steps = steps }

-- this, where the item is `NeedMore`, else what the item gives
abbrev unless_given : Item → Read → (Item → Read) → Read
unless_given NeedMore undecided given = undecided
unless_given (Bytes bytes) undecided given = given (Bytes bytes)
unless_given (Flag flag) undecided given = given (Flag flag)
unless_given EndOfFile undecided given = given EndOfFile
unless_given BufferLimit undecided given = given BufferLimit

by_item : (i : Item) (undecided : Read) (given : Item → Read) → (let r : Read = elim i [ NeedMore ↦ undecided | g ↦ given g ] in r) ≡ unless_given i undecided given
by_item NeedMore undecided given = refl
by_item (Bytes bytes) undecided given = refl
by_item (Flag flag) undecided given = refl
by_item EndOfFile undecided given = refl
by_item BufferLimit undecided given = refl

given_by : (i : Item) (undecided : Read) (given : Item → Read) → i ≢ NeedMore → unless_given i undecided given ≡ given i
given_by NeedMore undecided given decided = absurd (decided refl)
given_by (Bytes bytes) undecided given decided = refl
given_by (Flag flag) undecided given decided = refl
given_by EndOfFile undecided given decided = refl
given_by BufferLimit undecided given decided = refl

by_closed : (closed : Bool) (shut open_still : Read) → closed ≡ false → (let r : Read = elim closed [ true ↦ shut | false ↦ open_still ] in r) ≡ open_still
by_closed true shut open_still same = absurd (cc)
by_closed false shut open_still same = refl

-- a move of a call that the bytes before it decide
decided_move : (call : ReaderCall) (reader : Reader) (steps : List FlowStep) → reader.closed ≡ false → item call reader ≢ NeedMore → read_move call reader steps ≡ given_now call None reader steps (item call reader)
decided_move call reader steps open_still decided =
    by_closed reader.closed (record { reading = MeetsClosed; shown = None; reader = reader; steps = steps }) (read_open call reader steps) open_still
    ∙ (by_item (item call reader) (read_once call reader (next_step steps) (behind_next steps)) (given_now call None reader steps)
    ∙ given_by (item call reader) (read_once call reader (next_step steps) (behind_next steps)) (given_now call None reader steps) decided)

-- any other makes a read
reading_move : (call : ReaderCall) (reader : Reader) (steps : List FlowStep) → reader.closed ≡ false → item call reader ≡ NeedMore → read_move call reader steps ≡ read_once call reader (next_step steps) (behind_next steps)
reading_move call reader steps open_still undecided =
    by_closed reader.closed (record { reading = MeetsClosed; shown = None; reader = reader; steps = steps }) (read_open call reader steps) open_still
    ∙ (by_item (item call reader) (read_once call reader (next_step steps) (behind_next steps)) (given_now call None reader steps)
    ∙ ap (λ i. unless_given i (read_once call reader (next_step steps) (behind_next steps)) (given_now call None reader steps)) undecided)

-- what was read answers the call, where it decides it
answered : (undecided : Reading) (call : ReaderCall) (shown : Option (List ℕ)) (reader : Reader) (steps : List FlowStep) → item call reader ≢ NeedMore → answered_or undecided call shown reader steps ≡ given_now call shown reader steps (item call reader)
answered undecided call shown reader steps decided =
    by_item (item call reader) (record { reading = undecided; shown = shown; reader = reader; steps = steps }) (given_now call shown reader steps)
    ∙ given_by (item call reader) (record { reading = undecided; shown = shown; reader = reader; steps = steps }) (given_now call shown reader steps) decided

unanswered : (undecided : Reading) (call : ReaderCall) (shown : Option (List ℕ)) (reader : Reader) (steps : List FlowStep) → item call reader ≡ NeedMore → answered_or undecided call shown reader steps ≡ record { reading = undecided; shown = shown; reader = reader; steps = steps }
unanswered undecided call shown reader steps same =
    by_item (item call reader) (record { reading = undecided; shown = shown; reader = reader; steps = steps }) (given_now call shown reader steps)
    ∙ ap (λ i. unless_given i (record { reading = undecided; shown = shown; reader = reader; steps = steps }) (given_now call shown reader steps)) same

-- a call ends with a move behind which it doesn't go on
stops : (moves : ℕ) (call : ReaderCall) (reader : Reader) (steps : List FlowStep) (end : Read) → read_move call reader steps ≡ end → ((again now : Read) → unless_goes_on end.reading again now ≡ now) → last_move moves call reader steps ≡ end
stops zero call reader steps end is over = is
stops (suc moves) call reader steps end is over =
    ap (λ (now : Read). unless_goes_on now.reading (last_move moves call now.reader now.steps) now) is ∙ over (last_move moves call end.reader end.steps) end

goes_on : (moves : ℕ) (call : ReaderCall) (reader : Reader) (steps : List FlowStep) (move : Read) → read_move call reader steps ≡ move → ((again now : Read) → unless_goes_on move.reading again now ≡ again) → last_move (suc moves) call reader steps ≡ last_move moves call move.reader move.steps
goes_on moves call reader steps move is on =
    ap (λ (now : Read). unless_goes_on now.reading (last_move moves call now.reader now.steps) now) is ∙ on (last_move moves call move.reader move.steps) move

decided_gives : (text : TextId) (t : Taken) (i : Item) → t.item ≡ i → i ≢ NeedMore → unless_undecided text t ≡ Gives t
decided_gives text t i same decided = by_case t.item (λ undecided. decided (sym same ∙ undecided)) where
  by_case : (i : Item) → i ≢ NeedMore → (let a : Answer = elim i [ NeedMore ↦ Fails text t.left | _ ↦ Gives t ] in a) ≡ Gives t
  by_case NeedMore decided = absurd (decided refl)
  by_case (Bytes bytes) decided = refl
  by_case (Flag flag) decided = refl
  by_case EndOfFile decided = refl
  by_case BufferLimit decided = refl

undecided_fails : (text : TextId) (t : Taken) → t.item ≡ NeedMore → unless_undecided text t ≡ Fails text t.left
undecided_fails text t same = ap by_case same where
  by_case : Item → Answer
  by_case i = elim i [ NeedMore ↦ Fails text t.left | _ ↦ Gives t ]

-- a fault behind what decides a call isn't raised
before_fault : (text : TextId) (most : ℕ) (over : Bool) (call : ReaderCall) (bytes more : List ℕ) → over ≡ false → (taken most over call bytes).item ≢ NeedMore → unless_undecided text (taken most false call (bytes ++ more)) ≡ Gives (with_behind more (taken most over call bytes))
before_fault text most true call bytes more same decided = absurd (cc)
before_fault text most false call bytes more same decided =
    ap (unless_undecided text) (decided_stays most call bytes more false decided) ∙ decided_gives text (with_behind more (taken most false call bytes)) (taken most false call bytes).item refl decided

not_over : (over : Bool) → ¬ (over ≡ true) → over ≡ false
not_over true open_still = absurd (open_still refl)
not_over false open_still = refl

-- what a call gives that the bytes before it decide, as the answer by all bytes to come
decided_answer : (most : ℕ) (over : Bool) (call : ReaderCall) (bytes : List ℕ) (come : ToCome) → (over ≡ true → come ≡ record { bytes = []; fault = None }) → (taken most over call bytes).item ≢ NeedMore → answer most call (with_front bytes come) ≡ Gives (with_behind come.bytes (taken most over call bytes))
decided_answer most over call bytes come last decided = by_fault come.fault refl where
  by_fault : (fault : Option TextId) → come.fault ≡ fault → (let a : Answer = elim fault [ None ↦ Gives (taken most true call (bytes ++ come.bytes)) | Some text ↦ unless_undecided text (taken most false call (bytes ++ come.bytes)) ] in a) ≡ Gives (with_behind come.bytes (taken most over call bytes))
  by_fault None same = ap Gives (given_of_all most over call bytes come.bytes (λ is. ap (λ (c : ToCome). c.bytes) (last is)) decided)
  by_fault (Some text) same =
      before_fault text most over call bytes come.bytes (not_over over (λ is. let none : Some text ≡ None = sym same ∙ ap (λ (c : ToCome). c.fault) (last is) in cc)) decided

none_to_come : (steps : List FlowStep) → steps ≡ [] → bytes_to_come steps ≡ record { bytes = []; fault = None }
unfolding bytes_to_come
none_to_come steps none = ap bytes_to_come none

-- where the bytes that were read decide the call, it ends as the bytes to come say
decided_ends : (call : ReaderCall) (shown : Option (List ℕ)) (reader : Reader) (steps : List FlowStep) → IsOpen reader steps → item call reader ≢ NeedMore → EndsAs (answer reader.most call (still_to_come reader steps)) (still_to_come reader steps).fault (given_now call shown reader steps (item call reader))
decided_ends call shown reader steps open_still decided =
    let by : answer reader.most call (still_to_come reader steps) ≡ Gives (with_behind (bytes_to_come steps).bytes (taken reader.most reader.over call reader.bytes)) = decided_answer reader.most reader.over call reader.bytes (bytes_to_come steps) (λ over. none_to_come steps (open_still.last over)) decided in
    subst (λ a. EndsAs a (still_to_come reader steps).fault (given_now call shown reader steps (item call reader))) (sym by)
    (refl, refl, record { open_still = open_still.open_still; last = open_still.last })

-- where they don't, the end wasn't read
still_reading : (call : ReaderCall) (reader : Reader) → item call reader ≡ NeedMore → reader.over ≡ false
still_reading call reader undecided = by_over reader.over refl where
  by_over : (over : Bool) → reader.over ≡ over → over ≡ false
  by_over true is = absurd (end_decides reader.most call reader.bytes (ap (λ o. (taken reader.most o call reader.bytes).item) (sym is) ∙ undecided))
  by_over false is = refl

-- the end is read
ends_at_end : (moves : ℕ) (call : ReaderCall) (reader : Reader) → IsOpen reader [] → item call reader ≡ NeedMore → EndsAs (answer reader.most call (still_to_come reader [])) (still_to_come reader []).fault (last_move moves call reader [])
ends_at_end moves call reader open_still undecided =
    let decided : item call (finish reader) ≢ NeedMore = end_decides reader.most call reader.bytes in
    let end : Read = given_now call None (finish reader) [] (item call (finish reader)) in
    let is : last_move moves call reader [] ≡ end = stops moves call reader [] end (reading_move call reader [] open_still.open_still undecided ∙ answered ReadsOn call None (finish reader) [] decided) (λ again now. refl) in
    subst (EndsAs (answer reader.most call (still_to_come reader [])) (still_to_come reader []).fault) (sym is)
    (decided_ends call None (finish reader) [] (record { open_still = open_still.open_still; last = λ over. refl }) decided)

-- a fault is read
ends_at_fault : (moves : ℕ) (call : ReaderCall) (reader : Reader) (text : TextId) (steps : List FlowStep) → IsOpen reader (Fault text ∷ steps) → item call reader ≡ NeedMore → EndsAs (answer reader.most call (still_to_come reader (Fault text ∷ steps))) (still_to_come reader (Fault text ∷ steps)).fault (last_move moves call reader (Fault text ∷ steps))
unfolding bytes_to_come
ends_at_fault moves call reader text steps open_still undecided =
    let end : Read = record { reading = Raises text; shown = None; reader = reader; steps = steps } in
    let is : last_move moves call reader (Fault text ∷ steps) ≡ end = stops moves call reader (Fault text ∷ steps) end (reading_move call reader (Fault text ∷ steps) open_still.open_still undecided) (λ again now. refl) in
    let t : Taken = taken reader.most false call (reader.bytes ++ []) in
    let same : t ≡ taken reader.most reader.over call reader.bytes = ap (taken reader.most false call) (append-nil reader.bytes) ∙ ap (λ over. taken reader.most over call reader.bytes) (sym (still_reading call reader undecided)) in
    let none : t.item ≡ NeedMore = ap (λ (x : Taken). x.item) same ∙ undecided in
    let stays : t.left ≡ reader.bytes = ap (λ (x : Taken). x.left) same ∙ undecided_leaves reader.most reader.over call reader.bytes undecided in
    subst (EndsAs (answer reader.most call (still_to_come reader (Fault text ∷ steps))) (Some text)) (sym is)
    (subst (λ a. EndsAs a (Some text) end) (sym (undecided_fails text t none)) (refl, sym stays))

is_decided : (i : Item) → (i ≡ NeedMore) ⊎ (i ≢ NeedMore)
is_decided NeedMore = inl refl
is_decided (Bytes bytes) = inr (λ same. cc)
is_decided (Flag flag) = inr (λ same. cc)
is_decided EndOfFile = inr (λ same. cc)
is_decided BufferLimit = inr (λ same. cc)

-- the bytes before a call decide it
ends_at_once : (moves : ℕ) (call : ReaderCall) (reader : Reader) (steps : List FlowStep) → IsOpen reader steps → item call reader ≢ NeedMore → EndsAs (answer reader.most call (still_to_come reader steps)) (still_to_come reader steps).fault (last_move moves call reader steps)
ends_at_once moves call reader steps open_still decided =
    let end : Read = given_now call None reader steps (item call reader) in
    let is : last_move moves call reader steps ≡ end = stops moves call reader steps end (decided_move call reader steps open_still.open_still decided) (λ again now. refl) in
    subst (EndsAs (answer reader.most call (still_to_come reader steps)) (still_to_come reader steps).fault) (sym is) (decided_ends call None reader steps open_still decided)

-- bytes are read that decide the call
ends_with_bytes : (moves : ℕ) (call : ReaderCall) (reader : Reader) (bytes : List ℕ) (steps : List FlowStep) → IsOpen reader (Data bytes ∷ steps) → item call reader ≡ NeedMore → IsOpen (feed bytes reader) steps → item call (feed bytes reader) ≢ NeedMore → EndsAs (answer reader.most call (still_to_come (feed bytes reader) steps)) (still_to_come (feed bytes reader) steps).fault (last_move moves call reader (Data bytes ∷ steps))
ends_with_bytes moves call reader bytes steps open_still undecided open_then decided =
    let end : Read = given_now call (Some bytes) (feed bytes reader) steps (item call (feed bytes reader)) in
    let is : last_move moves call reader (Data bytes ∷ steps) ≡ end = stops moves call reader (Data bytes ∷ steps) end (reading_move call reader (Data bytes ∷ steps) open_still.open_still undecided ∙ answered ReadsOn call (Some bytes) (feed bytes reader) steps decided) (λ again now. refl) in
    subst (EndsAs (answer reader.most call (still_to_come (feed bytes reader) steps)) (still_to_come (feed bytes reader) steps).fault) (sym is) (decided_ends call (Some bytes) (feed bytes reader) steps open_then decided)

-- bytes that are read are the first of those to come
fed_to_come : (reader : Reader) (bytes : List ℕ) (steps : List FlowStep) → still_to_come (feed bytes reader) steps ≡ still_to_come reader (Data bytes ∷ steps)
unfolding bytes_to_come
fed_to_come reader bytes steps = ap (λ bs. let c : ToCome = record { bytes = bs; fault = (bytes_to_come steps).fault } in c) (append_assoc reader.bytes bytes (bytes_to_come steps).bytes)

pause_to_come : (reader : Reader) (steps : List FlowStep) → still_to_come reader steps ≡ still_to_come reader (Pause ∷ steps)
unfolding bytes_to_come
pause_to_come reader steps = refl

-- the same of the same bytes to come
carry : (most : ℕ) (call : ReaderCall) (before after : ToCome) (one other : Read) → after ≡ before → one ≡ other → EndsAs (answer most call after) after.fault other → EndsAs (answer most call before) before.fault one
carry most call before after one other come same ends =
    subst (EndsAs (answer most call before) before.fault) (sym same) (subst (λ (c : ToCome). EndsAs (answer most call c) c.fault other) come ends)

rest_open : (step : FlowStep) (steps : List FlowStep) (reader : Reader) → IsOpen reader (step ∷ steps) → IsOpen reader steps
rest_open step steps reader open_still = record {
  open_still = open_still.open_still;
  last = λ over. absurd (let none : step ∷ steps ≡ [] = open_still.last over in cc);
}

ends : (steps : List FlowStep) (moves : ℕ) (call : ReaderCall) (reader : Reader) → length steps ≤ moves → IsOpen reader steps → EndsAs (answer reader.most call (still_to_come reader steps)) (still_to_come reader steps).fault (last_move moves call reader steps)
ends [] moves call reader enough open_still = elim (is_decided (item call reader)) [
  | inl undecided ↦ ends_at_end moves call reader open_still undecided
  | inr decided ↦ ends_at_once moves call reader [] open_still decided
]
ends (Fault text ∷ steps) moves call reader enough open_still = elim (is_decided (item call reader)) [
  | inl undecided ↦ ends_at_fault moves call reader text steps open_still undecided
  | inr decided ↦ ends_at_once moves call reader (Fault text ∷ steps) open_still decided
]
ends (Pause ∷ steps) zero call reader enough open_still = absurd (omega (arith, enough))
ends (Pause ∷ steps) (suc moves) call reader enough open_still = elim (is_decided (item call reader)) [
  | inl undecided ↦
      let move : Read = record { reading = GivesWay; shown = None; reader = reader; steps = steps } in
      carry reader.most call (still_to_come reader (Pause ∷ steps)) (still_to_come reader steps) (last_move (suc moves) call reader (Pause ∷ steps)) (last_move moves call reader steps)
      (pause_to_come reader steps)
      (goes_on moves call reader (Pause ∷ steps) move (reading_move call reader (Pause ∷ steps) open_still.open_still undecided) (λ again now. refl))
      (ends steps moves call reader (omega (arith, enough)) (rest_open Pause steps reader open_still))
  | inr decided ↦ ends_at_once (suc moves) call reader (Pause ∷ steps) open_still decided
]
ends (Data bytes ∷ steps) zero call reader enough open_still = absurd (omega (arith, enough))
ends (Data bytes ∷ steps) (suc moves) call reader enough open_still = elim (is_decided (item call reader)) [
  | inl undecided ↦
      let rest : IsOpen reader steps = rest_open (Data bytes) steps reader open_still in
      let fed : IsOpen (feed bytes reader) steps = record { open_still = rest.open_still; last = rest.last } in
      carry reader.most call (still_to_come reader (Data bytes ∷ steps)) (still_to_come (feed bytes reader) steps) (last_move (suc moves) call reader (Data bytes ∷ steps)) (last_move (suc moves) call reader (Data bytes ∷ steps))
      (fed_to_come reader bytes steps)
      refl
      (elim (is_decided (item call (feed bytes reader))) [
        | inl still ↦
            let move : Read = record { reading = ReadsOn; shown = Some bytes; reader = feed bytes reader; steps = steps } in
            carry reader.most call (still_to_come (feed bytes reader) steps) (still_to_come (feed bytes reader) steps) (last_move (suc moves) call reader (Data bytes ∷ steps)) (last_move moves call (feed bytes reader) steps)
            refl
            (goes_on moves call reader (Data bytes ∷ steps) move (reading_move call reader (Data bytes ∷ steps) open_still.open_still undecided ∙ unanswered ReadsOn call (Some bytes) (feed bytes reader) steps still) (λ again now. refl))
            (ends steps moves call (feed bytes reader) (omega (arith, enough)) fed)
        | inr decided ↦ ends_with_bytes (suc moves) call reader bytes steps open_still undecided fed decided
      ])
  | inr decided ↦ ends_at_once (suc moves) call reader (Data bytes ∷ steps) open_still decided
]

pub calls_end_by_bytes_to_come : CallsEndByBytesToCome
calls_end_by_bytes_to_come moves call reader steps = ends steps moves call reader
