-- Calls after which all variables hold what they are to hold, those on switches aside.
use Rattle.std.proofs.Common.{◌≡◌, ℕ, ◌+◌, Bool, true, false, List, [], ◌∷◌, ◌++◌, IsTrue, length, slice_set, nat_lt, Option, Some, None, lt-ltb, arith}
use Rattle.std.specs.Prelude.{All}
use Rattle.std.proofs.lemmas.List.{length_push}
use Rattle.eio_value.specs.declared.plain.Plain.{Plain}
use Rattle.eio_value.specs.declared.plain.Plain.TheVariants.{Failure, Invalid}
use Rattle.eio_value.specs.declared.plain.Misuse.TheVariants.{ContextFinished}
use Rattle.eio_value.specs.declared.raised.Outcome.{Outcome}
use Rattle.eio_value.specs.declared.raised.Outcome.TheVariants as outcome
use Rattle.eio_value.specs.declared.raised.Raised.{Raised}
use Rattle.eio_value.specs.declared.value.TextId.{TextId}
use Rattle.eio_value.specs.declared.value.Value.{Value}
use Rattle.eio_value.specs.declared.value.Value.TheVariants as value
use Rattle.eio_value.specs.Exceptions.{reason}
use Rattle.spec_parts.specs.Contexts as contexts
use Rattle.spec_parts.specs.Contexts.{Context, Made, cancel, end, is_full, is_live, new_context}
use Rattle.spec_parts.specs.Errors.{joined}
use Rattle.spec_parts.specs.Switches.{Switch, switch_at, never_opened, opened}
use Rattle.spec_script.specs.Scripts.{Script}
use Rattle.spec_script.specs.Syntax.{Block}
use Rattle.spec_fiber.specs.Asks as ask
use Rattle.spec_fiber.specs.Asks.{Ask}
use Rattle.spec_fiber.specs.Replies.{Position}
use Rattle.trace_lines.specs.declared.line.Did.{Did}
use Rattle.trace_lines.specs.declared.line.Did.TheVariants as did
use Rattle.trace_lines.specs.declared.line.Said2.{Said2}
use Rattle.trace_lines.specs.declared.line.Said2.TheVariants as said
use Rattle.spec_machine.specs.Domain.{GoesOn, ForCancel, Standing, Ready, DomainState, fiber_at, off_for, stands}
use Rattle.spec_machine.specs.ContextMoves.{before_block, enters_context, leaves}
use Rattle.spec_machine.specs.Moves.{own_call}
use Rattle.spec_machine.specs.Steps.{Step, does, raises, raises_cancelled, goes_off, waits, in_new, cancels}
use Rattle.spec_machine.specs.SwitchMoves.{opens, fails, fails_with, with_switch_at}
use Rattle.law_fiber.specs.Kinded.Kinds.{HasKindsAt, HasKindOfNumber}
use Rattle.law_fiber.proofs.Kinded.Between.{kinds_stay_between}
use Rattle.law_domain.specs.Sound.BuiltForms.{HasBuiltForms}
use Rattle.law_domain.proofs.Sound.ByNumber as numbers
use Rattle.law_domain.proofs.Sound.Untouching.{cancelled_count}
use Rattle.law_domain.specs.Kinded.KindedStates.{CallsWithKinds, IsKinded, IsKindedHandler, handlers_of, made_facts, names_made, position_of}
use Rattle.law_domain.proofs.Kinded.Changing.{calls_more, kinded_contexts, kinded_moved, kinded_opened, kinded_placed, kinded_same, kinded_still, kinded_switches, set_each}

-- a fiber's call keeps it
abbrev pub CallKinded : Ask → Type 0
CallKinded call = (script : Script) → HasBuiltForms script → (g : ℕ) (l : DomainState) → IsKinded script l
    → CallsWithKinds (made_facts script (length l.switches) (length l.contexts)) call (position_of (fiber_at l.fibers g)) → IsKinded script (own_call script call g l).state

-- ## How it goes on

pub still : (script : Script) (l : DomainState) → IsKinded script l → (g : ℕ) (standing : Standing) → IsKinded script (stands standing g l)
still script l kinded g standing = kinded_still script l.fibers l.switches (length l.contexts) kinded g standing

pub trace_kinded : (values : List Value) → CallKinded (ask.Trace values)
unfolding own_call
trace_kinded values script forms g l kinded calls = still script l kinded g _

pub turn_kinded : CallKinded ask.Turn
unfolding own_call
turn_kinded script forms g l kinded calls = still script l kinded g _

pub yield_kinded : CallKinded ask.Yield
unfolding own_call
yield_kinded script forms g l kinded calls = still script l kinded g _

pub check_kinded : CallKinded ask.Check
unfolding own_call
check_kinded script forms g l kinded calls = by_off (off_for l g) where
  by_off : (why : Option Plain) → IsKinded script (elim why as (λ _. Step) [ Some why ↦ raises_cancelled did.Check why g l | None ↦ does did.Check g l ]).state
  by_off (Some why) = still script l kinded g _
  by_off None = still script l kinded g _

pub await_kinded : CallKinded ask.AwaitCancel
unfolding own_call
await_kinded script forms g l kinded calls = by_off (off_for l g) where
  by_off : (why : Option Plain)
      → IsKinded script (elim why as (λ _. Step) [ Some why ↦ goes_off did.AwaitCancel g l | None ↦ waits did.AwaitCancel ForCancel g l ]).state
  by_off (Some why) = still script l kinded g _
  by_off None = still script l kinded g _

-- ## Cancelling

pub cancels_kinded : (script : Script) (l : DomainState) → IsKinded script l → (maker c : ℕ) (why : Plain) → IsKinded script (cancels maker c why l)
cancels_kinded script l kinded maker c why = kinded_same script l.fibers l.switches (length l.contexts) (length (cancel c why l.contexts)) (cancelled_count c why l.contexts) kinded

pub cancel_kinded : (c : ℕ) (text : TextId) → CallKinded (ask.Cancel c text)
unfolding own_call
cancel_kinded c text script forms g l kinded calls = by_live (is_live l.contexts c) where
  by_live : (live : Bool) → IsKinded script (elim live as (λ _. Step) [
    | true ↦ does (did.Cancel c text) g (cancels g c (Failure text) l)
    | false ↦ raises (did.Cancel c text) (Invalid ContextFinished) g l
  ]).state
  by_live true = still script (cancels g c (Failure text) l) (cancels_kinded script l kinded g c (Failure text)) g _
  by_live false = still script l kinded g _

-- ## A switch is another one

-- with such handlers alone
pub switch_kinded : (script : Script) (l : DomainState) → IsKinded script l → (n : ℕ) (changed : Switch)
    → All (IsKindedHandler script (made_facts script (length l.switches) (length l.contexts))) (handlers_of changed) → IsKinded script (with_switch_at n changed l)
switch_kinded script l kinded n changed all =
    kinded_switches script l.fibers l.switches (length l.contexts) kinded (slice_set l.switches n changed) (numbers.set_keeps_length never_opened l.switches n changed)
    (set_each never_opened (λ s. All (IsKindedHandler script (made_facts script (length l.switches) (length l.contexts))) (handlers_of s)) l.switches n changed all kinded.handlers)

abbrev failing : Raised → Switch → Switch
failing what s = record s { errors = Some (joined s.errors what) }

pub fails_kinded : (script : Script) (l : DomainState) → IsKinded script l → (maker n : ℕ) (what : Raised) → IsKinded script (fails maker n what l)
fails_kinded script l kinded maker n what = by_finished (switch_at l.switches n).finished where
  by_finished : (finished : Bool) → IsKinded script (elim (elim finished as (λ _. Option Switch) [ true ↦ None | false ↦ Some (failing what (switch_at l.switches n)) ]) as (λ _. DomainState) [
    | None ↦ l
    | Some switch ↦ cancels maker switch.context (reason what) (with_switch_at n switch l)
  ])
  by_finished true = kinded
  by_finished false =
      cancels_kinded script (with_switch_at n (failing what (switch_at l.switches n)) l)
      (switch_kinded script l kinded n (failing what (switch_at l.switches n)) (kinded.handlers n)) maker (switch_at l.switches n).context (reason what)

pub fails_with_kinded : (script : Script) (l : DomainState) → IsKinded script l → (maker n : ℕ) (came : Option Raised) → IsKinded script (fails_with maker n came l)
fails_with_kinded script l kinded maker n None = kinded
fails_with_kinded script l kinded maker n (Some what) = fails_kinded script l kinded maker n what

-- ## Into a block

module _ (script : Script) (g : ℕ) (l : DomainState) (kinded : IsKinded script l) where
  abbrev pub with_context : (protected : Bool) → DomainState
  with_context protected = record l { contexts = l.contexts ++ new_context (Some (fiber_at l.fibers g).context) protected ∷ [] }

  pub context_count : (protected : Bool) → length (with_context protected).contexts ≡ length l.contexts + 1
  context_count protected = length_push l.contexts (new_context (Some (fiber_at l.fibers g).context) protected)

  pub context_kinded : (protected : Bool) → IsKinded script (with_context protected)
  context_kinded protected = (
      let count = context_count protected in
      kinded_contexts script l.fibers l.switches (length l.contexts) kinded (length (with_context protected).contexts) (omega (arith, count)))

  pub context_named : (protected : Bool) → IsTrue (nat_lt (length l.contexts) (length (with_context protected).contexts))
  context_named protected = (let count = context_count protected in lt-ltb (length l.contexts) (length (with_context protected).contexts) (omega (arith, count)))

  pub calls_in_context : (protected : Bool) (call : Ask) (position : Position) → CallsWithKinds (made_facts script (length l.switches) (length l.contexts)) call position
      → CallsWithKinds (made_facts script (length l.switches) (length (with_context protected).contexts)) call position
  calls_in_context protected call position calls = (
      let count = context_count protected in
      calls_more script (length l.switches) (length l.contexts) (length l.switches) (length (with_context protected).contexts) (omega arith) (omega (arith, count)) call position calls)

  -- what is made, by whether there is room
  abbrev pub made_by : (protected full : Bool) → Made
  made_by protected full = elim full [
    | true ↦ record { number = None; contexts = l.contexts }
    | false ↦ record { number = Some (length l.contexts); contexts = l.contexts ++ new_context (Some (fiber_at l.fibers g).context) protected ∷ [] }
  ]

  pub by_room : (protected : Bool) (next : (context : ℕ) → DomainState → Step) → IsKinded script (next (length l.contexts) (with_context protected)).state
      → (full : Bool) → IsKinded script (in_new (made_by protected full) g l next).state
  by_room protected next goes true = kinded
  by_room protected next goes false = goes

  -- the position before a block, by what the call has
  enters_kinded : (protected : Bool) (call : Ask) (number : ℕ) → CallsWithKinds (made_facts script (length l.switches) (length l.contexts)) call (position_of (fiber_at l.fibers g))
      → HasKindOfNumber (made_facts script (length l.switches) (length (with_context protected).contexts)) call number
      → HasKindsAt (made_facts script (length l.switches) (length (with_context protected).contexts)) (before_block call number g (with_context protected))
  enters_kinded protected call number calls named = (
      let has = calls_in_context protected call (position_of (fiber_at l.fibers g)) calls in
      kinds_stay_between.enters script (names_made (length l.switches) (length (with_context protected).contexts)) has.slots call number
      (fiber_at l.fibers g).work (fiber_at l.fibers g).variables has.names named has.variables has.work)

  pub into_kinded : (protected : Bool) (call : Ask) (number : ℕ) → CallsWithKinds (made_facts script (length l.switches) (length l.contexts)) call (position_of (fiber_at l.fibers g))
      → HasKindOfNumber (made_facts script (length l.switches) (length (with_context protected).contexts)) call number
      → (it : Did) (reply : Said2) → IsKinded script (enters_context it reply (length l.contexts) (before_block call number g (with_context protected)) g (with_context protected)).state
  into_kinded protected call number calls named it reply =
      kinded_placed script l.fibers l.switches (length (with_context protected).contexts) (context_kinded protected) g (length l.contexts)
      (before_block call number g (with_context protected)) (Ready (GoesOn (outcome.Ok value.Unit))) (enters_kinded protected call number calls named)

pub protect_kinded : (body : Block) → CallKinded (ask.Protect body)
unfolding own_call
protect_kinded body script forms g l kinded calls =
    by_room script g l kinded true (λ c m. enters_context did.Protect (said.Done (value.Ctx c)) c (before_block (ask.Protect body) c g m) g m)
    (into_kinded script g l kinded true (ask.Protect body) (length l.contexts) calls tt did.Protect (said.Done (value.Ctx (length l.contexts)))) (is_full l.contexts)

pub sub_kinded : (body : Block) → CallKinded (ask.Sub body)
unfolding own_call
sub_kinded body script forms g l kinded calls = by_off (off_for l g) where
  by_off : (why : Option Plain) → IsKinded script (elim why as (λ _. Step) [
    | Some why ↦ raises_cancelled did.Sub why g l
    | None ↦ in_new (made_by script g l kinded false (is_full l.contexts)) g l (λ c m. enters_context did.Sub (said.Done (value.Ctx c)) c (before_block (ask.Sub body) c g m) g m)
  ]).state
  by_off (Some why) = still script l kinded g _
  by_off None =
      by_room script g l kinded false (λ c m. enters_context did.Sub (said.Done (value.Ctx c)) c (before_block (ask.Sub body) c g m) g m)
      (into_kinded script g l kinded false (ask.Sub body) (length l.contexts) calls (context_named script g l kinded false) did.Sub (said.Done (value.Ctx (length l.contexts))))
      (is_full l.contexts)

-- ## Into a switch

module _ (script : Script) (g : ℕ) (l : DomainState) (kinded : IsKinded script l) (body : Block)
    (calls : CallsWithKinds (made_facts script (length l.switches) (length l.contexts)) (ask.Switch body) (position_of (fiber_at l.fibers g))) where
  abbrev with_switch : DomainState
  with_switch = opens (length l.contexts) (with_context script g l kinded false)

  switch_count : length with_switch.switches ≡ length l.switches + 1
  switch_count = length_push l.switches (opened (length l.contexts))

  opened_kinded : IsKinded script with_switch
  opened_kinded = kinded_opened script l.fibers l.switches (length with_switch.contexts) (context_kinded script g l kinded false) (length l.contexts)

  before_it : HasKindsAt (made_facts script (length with_switch.switches) (length with_switch.contexts)) (before_block (ask.Switch body) (length l.switches) g (with_context script g l kinded false))
  before_it = (
      let has = calls_more script (length l.switches) (length with_switch.contexts) (length with_switch.switches) (length with_switch.contexts) (omega (arith, switch_count)) (omega arith)
      (ask.Switch body) (position_of (fiber_at l.fibers g)) (calls_in_context script g l kinded false (ask.Switch body) (position_of (fiber_at l.fibers g)) calls) in
      kinds_stay_between.enters script (names_made (length with_switch.switches) (length with_switch.contexts)) has.slots (ask.Switch body) (length l.switches)
      (fiber_at l.fibers g).work (fiber_at l.fibers g).variables has.names (lt-ltb (length l.switches) (length with_switch.switches) (omega (arith, switch_count))) has.variables has.work)

  opens_kinded : IsKinded script (enters_context did.Switch (said.Done (value.Switch (length l.switches))) (length l.contexts)
      (before_block (ask.Switch body) (length l.switches) g (with_context script g l kinded false)) g with_switch).state
  opens_kinded =
      kinded_placed script l.fibers with_switch.switches (length with_switch.contexts) opened_kinded g (length l.contexts)
      (before_block (ask.Switch body) (length l.switches) g (with_context script g l kinded false)) (Ready (GoesOn (outcome.Ok value.Unit))) before_it

abbrev switch_next : Block → (fiber switch context : ℕ) → DomainState → Step
switch_next body g n c m = enters_context did.Switch (said.Done (value.Switch n)) c (before_block (ask.Switch body) n g m) g (opens c m)

pub switch_call_kinded : (body : Block) → CallKinded (ask.Switch body)
unfolding own_call
switch_call_kinded body script forms g l kinded calls = by_off (off_for l g) where
  by_off : (why : Option Plain) → IsKinded script (elim why as (λ _. Step) [
    | Some why ↦ raises_cancelled did.Switch why g l
    | None ↦ in_new (made_by script g l kinded false (is_full l.contexts)) g l (switch_next body g (length l.switches))
  ]).state
  by_off (Some why) = still script l kinded g _
  by_off None = by_room script g l kinded false (switch_next body g (length l.switches)) (opens_kinded script g l kinded body calls) (is_full l.contexts)

-- ## Out of a block

pub leaves_kinded : (script : Script) (l : DomainState) → IsKinded script l → (c g : ℕ) → IsKinded script (leaves c g l)
leaves_kinded script l kinded c g =
    kinded_moved script l.fibers l.switches (length (end c l.contexts))
    (kinded_same script l.fibers l.switches (length l.contexts) (length (end c l.contexts)) (numbers.set_keeps_length contexts.never_made l.contexts c _) kinded) g _

pub leave_kinded : (c : ℕ) (late : Bool) (it : Outcome) → CallKinded (ask.Leave c late it)
unfolding own_call
leave_kinded c true (outcome.Ok it) script forms g l kinded calls = still script (leaves c g l) (leaves_kinded script l kinded c g) g _
leave_kinded c false (outcome.Ok it) script forms g l kinded calls = still script (leaves c g l) (leaves_kinded script l kinded c g) g _
leave_kinded c true (outcome.Err raised) script forms g l kinded calls = still script (leaves c g l) (leaves_kinded script l kinded c g) g _
leave_kinded c false (outcome.Err raised) script forms g l kinded calls = still script (leaves c g l) (leaves_kinded script l kinded c g) g _
