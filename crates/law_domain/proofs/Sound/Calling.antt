-- Calls by which a fiber goes on, goes to the back, waits, or goes into a block.
use Rattle.std.proofs.Common.{◌≡◌, inl, inr, ℕ, ◌+◌, Bool, true, false, List, [], ◌∷◌, ◌++◌, length, Option, Some, None, refl, ap, ◌∙◌, sym, true≢false, arith}
use Rattle.eio_value.specs.declared.plain.Plain.{Plain}
use Rattle.eio_value.specs.declared.plain.Plain.TheVariants.{Failure, Invalid}
use Rattle.eio_value.specs.declared.plain.Misuse.TheVariants.{ContextFinished}
use Rattle.eio_value.specs.declared.raised.Outcome.{Outcome}
use Rattle.eio_value.specs.declared.raised.Outcome.TheVariants as outcome
use Rattle.eio_value.specs.declared.value.TextId.{TextId}
use Rattle.eio_value.specs.declared.value.Value.{Value}
use Rattle.eio_value.specs.declared.value.Value.TheVariants as value
use Rattle.spec_parts.specs.Contexts.{Made, is_full, is_live, new_context}
use Rattle.spec_parts.specs.Switches.{opened}
use Rattle.spec_script.specs.Scripts.{Script}
use Rattle.spec_script.specs.Syntax.{Block}
use Rattle.spec_fiber.specs.Asks as ask
use Rattle.spec_fiber.specs.Asks.{Ask}
use Rattle.spec_fiber.specs.Replies.{Position}
use Rattle.trace_lines.specs.declared.line.Did.{Did}
use Rattle.trace_lines.specs.declared.line.Did.TheVariants as did
use Rattle.trace_lines.specs.declared.line.Said2.TheVariants as said
use Rattle.spec_machine.specs.Domain.{GoesOn, LooksUp, FindsOff, ForCancel, Fiber, DomainState, fiber_at, moved_to, placed, off_for, to_head}
use Rattle.spec_machine.specs.ContextMoves.{before_block, enters_context}
use Rattle.spec_machine.specs.Moves.{own_call}
use Rattle.spec_machine.specs.Steps.{Step, counted, does, raises, raises_cancelled, goes_off, waits, halts, in_new, cancels}
use Rattle.spec_machine.specs.SwitchMoves.{opens}
use Rattle.law_domain.specs.Sound.BuiltForms.{HasBuiltForms, IsBuiltBlock, IsBuiltCall}
use Rattle.law_domain.specs.Sound.Scopes.{Entered, InContext, InSwitch, called_scope, scopes_in}
use Rattle.law_domain.specs.Sound.SoundStates.{IsSoundPosition, IsSoundState}
use Rattle.law_domain.proofs.Sound.BuiltSettle.{items_built}
use Rattle.law_domain.proofs.Sound.Changes.{OnlyAt, set_once, set_again}
use Rattle.law_domain.proofs.Sound.Counting.{lives_below}
use Rattle.law_domain.proofs.Sound.Entering.{EntersOne, mid_enters}
use Rattle.law_domain.proofs.Sound.Midst.{IsMid, Untouched, mid_lives, mid_untouched, one_more_line, ends_ahead, ends_behind, ends_waiting}
use Rattle.law_domain.proofs.Sound.Scoping.{with_held, held_here}
use Rattle.law_domain.proofs.Sound.Untouching.{untouched_cancels, untouched_counted}

-- sound, unless it was halted
abbrev pub IsSoundUnless : DomainState → Type 0
IsSoundUnless k = k.halted ≡ false → IsSoundState k

-- a fiber's call keeps soundness, from the midst of its move on
abbrev pub CallKept : Ask → Type 0
CallKept call = (script : Script) → HasBuiltForms script → (g : ℕ) (held : ℕ → List Entered) (l : DomainState) → IsMid g held l.lines l
    → held g ≡ called_scope call ++ scopes_in (fiber_at l.fibers g).work → IsBuiltCall call → (stamp : ℕ) → IsSoundUnless (one_more_line (own_call script call g l).state stamp)

-- ## How it goes on

module _ (g : ℕ) (held : ℕ → List Entered) (l : DomainState) (mid : IsMid g held l.lines l) (sees : held g ≡ scopes_in (fiber_at l.fibers g).work) (stamp : ℕ) where
  -- with what its call came to
  pub goes_on : (result : Outcome) → IsSoundUnless (one_more_line (to_head (GoesOn result) g l) stamp)
  goes_on result runs = ends_ahead g held l.lines l mid stamp (omega arith) (GoesOn result) tt sees

  -- with what it comes to once something else was done
  pub goes_on_after : (k : DomainState) → Untouched l k → (result : Outcome) → IsSoundUnless (one_more_line (to_head (GoesOn result) g k) stamp)
  goes_on_after k same result runs = (
      let lines = same.lines in
      ends_ahead g held l.lines k (mid_untouched g held l.lines l k mid same) stamp (omega (arith, lines)) (GoesOn result) tt
      (sees ∙ ap (λ fs. scopes_in (fiber_at fs g).work) (sym same.fibers)))

  -- it raises something anew
  pub goes_raising : (it : Did) (what : Plain) → IsSoundUnless (one_more_line (raises it what g l).state stamp)
  goes_raising it what = goes_on_after (counted l) (untouched_counted l) _

  pub goes_cancelled : (it : Did) (why : Plain) → IsSoundUnless (one_more_line (raises_cancelled it why g l).state stamp)
  goes_cancelled it why = goes_on_after (counted l) (untouched_counted l) _

-- a limit is met
pub halting : (g : ℕ) (l : DomainState) (stamp : ℕ) → IsSoundUnless (one_more_line (halts g l).state stamp)
halting g l stamp runs = absurd (true≢false runs)

-- ## Calls that change nothing else

pub trace_kept : (values : List Value) → CallKept (ask.Trace values)
unfolding own_call
trace_kept values script forms g held l mid sees built stamp = goes_on g held l mid sees stamp (outcome.Ok value.Unit)

pub turn_kept : CallKept ask.Turn
unfolding own_call
turn_kept script forms g held l mid sees built stamp = goes_on g held l mid sees stamp (outcome.Ok value.Unit)

pub yield_kept : CallKept ask.Yield
unfolding own_call
yield_kept script forms g held l mid sees built stamp runs = ends_behind g held l.lines l mid stamp (omega arith) LooksUp tt sees

pub check_kept : CallKept ask.Check
unfolding own_call
check_kept script forms g held l mid sees built stamp = by_off (off_for l g) where
  by_off : (why : Option Plain) → IsSoundUnless (one_more_line (elim why as (λ _. Step) [ Some why ↦ raises_cancelled did.Check why g l | None ↦ does did.Check g l ]).state stamp)
  by_off (Some why) = goes_cancelled g held l mid sees stamp did.Check why
  by_off None = goes_on g held l mid sees stamp (outcome.Ok value.Unit)

pub await_kept : CallKept ask.AwaitCancel
unfolding own_call
await_kept script forms g held l mid sees built stamp = by_off (off_for l g) where
  by_off : (why : Option Plain)
      → IsSoundUnless (one_more_line (elim why as (λ _. Step) [ Some why ↦ goes_off did.AwaitCancel g l | None ↦ waits did.AwaitCancel ForCancel g l ]).state stamp)
  by_off (Some why) runs = ends_behind g held l.lines l mid stamp (omega arith) FindsOff tt sees
  by_off None runs = ends_waiting g held l.lines l mid stamp (omega arith) ForCancel tt sees

pub cancel_kept : (c : ℕ) (text : TextId) → CallKept (ask.Cancel c text)
unfolding own_call
cancel_kept c text script forms g held l mid sees built stamp = by_live (is_live l.contexts c) where
  by_live : (live : Bool) → IsSoundUnless (one_more_line (elim live as (λ _. Step) [
    | true ↦ does (did.Cancel c text) g (cancels g c (Failure text) l)
    | false ↦ raises (did.Cancel c text) (Invalid ContextFinished) g l
  ]).state stamp)
  by_live true = goes_on_after g held l mid sees stamp (cancels g c (Failure text) l) (untouched_cancels g c (Failure text) l) (outcome.Ok value.Unit)
  by_live false = goes_raising g held l mid sees stamp (did.Cancel c text) (Invalid ContextFinished)

-- ## Into a block

module _ (g : ℕ) (held : ℕ → List Entered) (l : DomainState) (mid : IsMid g held l.lines l) (stamp : ℕ) where
  -- before a block, from where it goes on
  pub goes_in : (scope : Entered) (position : Position) (k : DomainState) → EntersOne g scope position l k → k.lines ≡ l.lines
      → scopes_in position.work ≡ scope ∷ held g → IsSoundUnless (one_more_line (to_head (GoesOn (outcome.Ok value.Unit)) g k) stamp)
  goes_in scope position k one lines places runs =
      ends_ahead g (with_held g (scope ∷ held g) held) (l.lines + 1) k (mid_enters g held l.lines l k scope position mid one) stamp (omega (arith, lines))
      (GoesOn (outcome.Ok value.Unit)) tt
      (held_here g (scope ∷ held g) held ∙ (sym places ∙ ap (λ (f : Fiber). scopes_in f.work) (sym one.fibers.there)))

  -- the fiber, once it was moved and placed
  pub placed_only : (position : Position) (c : ℕ)
      → OnlyAt g l.fibers (placed position g (moved_to c g l)).fibers (record (fiber_at l.fibers g) { context = c; work = position.work; variables = position.variables })
  placed_only position c = (
      let below = lives_below l.fibers g (mid_lives g held l.lines l mid) in
      set_again g l.fibers (moved_to c g l).fibers (record (fiber_at l.fibers g) { context = c }) (λ f. record f { work = position.work; variables = position.variables }) below
      (set_once g l.fibers (record (fiber_at l.fibers g) { context = c }) below))

  abbrev pub with_context : (protected : Bool) → DomainState
  with_context protected = record l { contexts = l.contexts ++ new_context (Some (fiber_at l.fibers g).context) protected ∷ [] }

  -- in a new context alone
  pub into_context : (protected : Bool) (position : Position) → IsSoundPosition (length l.switches) (length (with_context protected).contexts) position.work position.variables
      → scopes_in position.work ≡ InContext (length l.contexts) ∷ held g
      → IsSoundUnless (one_more_line (to_head (GoesOn (outcome.Ok value.Unit)) g (placed position g (moved_to (length l.contexts) g (with_context protected)))) stamp)
  into_context protected position sound places =
      goes_in (InContext (length l.contexts)) position (placed position g (moved_to (length l.contexts) g (with_context protected)))
      (record {
        fibers = placed_only position (length l.contexts);
        contexts = (protected, refl);
        switches = inl (refl, refl);
        groups = refl;
        ready = refl;
        duties = refl;
        timers = refl;
        sound = sound;
      })
      refl places

  -- in that of a new switch
  pub into_switch : (position : Position) → IsSoundPosition (length (l.switches ++ opened (length l.contexts) ∷ [])) (length (with_context false).contexts) position.work position.variables
      → scopes_in position.work ≡ InSwitch (length l.switches) ∷ held g
      → IsSoundUnless (one_more_line (to_head (GoesOn (outcome.Ok value.Unit)) g (placed position g (moved_to (length l.contexts) g (opens (length l.contexts) (with_context false))))) stamp)
  into_switch position sound places =
      goes_in (InSwitch (length l.switches)) position (placed position g (moved_to (length l.contexts) g (opens (length l.contexts) (with_context false))))
      (record {
        fibers = placed_only position (length l.contexts);
        contexts = (false, refl);
        switches = inr (refl, refl);
        groups = refl;
        ready = refl;
        duties = refl;
        timers = refl;
        sound = sound;
      })
      refl places

  -- what is made, by whether there is room
  abbrev pub made_by : (protected full : Bool) → Made
  made_by protected full = elim full [
    | true ↦ record { number = None; contexts = l.contexts }
    | false ↦ record { number = Some (length l.contexts); contexts = l.contexts ++ new_context (Some (fiber_at l.fibers g).context) protected ∷ [] }
  ]

  pub by_room : (protected : Bool) (next : (context : ℕ) → DomainState → Step)
      → IsSoundUnless (one_more_line (next (length l.contexts) (with_context protected)).state stamp)
      → (full : Bool) → IsSoundUnless (one_more_line (in_new (made_by protected full) g l next).state stamp)
  by_room protected next goes true = halting g l stamp
  by_room protected next goes false = goes

module _ (g : ℕ) (held : ℕ → List Entered) (l : DomainState) (mid : IsMid g held l.lines l) (sees : held g ≡ scopes_in (fiber_at l.fibers g).work) (stamp : ℕ) where
  caller_position : IsSoundPosition (length l.switches) (length l.contexts) (fiber_at l.fibers g).work (fiber_at l.fibers g).variables
  caller_position = (mid.sound.fibers g).position (mid_lives g held l.lines l mid)

  sub_enters : (body : Block) → IsBuiltBlock body
      → IsSoundUnless (one_more_line (enters_context did.Sub (said.Done (value.Ctx (length l.contexts))) (length l.contexts)
      (before_block (ask.Sub body) (length l.contexts) g (with_context g held l mid stamp false)) g (with_context g held l mid stamp false)).state stamp)
  sub_enters body built = into_context g held l mid stamp false _ (items_built body built, (tt, caller_position)) (ap (λ xs. InContext (length l.contexts) ∷ xs) (sym sees))

  protect_enters : (body : Block) → IsBuiltBlock body
      → IsSoundUnless (one_more_line (enters_context did.Protect (said.Done (value.Ctx (length l.contexts))) (length l.contexts)
      (before_block (ask.Protect body) (length l.contexts) g (with_context g held l mid stamp true)) g (with_context g held l mid stamp true)).state stamp)
  protect_enters body built = into_context g held l mid stamp true _ (items_built body built, (tt, caller_position)) (ap (λ xs. InContext (length l.contexts) ∷ xs) (sym sees))

  switch_enters : (body : Block) → IsBuiltBlock body
      → IsSoundUnless (one_more_line (enters_context did.Switch (said.Done (value.Switch (length l.switches))) (length l.contexts)
      (before_block (ask.Switch body) (length l.switches) g (with_context g held l mid stamp false)) g (opens (length l.contexts) (with_context g held l mid stamp false))).state stamp)
  switch_enters body built = into_switch g held l mid stamp _ (items_built body built, (tt, caller_position)) (ap (λ xs. InSwitch (length l.switches) ∷ xs) (sym sees))

pub protect_kept : (body : Block) → CallKept (ask.Protect body)
unfolding own_call
protect_kept body script forms g held l mid sees built stamp =
    by_room g held l mid stamp true
    (λ c m. enters_context did.Protect (said.Done (value.Ctx c)) c (before_block (ask.Protect body) c g m) g m)
    (protect_enters g held l mid sees stamp body built) (is_full l.contexts)

abbrev sub_next : Block → (fiber context : ℕ) → DomainState → Step
sub_next body g c m = enters_context did.Sub (said.Done (value.Ctx c)) c (before_block (ask.Sub body) c g m) g m

abbrev switch_next : Block → (fiber switch context : ℕ) → DomainState → Step
switch_next body g n c m = enters_context did.Switch (said.Done (value.Switch n)) c (before_block (ask.Switch body) n g m) g (opens c m)

pub sub_kept : (body : Block) → CallKept (ask.Sub body)
unfolding own_call
sub_kept body script forms g held l mid sees built stamp = by_off (off_for l g) where
  by_off : (why : Option Plain) → IsSoundUnless (one_more_line (elim why as (λ _. Step) [
    | Some why ↦ raises_cancelled did.Sub why g l
    | None ↦ in_new (made_by g held l mid stamp false (is_full l.contexts)) g l (sub_next body g)
  ]).state stamp)
  by_off (Some why) = goes_cancelled g held l mid sees stamp did.Sub why
  by_off None = by_room g held l mid stamp false (sub_next body g) (sub_enters g held l mid sees stamp body built) (is_full l.contexts)

pub switch_kept : (body : Block) → CallKept (ask.Switch body)
unfolding own_call
switch_kept body script forms g held l mid sees built stamp = by_off (off_for l g) where
  by_off : (why : Option Plain) → IsSoundUnless (one_more_line (elim why as (λ _. Step) [
    | Some why ↦ raises_cancelled did.Switch why g l
    | None ↦ in_new (made_by g held l mid stamp false (is_full l.contexts)) g l (switch_next body g (length l.switches))
  ]).state stamp)
  by_off (Some why) = goes_cancelled g held l mid sees stamp did.Switch why
  by_off None = by_room g held l mid stamp false (switch_next body g (length l.switches)) (switch_enters g held l mid sees stamp body built) (is_full l.contexts)
