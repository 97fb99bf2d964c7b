-- A settling goes on in turns.
use Rattle.std.proofs.Common.{◌≡◌, ◌<◌, ◌≤◌, ◌+◌, ℕ, List, [], ◌∷◌, ◌++◌, length, false, refl, sym, ap, ◌∙◌, subst, arith, length-append}
use Rattle.std.proofs.lemmas.List.Elements.{All-pop}
use Rattle.std.proofs.Common.{Some}
use Rattle.eio_value.specs.Exceptions.{HasTextsOfPlain}
use Rattle.eio_value.specs.declared.plain.Plain.{Plain}
use Rattle.eio_value.specs.declared.plain.Plain.TheVariants.{Failure, Path}
use Rattle.eio_value.specs.declared.raised.Outcome.{Outcome}
use Rattle.eio_value.specs.declared.raised.Outcome.TheVariants as outcome
use Rattle.eio_value.specs.declared.raised.Raised.{Raised}
use Rattle.eio_value.specs.declared.value.Value.{Value}
use Rattle.script_forms.specs.declared.node.Node.{Node}
use Rattle.spec_fiber.specs.Asks as model
use Rattle.spec_fiber.specs.Settling.{Settled, answered}
use Rattle.spec_fiber.specs.Work.{Carry, restored}
use Rattle.fiber_step.specs.Framing.{KeptFrames}
use Rattle.fiber_step.specs.Placing.{IsPlaced, IsPlacedMark, ArePlaced}
use Rattle.fiber_step.specs.Settling.{HasComeTo}
use Rattle.fiber_step.specs.Standing.{works_of}
use Rattle.fiber_step.specs.Throwing.{IsGrown, IsTurnWith}
use Rattle.fiber_step.specs.Turning.{Shared, carried, with_mark, next_call, next_behind, IsTurnOrRaise, IsLighter, HasItsParts, is_run}
use Rattle.fiber_step.specs.Weighing.{weight}
use Rattle.fiber_step.specs.declared.ask.Ask.{Ask}
use Rattle.fiber_step.specs.declared.ask.Ask.TheVariants as ask
use Rattle.fiber_step.specs.declared.item.Item.TheVariants as item
use Rattle.fiber_step.specs.declared.mark.Mark.{Mark}
use Rattle.fiber_step.specs.declared.mark.Mark.TheVariants as mark
use Rattle.fiber_step.specs.declared.progress.Progress.{Progress}
use Rattle.fiber_step.specs.declared.progress.Progress.TheVariants as progress
use Rattle.fiber_step.proofs.Positions.{next_item}
use Rattle.fiber_step.proofs.Turns.{mark_placed, quiet_parts}

-- ## One turn

-- a fiber that has no work ends
none_left : (nodes : List Node) (it : Value) (kept : KeptFrames) (c : Carry) → kept.items ≡ []
    → next_call nodes (outcome.Ok it) kept c ≡ (let s : Settled = record { call = model.End (outcome.Ok it); behind = works_of nodes kept.items; carry = restored kept.variables c } in s)
unfolding answered
none_left nodes it kept c none =
    ap (λ these. answered (works_of nodes these) it (restored kept.variables c)) none
    ∙ ap (λ these. let s : Settled = record { call = model.End (outcome.Ok it); behind = works_of nodes these; carry = restored kept.variables c } in s) (sym none)

pub ends : (nodes : List Node) (texts : List (List ℕ)) (it : Value) (old new : KeptFrames) → old.items ≡ [] → new ≡ old
    → IsTurnOrRaise nodes texts (outcome.Ok it) old (progress.Calls (ask.End (outcome.Ok it))) new
ends nodes texts it old new none same =
    let stays : IsTurnOrRaise nodes texts (outcome.Ok it) old (progress.Calls (ask.End (outcome.Ok it))) old = record { next = λ c. none_left nodes it old c none; placed = λ all. all; lighter = tt; parts = tt } in
    subst (λ k. IsTurnOrRaise nodes texts (outcome.Ok it) old (progress.Calls (ask.End (outcome.Ok it))) k) (sym same) stays

-- the variables are back that were a fiber's
restored_next : (nodes : List Node) (it : Value) (old new : KeptFrames) (c : Carry) → old.items ≡ new.items ++ item.Restore new.variables ∷ []
    → next_call nodes (outcome.Ok it) old c ≡ answered (works_of nodes new.items) it (restored new.variables c)
unfolding answered
restored_next nodes it old new c e =
    ap (λ work. answered work it (restored old.variables c)) (ap (works_of nodes) e ∙ next_item nodes new.items (item.Restore new.variables))

pub restores : (nodes : List Node) (texts : List (List ℕ)) (it : Value) (old new : KeptFrames) → old.items ≡ new.items ++ item.Restore new.variables ∷ []
    → IsTurnOrRaise nodes texts (outcome.Ok it) old (progress.GoesOn it) new
restores nodes texts it old new e =
    let sum = ap weight (ap (works_of nodes) e ∙ next_item nodes new.items (item.Restore new.variables)) in
    record {
      next = λ c. restored_next nodes it old new c e;
      placed = λ all. (All-pop (IsPlaced nodes) old.items new.items (Some (item.Restore new.variables)) e all).0;
      lighter = omega (arith, sum);
      parts = tt;
    }

-- by where the fiber stood before the mark was taken
pub taken_turn : (nodes : List Node) (texts : List (List ℕ)) (came : Outcome) (old mid new : KeptFrames) (it : Mark) (t : Progress) → old ≡ with_mark it mid
    → IsTurnOrRaise nodes texts came (with_mark it mid) t new → IsTurnOrRaise nodes texts came old t new
taken_turn nodes texts came old mid new it t e is = subst (λ k. IsTurnOrRaise nodes texts came k t new) (sym e) is

-- ## What a settling comes to at first

pub value_came : (nodes : List Node) (came : Outcome) (old : KeptFrames) (shared : Shared) (it : Value) → came ≡ outcome.Ok it → ArePlaced nodes old.items
    → HasComeTo nodes (next_call nodes came old) shared (progress.GoesOn it) old shared
value_came nodes came old shared it e all = record { next = λ raises. (raises, ap (λ x. next_call nodes x old (carried shared raises)) e); placed = all; parts = tt }

pub exception_came : (nodes : List Node) (came : Outcome) (raised : Raised) (old new : KeptFrames) (shared later : Shared) (t : Progress) → came ≡ outcome.Err raised → ArePlaced nodes old.items
    → IsTurnWith nodes (next_call nodes (outcome.Err raised)) old shared t new later → HasComeTo nodes (next_call nodes came old) shared t new later
exception_came nodes came raised old new shared later t e all is =
    let thrown : HasComeTo nodes (next_call nodes (outcome.Err raised) old) shared t new later = record { next = is.next; placed = is.placed all; parts = quiet_parts nodes later.texts t is.quiet } in
    subst (λ x. HasComeTo nodes (next_call nodes x old) shared t new later) (sym e) thrown

-- ## Turn by turn

-- a longer table has the texts too
texts_longer : (texts longer : List (List ℕ)) (what : Plain) → length texts ≤ length longer → HasTextsOfPlain texts what → HasTextsOfPlain longer what
texts_longer texts longer (Failure id) less has = omega (arith, less, has)
texts_longer texts longer (Path fault id) less has = omega (arith, less, has)
texts_longer texts longer other less has = tt

parts_longer : (nodes : List Node) (texts longer : List (List ℕ)) (t : Progress) → length texts ≤ length longer → HasItsParts nodes texts t → HasItsParts nodes longer t
parts_longer nodes texts longer (progress.GoesOn it) less parts = tt
parts_longer nodes texts longer (progress.Calls call) less parts = parts
parts_longer nodes texts longer (progress.Raises what) less parts = texts_longer texts longer what less parts

pub one_more_turn : (nodes : List Node) (texts : List (List ℕ)) (from : Carry → Settled) (shared later : Shared) (mid new : KeptFrames) (p t : Progress) (it : Value) → HasComeTo nodes from shared p mid later
    → p ≡ progress.GoesOn it → length texts ≤ length later.texts → IsTurnOrRaise nodes texts (outcome.Ok it) mid t new → HasComeTo nodes from shared t new later
one_more_turn nodes texts from shared later mid new p t it so e less is =
    let before = subst (λ x. HasComeTo nodes from shared x mid later) e so in
    record {
      next = λ raises. let first = before.next raises in (first.0, first.1 ∙ is.next (carried later first.0));
      placed = is.placed before.placed;
      parts = parts_longer nodes texts later.texts t less is.parts;
    }

pub one_more_raise : (nodes : List Node) (from : Carry → Settled) (shared between later : Shared) (mid new : KeptFrames) (p t : Progress) (what : Plain) → HasComeTo nodes from shared p mid between
    → p ≡ progress.Raises what → IsTurnWith nodes (next_behind nodes (progress.Raises what)) mid between t new later → HasComeTo nodes from shared t new later
one_more_raise nodes from shared between later mid new p t what so e is =
    let before = subst (λ x. HasComeTo nodes from shared x mid between) e so in
    record {
      next = λ raises. let first = before.next raises in let second = is.next first.0 in (second.0, first.1 ∙ second.1);
      placed = is.placed before.placed;
      parts = quiet_parts nodes later.texts t is.quiet;
    }

pub has_called : (nodes : List Node) (from : Carry → Settled) (shared later : Shared) (new : KeptFrames) (p : Progress) (call : Ask) → p ≡ progress.Calls call → HasComeTo nodes from shared p new later
    → HasComeTo nodes from shared (progress.Calls call) new later
has_called nodes from shared later new p call e so = subst (λ x. HasComeTo nodes from shared x new later) e so

-- ## That the turns end

-- how much is left behind a turn: nothing behind a call; and a raise that was said comes before the work, so it counts as one more.
-- The work counts twice, since a turn that leaves less of it may say a raise
abbrev pub left_behind : List Node → Progress → KeptFrames → ℕ
left_behind nodes (progress.Calls call) kept = 0
left_behind nodes (progress.GoesOn it) kept = 1 + (weight (works_of nodes kept.items) + weight (works_of nodes kept.items))
left_behind nodes (progress.Raises what) kept = 2 + (weight (works_of nodes kept.items) + weight (works_of nodes kept.items))

less_left : (nodes : List Node) (mid new : KeptFrames) (t : Progress) → IsLighter nodes mid t new → left_behind nodes t new < 1 + (weight (works_of nodes mid.items) + weight (works_of nodes mid.items))
less_left nodes mid new (progress.Calls call) lighter = omega arith
less_left nodes mid new (progress.GoesOn it) lighter = omega (arith, lighter)
less_left nodes mid new (progress.Raises what) lighter = omega (arith, lighter)

pub turn_smaller : (nodes : List Node) (mid new : KeptFrames) (p t : Progress) (it : Value) → p ≡ progress.GoesOn it → IsLighter nodes mid t new → left_behind nodes t new < left_behind nodes p mid
turn_smaller nodes mid new p t it e lighter = subst (λ x. left_behind nodes t new < left_behind nodes x mid) (sym e) (less_left nodes mid new t lighter)

pub raise_smaller : (nodes : List Node) (mid new : KeptFrames) (p t : Progress) (what : Plain) → p ≡ progress.Raises what → IsLighter nodes mid t new → left_behind nodes t new < left_behind nodes p mid
raise_smaller nodes mid new p t what e lighter =
    let less = less_left nodes mid new t lighter in
    let more : left_behind nodes t new < left_behind nodes (progress.Raises what) mid = omega (arith, less) in
    subst (λ x. left_behind nodes t new < left_behind nodes x mid) (sym e) more

-- ## The table

pub long_enough : (least : ℕ) (old new : List (List ℕ)) → least ≤ length old → IsGrown old new → least ≤ length new
long_enough least old new less grown = let size = ap length grown.is in let sum = length-append old grown.more in omega (arith, less, size, sum)

-- ## The mark that was taken

-- it is placed
pub mark_fits : (nodes : List Node) (old mid : KeptFrames) (it : Mark) → old ≡ with_mark it mid → ArePlaced nodes old.items → ArePlaced nodes mid.items × IsPlacedMark nodes it
mark_fits nodes old mid it e all = mark_placed nodes it mid (subst (λ (k : KeptFrames). ArePlaced nodes k.items) e all)

pub is_no_run : (it : Mark) → ((at : ℕ) → it ≡ mark.Run at → ⊥) → is_run it ≡ false
is_no_run (mark.Run at) other = absurd (other at refl)
is_no_run (mark.Cut keep) other = refl
is_no_run (mark.Try handler keep) other = refl
is_no_run (mark.Bind slot) other = refl
is_no_run (mark.Loop body keep) other = refl
is_no_run (mark.Repeat number left body keep) other = refl
is_no_run (mark.Leave context late keep) other = refl
is_no_run (mark.Close switch keep) other = refl
is_no_run (mark.Closing switch kept) other = refl
is_no_run (mark.Join group keep) other = refl
is_no_run (mark.ShutReader reader keep) other = refl
is_no_run (mark.ShutWriter writer keep) other = refl
is_no_run (mark.Locking mutex body) other = refl
is_no_run (mark.Unlock mutex keep) other = refl
is_no_run (mark.Using pool body) other = refl
is_no_run (mark.Put pool resource keep) other = refl
is_no_run (mark.Resolve promise) other = refl
