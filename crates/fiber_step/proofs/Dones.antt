-- What the steps of statements do.
use Rattle.std.proofs.Common.{◌≡◌, ◌<◌, ◌≤◌, ◌+◌, ◌^◌, ℕ, [], ◌∷◌, ◌++◌, length, refl, sym, ap, ◌∙◌, subst, arith, pos}
use Rattle.std.proofs.Math.Seq.{take-length}
use Rattle.eio_value.specs.declared.value.Value.{Value}
use Rattle.eio_value.specs.declared.value.Value.TheVariants as value
use Rattle.spec_script.specs.Syntax.{Statement, LetForm, If, Try}
use Rattle.spec_script.specs.Syntax as syntax
use Rattle.script_code.specs.Standing.{statements_at, block_at}
use Rattle.script_forms.specs.declared.node.ObjectCall.TheVariants as object
use Rattle.spec_fiber.specs.Asks as model
use Rattle.spec_fiber.specs.Settling.{Settled, answered}
use Rattle.spec_fiber.specs.Silent.{Went, statement}
use Rattle.spec_fiber.specs.Work as work
use Rattle.spec_fiber.specs.Work.{Carry, restored}
use Rattle.fiber_step.specs.Calling.{statement_at}
use Rattle.fiber_step.specs.Going.{goes}
use Rattle.fiber_step.specs.Framing.{KeptFrames}
use Rattle.fiber_step.specs.Standing.{mark_work, works_of}
use Rattle.fiber_step.specs.Stating.{IsDoneBy}
use Rattle.fiber_step.specs.Turning.{with_mark, naming, gone_into}
use Rattle.fiber_step.specs.Weighing.{weight_of_statement, weight_of_block}
use Rattle.fiber_step.specs.declared.ask.Ask.{Ask}
use Rattle.fiber_step.specs.declared.ask.Ask.TheVariants as ask
use Rattle.fiber_step.specs.declared.item.Item.TheVariants as item
use Rattle.fiber_step.specs.declared.mark.Mark.TheVariants as mark
use Rattle.fiber_step.specs.declared.step.Step.{Step}
use Rattle.fiber_step.specs.declared.step.Step.TheVariants as step
use Rattle.fiber_step.specs.declared.progress.Progress.{Progress}
use Rattle.fiber_step.specs.declared.progress.Progress.TheVariants as progress
use Rattle.fiber_step.proofs.MarksAgree.{marks_agree}
use Rattle.fiber_step.proofs.Passes.{block_works, block_weight, block_placed}
use Rattle.fiber_step.proofs.Positions.{next_item}
use Rattle.fiber_step.proofs.Turns.{placed_mark}

-- a statement weighs something
pub some_weight : (it : Statement) → 1 ≤ weight_of_statement it
unfolding weight_of_statement
some_weight (LetForm form) = omega arith
some_weight (If test first second) = omega arith
some_weight (Try tried handler) = omega arith
some_weight other = omega arith

-- ## Past

past_done : (old : KeptFrames) (it : Value) → IsDoneBy (step.Past it) old (progress.GoesOn it) old
past_done old it = λ nodes number is bodies light. record {
  next = λ c. ap (λ (w : Went). goes w (works_of nodes old.items)) (is (restored old.variables c) refl);
  placed = λ all. all;
  lighter = let some = some_weight (statement_at nodes number) in omega (arith, some);
  quiet = tt;
}

named_done : (old : KeptFrames) (it : Value) → IsDoneBy (step.Named it) old (progress.GoesOn value.Unit) (naming it old)
named_done old it = λ nodes number is bodies light. record {
  next = λ c. ap (λ (w : Went). goes w (works_of nodes old.items)) (is (restored old.variables c) refl)
      ∙ ap (λ those. answered (works_of nodes old.items) value.Unit (restored (those ++ it ∷ []) c)) (take-length old.variables);
  placed = λ all. all;
  lighter = let some = some_weight (statement_at nodes number) in omega (arith, some);
  quiet = tt;
}

calls_done : (old : KeptFrames) (call : Ask) → IsDoneBy (step.Calls call) old (progress.Calls call) old
calls_done old call = λ nodes number is bodies light. record {
  next = λ c. ap (λ (w : Went). goes w (works_of nodes old.items)) (is (restored old.variables c) refl);
  placed = λ all. all;
  lighter = tt;
  quiet = bodies;
}

-- ## Blocks

block_done : (old : KeptFrames) (body : ℕ) → IsDoneBy (step.Block body) old (progress.GoesOn value.Unit) (gone_into (mark.Cut (length old.variables)) body old)
unfolding weight_of_block
block_done old body = λ nodes number is bodies light.
    let end = mark.Cut (length old.variables) in
    record {
      next = λ c. ap (λ (w : Went). goes w (works_of nodes old.items)) (is (restored old.variables c) refl)
          ∙ (marks_agree.cut (block_at nodes body) (length old.variables) (works_of nodes old.items) value.Unit (restored old.variables c)
          ∙ ap (λ these. answered these value.Unit (restored old.variables c)) (block_works nodes end body old));
      placed = λ all. block_placed nodes end body old all bodies (placed_mark nodes end old.items all (tt, tt));
      lighter = let sum = block_weight nodes end body old in omega (arith, sum, light);
      quiet = tt;
    }

tried_done : (old : KeptFrames) (tried handler : ℕ) → IsDoneBy (step.Tried tried handler) old (progress.GoesOn value.Unit) (gone_into (mark.Try handler (length old.variables)) tried old)
unfolding weight_of_block
tried_done old tried handler = λ nodes number is bodies light.
    let end = mark.Try handler (length old.variables) in
    record {
      next = λ c. ap (λ (w : Went). goes w (works_of nodes old.items)) (is (restored old.variables c) refl)
          ∙ (marks_agree.handler (block_at nodes tried) (block_at nodes handler) (works_of nodes old.items) value.Unit (restored old.variables c)
          ∙ ap (λ these. answered these value.Unit (restored old.variables c)) (block_works nodes end tried old));
      placed = λ all. block_placed nodes end tried old all bodies.0 (placed_mark nodes end old.items all (bodies.1, tt));
      lighter = let sum = block_weight nodes end tried old in omega (arith, sum, light);
      quiet = tt;
    }

-- ## Loops

looped_done : (old : KeptFrames) (body : ℕ) → IsDoneBy (step.Looped body) old (progress.Calls ask.Turn) (gone_into (mark.Loop body (length old.variables)) body old)
unfolding statement
looped_done old body = λ nodes number is bodies light.
    let end = mark.Loop body (length old.variables) in
    record {
      next = λ c. ap (λ (w : Went). goes w (works_of nodes old.items)) (is (restored old.variables c) refl)
          ∙ ap (λ these. let s : Settled = record { call = model.Turn; behind = these; carry = restored old.variables c } in s) (block_works nodes end body old);
      placed = λ all. block_placed nodes end body old all bodies (placed_mark nodes end old.items all (bodies, tt));
      lighter = tt;
      quiet = tt;
    }

few_left : (left : ℕ) → left + 1 < 2 ^ 63 → 1 + left < 2 ^ 63
few_left left h = omega (arith, h)

repeated_done : (old : KeptFrames) (left body : ℕ)
    → IsDoneBy (step.Repeated left body) old (progress.Calls ask.Turn) (gone_into (mark.Repeat 1 left body (length old.variables)) body (naming (value.Int (pos 0)) old))
repeated_done old left body = λ nodes number is bodies light.
    let end = mark.Repeat 1 left body (length old.variables) in
    let named = naming (value.Int (pos 0)) old in
    record {
      next = λ c. ap (λ (w : Went). goes w (works_of nodes old.items)) (is (restored old.variables c) refl)
          ∙ (ap (λ those. let s : Settled = record { call = model.Turn; behind = work.Run (statements_at nodes body) ∷ mark_work nodes end ∷ works_of nodes old.items; carry = restored (those ++ value.Int (pos 0) ∷ []) c } in s) (take-length old.variables)
          ∙ ap (λ these. let s : Settled = record { call = model.Turn; behind = these; carry = restored named.variables c } in s) (block_works nodes end body named));
      placed = λ all. block_placed nodes end body named all bodies.0 (placed_mark nodes end old.items all (bodies.0, few_left left bodies.1));
      lighter = tt;
      quiet = tt;
    }

-- ## Blocks that begin once something is had

locks_done : (old : KeptFrames) (mutex body : ℕ) → IsDoneBy (step.Locks mutex body) old (progress.Calls (ask.OnObject object.Lock mutex)) (with_mark (mark.Locking mutex body) old)
unfolding statement
locks_done old mutex body = λ nodes number is bodies light. record {
  next = λ c. ap (λ (w : Went). goes w (works_of nodes old.items)) (is (restored old.variables c) refl)
      ∙ ap (λ these. let s : Settled = record { call = model.OnObject syntax.Lock mutex; behind = these; carry = restored old.variables c } in s) (sym (next_item nodes old.items (item.Mark (mark.Locking mutex body))));
  placed = λ all. placed_mark nodes (mark.Locking mutex body) old.items all (bodies, tt);
  lighter = tt;
  quiet = tt;
}

uses_done : (old : KeptFrames) (pool body : ℕ) → IsDoneBy (step.Uses pool body) old (progress.Calls (ask.Use pool)) (with_mark (mark.Using pool body) old)
unfolding statement
uses_done old pool body = λ nodes number is bodies light. record {
  next = λ c. ap (λ (w : Went). goes w (works_of nodes old.items)) (is (restored old.variables c) refl)
      ∙ ap (λ these. let s : Settled = record { call = model.Use pool; behind = these; carry = restored old.variables c } in s) (sym (next_item nodes old.items (item.Mark (mark.Using pool body))));
  placed = λ all. placed_mark nodes (mark.Using pool body) old.items all (bodies, tt);
  lighter = tt;
  quiet = tt;
}

-- ## By what the code does

pub done_by : (s m : Step) (old new k : KeptFrames) (t u : Progress) → s ≡ m → t ≡ u → new ≡ k → IsDoneBy m old u k → IsDoneBy s old t new
done_by s m old new k t u same_step same_turn same_kept is =
    subst (λ x. IsDoneBy x old t new) (sym same_step) (subst (λ x. IsDoneBy m old x new) (sym same_turn) (subst (λ x. IsDoneBy m old u x) (sym same_kept) is))

pub past_by : (s : Step) (it : Value) (old new : KeptFrames) → s ≡ step.Past it → new ≡ old → IsDoneBy s old (progress.GoesOn it) new
past_by s it old new is kept = done_by s (step.Past it) old new old (progress.GoesOn it) (progress.GoesOn it) is refl kept (past_done old it)

pub named_by : (s : Step) (it : Value) (old new : KeptFrames) → s ≡ step.Named it → new ≡ naming it old → IsDoneBy s old (progress.GoesOn value.Unit) new
named_by s it old new is kept = done_by s (step.Named it) old new (naming it old) (progress.GoesOn value.Unit) (progress.GoesOn value.Unit) is refl kept (named_done old it)

pub calls_by : (s : Step) (call : Ask) (old new : KeptFrames) → s ≡ step.Calls call → new ≡ old → IsDoneBy s old (progress.Calls call) new
calls_by s call old new is kept = done_by s (step.Calls call) old new old (progress.Calls call) (progress.Calls call) is refl kept (calls_done old call)

pub into_block : (s : Step) (body : ℕ) (old new : KeptFrames) → s ≡ step.Block body → new ≡ gone_into (mark.Cut (length old.variables)) body old → IsDoneBy s old (progress.GoesOn value.Unit) new
into_block s body old new is kept = done_by s (step.Block body) old new _ (progress.GoesOn value.Unit) (progress.GoesOn value.Unit) is refl kept (block_done old body)

pub into_tried : (s : Step) (tried handler : ℕ) (old new : KeptFrames) → s ≡ step.Tried tried handler → new ≡ gone_into (mark.Try handler (length old.variables)) tried old → IsDoneBy s old (progress.GoesOn value.Unit) new
into_tried s tried handler old new is kept = done_by s (step.Tried tried handler) old new _ (progress.GoesOn value.Unit) (progress.GoesOn value.Unit) is refl kept (tried_done old tried handler)

pub into_loop : (s : Step) (body : ℕ) (old new : KeptFrames) → s ≡ step.Looped body → new ≡ gone_into (mark.Loop body (length old.variables)) body old → IsDoneBy s old (progress.Calls ask.Turn) new
into_loop s body old new is kept = done_by s (step.Looped body) old new _ (progress.Calls ask.Turn) (progress.Calls ask.Turn) is refl kept (looped_done old body)

pub into_repeat : (s : Step) (left body : ℕ) (old new : KeptFrames) → s ≡ step.Repeated left body
    → new ≡ gone_into (mark.Repeat 1 left body (length old.variables)) body (naming (value.Int (pos 0)) old) → IsDoneBy s old (progress.Calls ask.Turn) new
into_repeat s left body old new is kept = done_by s (step.Repeated left body) old new _ (progress.Calls ask.Turn) (progress.Calls ask.Turn) is refl kept (repeated_done old left body)

pub locks_by : (s : Step) (mutex body : ℕ) (old new : KeptFrames) → s ≡ step.Locks mutex body → new ≡ with_mark (mark.Locking mutex body) old → IsDoneBy s old (progress.Calls (ask.OnObject object.Lock mutex)) new
locks_by s mutex body old new is kept = done_by s (step.Locks mutex body) old new _ _ _ is refl kept (locks_done old mutex body)

pub uses_by : (s : Step) (pool body : ℕ) (old new : KeptFrames) → s ≡ step.Uses pool body → new ≡ with_mark (mark.Using pool body) old → IsDoneBy s old (progress.Calls (ask.Use pool)) new
uses_by s pool body old new is kept = done_by s (step.Uses pool body) old new _ _ _ is refl kept (uses_done old pool body)
