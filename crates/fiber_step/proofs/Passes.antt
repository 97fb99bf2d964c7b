-- What the marks do to which a value comes.
use Rattle.std.proofs.Common.{◌≡◌, ℕ, suc, ◌+◌, ◌-◌, ◌<◌, ◌^◌, List, [], ◌∷◌, ◌++◌, length, Option, Some, None, false, refl, sym, ap, ◌∙◌, subst, arith, pos}
use Rattle.std.proofs.Math.Seq.{take-length}
use Rattle.eio_value.specs.declared.raised.Outcome.{Outcome}
use Rattle.eio_value.specs.declared.raised.Outcome.TheVariants as outcome
use Rattle.eio_value.specs.declared.value.Value.{Value}
use Rattle.eio_value.specs.declared.value.Value.TheVariants as value
use Rattle.script_code.specs.Standing.{statements_at}
use Rattle.script_forms.specs.declared.node.Node.{Node}
use Rattle.spec_fiber.specs.Asks as model
use Rattle.spec_fiber.specs.Settling.{Settled, answered, thrown, resource_of}
use Rattle.spec_fiber.specs.Silent.{block}
use Rattle.spec_fiber.specs.Work as work
use Rattle.spec_fiber.specs.Work.{Work, Carry, restored, cut}
use Rattle.fiber_step.specs.Framing.{KeptFrames}
use Rattle.fiber_step.specs.Placing.{HasItsBlock, ArePlaced}
use Rattle.fiber_step.specs.Standing.{ask_of, mark_work, works_of, kept_by, is_end, Ends}
use Rattle.fiber_step.specs.Stepping.{HasBodiesOf}
use Rattle.fiber_step.specs.Turning.{with_mark, cut_to, naming, kept_to, gone_into, IsTurn, is_run}
use Rattle.fiber_step.specs.Weighing.{weight_of_statements, weight_of_block, weight_of_item, weight}
use Rattle.fiber_step.specs.declared.ask.Ask.TheVariants as ask
use Rattle.fiber_step.specs.declared.item.Item.TheVariants as item
use Rattle.fiber_step.specs.declared.mark.End.{End}
use Rattle.fiber_step.specs.declared.mark.Mark.{Mark}
use Rattle.fiber_step.specs.declared.mark.Mark.TheVariants as mark
use Rattle.fiber_step.specs.declared.progress.Progress.{Progress}
use Rattle.fiber_step.specs.declared.progress.Progress.TheVariants as progress
use Rattle.fiber_step.proofs.Positions.{next_two}
use Rattle.fiber_step.proofs.Turns.{mark_next, mark_weight, mark_placed, placed_mark, as_turn}

-- ## Before a block

pub block_works : (nodes : List Node) (end : Mark) (body : ℕ) (kept : KeptFrames)
    → work.Run (statements_at nodes body) ∷ mark_work nodes end ∷ works_of nodes kept.items ≡ works_of nodes (gone_into end body kept).items
block_works nodes end body kept = sym (next_two nodes kept.items (item.Mark end) body)

pub block_weight : (nodes : List Node) (end : Mark) (body : ℕ) (kept : KeptFrames)
    → weight (works_of nodes (gone_into end body kept).items) ≡ weight_of_statements (statements_at nodes body) + (weight_of_item (mark_work nodes end) + weight (works_of nodes kept.items))
block_weight nodes end body kept = ap weight (next_two nodes kept.items (item.Mark end) body)

pub block_placed : (nodes : List Node) (end : Mark) (body : ℕ) (kept : KeptFrames) → ArePlaced nodes kept.items → HasItsBlock nodes (mark.Run body) → ArePlaced nodes (kept.items ++ item.Mark end ∷ [])
    → ArePlaced nodes (gone_into end body kept).items
block_placed nodes end body kept all has with_end = placed_mark nodes (mark.Run body) (kept.items ++ item.Mark end ∷ []) with_end (has, tt)

-- ## Ends

kept_same : (nodes : List Node) (call : model.Ask) (keep : Option ℕ) (old : KeptFrames) (c : Carry)
    → (let s : Settled = record { call = call; behind = works_of nodes old.items; carry = kept_by keep (restored old.variables c) } in s)
    ≡ (let s : Settled = record { call = call; behind = works_of nodes (kept_to keep old).items; carry = restored (kept_to keep old).variables c } in s)
kept_same nodes call None old c = refl
kept_same nodes call (Some keep) old c = refl

kept_placed : (nodes : List Node) (keep : Option ℕ) (old : KeptFrames) → ArePlaced nodes old.items → ArePlaced nodes (kept_to keep old).items
kept_placed nodes None old all = all
kept_placed nodes (Some keep) old all = all

pub end_turns : (nodes : List Node) (came : Outcome) (it : Mark) (old : KeptFrames) (end : End) → Ends it came (Some end) → HasBodiesOf nodes end.call
    → IsTurn nodes came (with_mark it old) (progress.Calls end.call) (kept_to end.keep old)
end_turns nodes came it old end ends bodies = record {
  next = λ c. mark_next nodes came it old c ∙ (ends nodes (works_of nodes old.items) (restored old.variables c) ∙ kept_same nodes (ask_of nodes end.call) end.keep old c);
  placed = λ all. kept_placed nodes end.keep old (mark_placed nodes it old all).0;
  lighter = tt;
  quiet = bodies;
}

-- ## Ends of blocks that do nothing more

cut_turns : (nodes : List Node) (old : KeptFrames) (keep : ℕ) (it : Value) → IsTurn nodes (outcome.Ok it) (with_mark (mark.Cut keep) old) (progress.GoesOn it) (cut_to keep old)
unfolding answered
cut_turns nodes old keep it = record {
  next = λ c. mark_next nodes (outcome.Ok it) (mark.Cut keep) old c;
  placed = λ all. (mark_placed nodes (mark.Cut keep) old all).0;
  lighter = let sum = mark_weight nodes (mark.Cut keep) old in omega (arith, sum);
  quiet = tt;
}

try_turns : (nodes : List Node) (old : KeptFrames) (handler keep : ℕ) (it : Value) → IsTurn nodes (outcome.Ok it) (with_mark (mark.Try handler keep) old) (progress.GoesOn it) (cut_to keep old)
unfolding answered
try_turns nodes old handler keep it = record {
  next = λ c. mark_next nodes (outcome.Ok it) (mark.Try handler keep) old c;
  placed = λ all. (mark_placed nodes (mark.Try handler keep) old all).0;
  lighter = let sum = mark_weight nodes (mark.Try handler keep) old in omega (arith, sum);
  quiet = tt;
}

bind_turns : (nodes : List Node) (old : KeptFrames) (slot : ℕ) (it : Value) → IsTurn nodes (outcome.Ok it) (with_mark (mark.Bind slot) old) (progress.GoesOn value.Unit) (naming it (cut_to slot old))
unfolding answered
bind_turns nodes old slot it = record {
  next = λ c. mark_next nodes (outcome.Ok it) (mark.Bind slot) old c;
  placed = λ all. (mark_placed nodes (mark.Bind slot) old all).0;
  lighter = let sum = mark_weight nodes (mark.Bind slot) old in omega (arith, sum);
  quiet = tt;
}

-- ## Turns of loops

loop_turns : (nodes : List Node) (old : KeptFrames) (body keep : ℕ) (it : Value)
    → IsTurn nodes (outcome.Ok it) (with_mark (mark.Loop body keep) old) (progress.Calls ask.Turn) (gone_into (mark.Loop body keep) body (cut_to keep old))
unfolding answered
loop_turns nodes old body keep it = record {
  next = λ c. mark_next nodes (outcome.Ok it) (mark.Loop body keep) old c
      ∙ ap (λ these. let s : Settled = record { call = model.Turn; behind = these; carry = cut keep (restored old.variables c) } in s) (block_works nodes (mark.Loop body keep) body (cut_to keep old));
  placed = λ all. let was = mark_placed nodes (mark.Loop body keep) old all in block_placed nodes (mark.Loop body keep) body (cut_to keep old) was.0 was.1.0 all;
  lighter = tt;
  quiet = tt;
}

last_turn : (nodes : List Node) (old : KeptFrames) (turn_number body keep : ℕ) (it : Value)
    → IsTurn nodes (outcome.Ok it) (with_mark (mark.Repeat turn_number 0 body keep) old) (progress.GoesOn value.Unit) (cut_to keep old)
unfolding answered
last_turn nodes old turn_number body keep it = record {
  next = λ c. mark_next nodes (outcome.Ok it) (mark.Repeat turn_number 0 body keep) old c;
  placed = λ all. (mark_placed nodes (mark.Repeat turn_number 0 body keep) old all).0;
  lighter = let sum = mark_weight nodes (mark.Repeat turn_number 0 body keep) old in omega (arith, sum);
  quiet = tt;
}

pub no_turn_left : (nodes : List Node) (old : KeptFrames) (turn_number left body keep : ℕ) (it : Value) → left ≡ 0
    → IsTurn nodes (outcome.Ok it) (with_mark (mark.Repeat turn_number left body keep) old) (progress.GoesOn value.Unit) (cut_to keep old)
no_turn_left nodes old turn_number left body keep it none =
    subst (λ k. IsTurn nodes (outcome.Ok it) (with_mark (mark.Repeat turn_number k body keep) old) (progress.GoesOn value.Unit) (cut_to keep old)) (sym none) (last_turn nodes old turn_number body keep it)

another_turn : (nodes : List Node) (old : KeptFrames) (turn_number left body keep : ℕ) (it : Value) → turn_number + suc left < 2 ^ 63
    → IsTurn nodes (outcome.Ok it) (with_mark (mark.Repeat turn_number (suc left) body keep) old) (progress.Calls ask.Turn)
    (gone_into (mark.Repeat (turn_number + 1) left body keep) body (naming (value.Int (pos turn_number)) (cut_to keep old)))
unfolding answered
another_turn nodes old turn_number left body keep it few =
    let end = mark.Repeat (turn_number + 1) left body keep in
    let named = naming (value.Int (pos turn_number)) (cut_to keep old) in
    record {
      next = λ c. mark_next nodes (outcome.Ok it) (mark.Repeat turn_number (suc left) body keep) old c
          ∙ ap (λ these. let s : Settled = record { call = model.Turn; behind = these; carry = restored named.variables c } in s) (block_works nodes end body named);
      placed = λ all. let was = mark_placed nodes (mark.Repeat turn_number (suc left) body keep) old all in
          block_placed nodes end body named was.0 was.1.0 (placed_mark nodes end old.items was.0 (was.1.0, omega (arith, few)));
      lighter = tt;
      quiet = tt;
    }

pub turn_left : (nodes : List Node) (old : KeptFrames) (turn_number left body keep : ℕ) (it : Value) → turn_number + left < 2 ^ 63 → 0 < left
    → IsTurn nodes (outcome.Ok it) (with_mark (mark.Repeat turn_number left body keep) old) (progress.Calls ask.Turn)
    (gone_into (mark.Repeat (turn_number + 1) (left - 1) body keep) body (naming (value.Int (pos turn_number)) (cut_to keep old)))
turn_left nodes old turn_number left body keep it few some =
    let e : left ≡ suc (left - 1) = omega (arith, some) in
    let less : turn_number + suc (left - 1) < 2 ^ 63 = omega (arith, some, few) in
    subst (λ k. IsTurn nodes (outcome.Ok it) (with_mark (mark.Repeat turn_number k body keep) old) (progress.Calls ask.Turn)
    (gone_into (mark.Repeat (turn_number + 1) (left - 1) body keep) body (naming (value.Int (pos turn_number)) (cut_to keep old)))) (sym e)
    (another_turn nodes old turn_number (left - 1) body keep it less)

-- ## Blocks that begin once something is had

lock_turns : (nodes : List Node) (old : KeptFrames) (mutex body : ℕ) (it : Value)
    → IsTurn nodes (outcome.Ok it) (with_mark (mark.Locking mutex body) old) (progress.GoesOn it) (gone_into (mark.Unlock mutex (length old.variables)) body old)
unfolding answered thrown block weight_of_block
lock_turns nodes old mutex body it =
    let end = mark.Unlock mutex (length old.variables) in
    record {
      next = λ c. mark_next nodes (outcome.Ok it) (mark.Locking mutex body) old c ∙ ap (λ these. answered these it (restored old.variables c)) (block_works nodes end body old);
      placed = λ all. let was = mark_placed nodes (mark.Locking mutex body) old all in
          block_placed nodes end body old was.0 was.1.0 (placed_mark nodes end old.items was.0 (tt, tt));
      lighter = let sum = mark_weight nodes (mark.Locking mutex body) old in let less = block_weight nodes end body old in omega (arith, sum, less);
      quiet = tt;
    }

use_turns : (nodes : List Node) (old : KeptFrames) (pool body : ℕ) (it : Value)
    → IsTurn nodes (outcome.Ok it) (with_mark (mark.Using pool body) old) (progress.GoesOn it) (gone_into (mark.Put pool (resource_of it) (length old.variables)) body (naming it old))
unfolding answered thrown block weight_of_block
use_turns nodes old pool body it =
    let end = mark.Put pool (resource_of it) (length old.variables) in
    let named = naming it old in
    record {
      next = λ c. mark_next nodes (outcome.Ok it) (mark.Using pool body) old c
          ∙ (ap (λ those. answered (work.Run (statements_at nodes body) ∷ mark_work nodes end ∷ works_of nodes old.items) it (restored (those ++ it ∷ []) c)) (take-length old.variables)
          ∙ ap (λ these. answered these it (restored named.variables c)) (block_works nodes end body named));
      placed = λ all. let was = mark_placed nodes (mark.Using pool body) old all in
          block_placed nodes end body named was.0 was.1.0 (placed_mark nodes end old.items was.0 (tt, tt));
      lighter = let sum = mark_weight nodes (mark.Using pool body) old in let less = block_weight nodes end body named in omega (arith, sum, less);
      quiet = tt;
    }

-- ## By what the code does

pub cut_off_turns : (it : Mark) (keep : ℕ) (v : Value) (old new : KeptFrames) (t : Progress) → it ≡ mark.Cut keep → t ≡ progress.GoesOn v → new ≡ cut_to keep old
    → (nodes : List Node) → IsTurn nodes (outcome.Ok v) (with_mark it old) t new
cut_off_turns it keep v old new t is goes kept nodes = as_turn nodes (outcome.Ok v) it (mark.Cut keep) old t (progress.GoesOn v) new (cut_to keep old) is goes kept (cut_turns nodes old keep v)

pub tried_turns : (it : Mark) (handler keep : ℕ) (v : Value) (old new : KeptFrames) (t : Progress) → it ≡ mark.Try handler keep → t ≡ progress.GoesOn v → new ≡ cut_to keep old
    → (nodes : List Node) → IsTurn nodes (outcome.Ok v) (with_mark it old) t new
tried_turns it handler keep v old new t is goes kept nodes =
    as_turn nodes (outcome.Ok v) it (mark.Try handler keep) old t (progress.GoesOn v) new (cut_to keep old) is goes kept (try_turns nodes old handler keep v)

pub bound_turns : (it : Mark) (slot : ℕ) (v : Value) (old new : KeptFrames) (t : Progress) → it ≡ mark.Bind slot → t ≡ progress.GoesOn value.Unit → new ≡ naming v (cut_to slot old)
    → (nodes : List Node) → IsTurn nodes (outcome.Ok v) (with_mark it old) t new
bound_turns it slot v old new t is goes kept nodes =
    as_turn nodes (outcome.Ok v) it (mark.Bind slot) old t (progress.GoesOn value.Unit) new (naming v (cut_to slot old)) is goes kept (bind_turns nodes old slot v)

pub looped_turns : (it : Mark) (body keep : ℕ) (v : Value) (old new : KeptFrames) (t : Progress) → it ≡ mark.Loop body keep → t ≡ progress.Calls ask.Turn → new ≡ gone_into (mark.Loop body keep) body (cut_to keep old)
    → (nodes : List Node) → IsTurn nodes (outcome.Ok v) (with_mark it old) t new
looped_turns it body keep v old new t is goes kept nodes =
    as_turn nodes (outcome.Ok v) it (mark.Loop body keep) old t (progress.Calls ask.Turn) new (gone_into (mark.Loop body keep) body (cut_to keep old)) is goes kept (loop_turns nodes old body keep v)

pub locked_turns : (it : Mark) (mutex body : ℕ) (v : Value) (old new : KeptFrames) (t : Progress) → it ≡ mark.Locking mutex body → t ≡ progress.GoesOn v → new ≡ gone_into (mark.Unlock mutex (length old.variables)) body old
    → (nodes : List Node) → IsTurn nodes (outcome.Ok v) (with_mark it old) t new
locked_turns it mutex body v old new t is goes kept nodes =
    as_turn nodes (outcome.Ok v) it (mark.Locking mutex body) old t (progress.GoesOn v) new (gone_into (mark.Unlock mutex (length old.variables)) body old) is goes kept (lock_turns nodes old mutex body v)

pub given_turns : (it : Mark) (pool body : ℕ) (v : Value) (old new : KeptFrames) (t : Progress) → it ≡ mark.Using pool body → t ≡ progress.GoesOn v
    → new ≡ gone_into (mark.Put pool (resource_of v) (length old.variables)) body (naming v old)
    → (nodes : List Node) → IsTurn nodes (outcome.Ok v) (with_mark it old) t new
given_turns it pool body v old new t is goes kept nodes =
    as_turn nodes (outcome.Ok v) it (mark.Using pool body) old t (progress.GoesOn v) new (gone_into (mark.Put pool (resource_of v) (length old.variables)) body (naming v old)) is goes kept (use_turns nodes old pool body v)

pub repeated_turns : (it : Mark) (turn_number left body keep : ℕ) (v : Value) (old new : KeptFrames) (t : Progress) → it ≡ mark.Repeat turn_number left body keep
    → ((nodes : List Node) (v : Value) → IsTurn nodes (outcome.Ok v) (with_mark (mark.Repeat turn_number left body keep) old) t new)
    → (nodes : List Node) → IsTurn nodes (outcome.Ok v) (with_mark it old) t new
repeated_turns it turn_number left body keep v old new t is goes nodes = subst (λ x. IsTurn nodes (outcome.Ok v) (with_mark x old) t new) (sym is) (goes nodes v)

-- no other mark is silent
pub no_other_mark : (it : Mark) → is_run it ≡ false → is_end it ≡ false → ((keep : ℕ) → it ≡ mark.Cut keep → ⊥) → ((handler keep : ℕ) → it ≡ mark.Try handler keep → ⊥) → ((slot : ℕ) → it ≡ mark.Bind slot → ⊥)
    → ((body keep : ℕ) → it ≡ mark.Loop body keep → ⊥) → ((turn_number left body keep : ℕ) → it ≡ mark.Repeat turn_number left body keep → ⊥)
    → ((mutex body : ℕ) → it ≡ mark.Locking mutex body → ⊥) → ((pool body : ℕ) → it ≡ mark.Using pool body → ⊥) → ⊥
no_other_mark (mark.Run at) run end cuts tries binds loops repeats locks uses = cc
no_other_mark (mark.Cut keep) run end cuts tries binds loops repeats locks uses = cuts keep refl
no_other_mark (mark.Try handler keep) run end cuts tries binds loops repeats locks uses = tries handler keep refl
no_other_mark (mark.Bind slot) run end cuts tries binds loops repeats locks uses = binds slot refl
no_other_mark (mark.Loop body keep) run end cuts tries binds loops repeats locks uses = loops body keep refl
no_other_mark (mark.Repeat turn_number left body keep) run end cuts tries binds loops repeats locks uses = repeats turn_number left body keep refl
no_other_mark (mark.Locking mutex body) run end cuts tries binds loops repeats locks uses = locks mutex body refl
no_other_mark (mark.Using pool body) run end cuts tries binds loops repeats locks uses = uses pool body refl
no_other_mark (mark.Leave context late keep) run end cuts tries binds loops repeats locks uses = cc
no_other_mark (mark.Close switch keep) run end cuts tries binds loops repeats locks uses = cc
no_other_mark (mark.Closing switch kept) run end cuts tries binds loops repeats locks uses = cc
no_other_mark (mark.Join group keep) run end cuts tries binds loops repeats locks uses = cc
no_other_mark (mark.ShutReader reader keep) run end cuts tries binds loops repeats locks uses = cc
no_other_mark (mark.ShutWriter writer keep) run end cuts tries binds loops repeats locks uses = cc
no_other_mark (mark.Unlock mutex keep) run end cuts tries binds loops repeats locks uses = cc
no_other_mark (mark.Put pool resource keep) run end cuts tries binds loops repeats locks uses = cc
no_other_mark (mark.Resolve promise) run end cuts tries binds loops repeats locks uses = cc
