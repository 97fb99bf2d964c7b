-- An exception drops items.
use Rattle.std.proofs.Common.{◌≡◌, ◌≤◌, List, [], ◌∷◌, ◌++◌, Some, false, refl, ap, ◌∙◌, subst, arith}
use Rattle.std.proofs.lemmas.List.Elements.{All-pop}
use Rattle.eio_value.specs.declared.raised.Outcome.TheVariants as outcome
use Rattle.eio_value.specs.declared.raised.Raised.{Raised}
use Rattle.script_forms.specs.declared.node.Node.{Node}
use Rattle.spec_fiber.specs.Settling.{thrown}
use Rattle.spec_fiber.specs.Work.{Work, Carry, restored}
use Rattle.fiber_step.specs.Framing.{KeptFrames}
use Rattle.fiber_step.specs.Placing.{IsPlaced, ArePlaced}
use Rattle.fiber_step.specs.Standing.{mark_work, works_of}
use Rattle.fiber_step.specs.Turning.{with_mark, next_call}
use Rattle.fiber_step.specs.Unwinding.{stops, IsDropped}
use Rattle.fiber_step.specs.Weighing.{weight}
use Rattle.fiber_step.specs.declared.item.Item.TheVariants as item
use Rattle.fiber_step.specs.declared.mark.Mark.{Mark}
use Rattle.fiber_step.specs.declared.mark.Mark.TheVariants as mark
use Rattle.fiber_step.proofs.Positions.{next_item}
use Rattle.fiber_step.proofs.Turns.{mark_next, mark_weight, mark_placed}

goes_past : (nodes : List Node) (it : Mark) (behind : List Work) (raised : Raised) (c : Carry) → stops it ≡ false → thrown (mark_work nodes it ∷ behind) raised c ≡ thrown behind raised c
unfolding thrown
goes_past nodes (mark.Run number) behind raised c e = refl
goes_past nodes (mark.Cut keep) behind raised c e = refl
goes_past nodes (mark.Try handler keep) behind raised c e = absurd (cc)
goes_past nodes (mark.Bind slot) behind raised c e = refl
goes_past nodes (mark.Loop body keep) behind raised c e = refl
goes_past nodes (mark.Repeat turn left body keep) behind raised c e = refl
goes_past nodes (mark.Leave context late keep) behind raised c e = absurd (cc)
goes_past nodes (mark.Close switch keep) behind raised c e = absurd (cc)
goes_past nodes (mark.Closing switch kept) behind raised c e = absurd (cc)
goes_past nodes (mark.Join group keep) behind raised c e = absurd (cc)
goes_past nodes (mark.ShutReader reader keep) behind raised c e = absurd (cc)
goes_past nodes (mark.ShutWriter writer keep) behind raised c e = absurd (cc)
goes_past nodes (mark.Locking mutex body) behind raised c e = refl
goes_past nodes (mark.Unlock mutex keep) behind raised c e = absurd (cc)
goes_past nodes (mark.Using pool body) behind raised c e = refl
goes_past nodes (mark.Put pool resource keep) behind raised c e = absurd (cc)
goes_past nodes (mark.Resolve promise) behind raised c e = absurd (cc)

same_weight : (old new : KeptFrames) (nodes : List Node) → old ≡ new → weight (works_of nodes new.items) ≤ weight (works_of nodes old.items)
same_weight old new nodes e = let same = ap (λ (k : KeptFrames). weight (works_of nodes k.items)) e in omega (arith, same)

-- where a fiber stands as it stood
pub none_dropped : (old new : KeptFrames) → old ≡ new → IsDropped old new
none_dropped old new e = record {
  same = λ nodes raised c. ap (λ k. next_call nodes (outcome.Err raised) k c) e;
  placed = λ nodes all. subst (λ (k : KeptFrames). ArePlaced nodes k.items) e all;
  lighter = λ nodes. same_weight old new nodes e;
}

pub dropped_then : (old mid new : KeptFrames) → IsDropped old mid → IsDropped mid new → IsDropped old new
dropped_then old mid new first second = record {
  same = λ nodes raised c. first.same nodes raised c ∙ second.same nodes raised c;
  placed = λ nodes all. second.placed nodes (first.placed nodes all);
  lighter = λ nodes. let less = first.lighter nodes in let more = second.lighter nodes in omega (arith, less, more);
}

past_mark : (it : Mark) (new : KeptFrames) → stops it ≡ false → IsDropped (with_mark it new) new
past_mark it new past = record {
  same = λ nodes raised c. mark_next nodes (outcome.Err raised) it new c ∙ goes_past nodes it (works_of nodes new.items) raised (restored new.variables c) past;
  placed = λ nodes all. (mark_placed nodes it new all).0;
  lighter = λ nodes. let sum = mark_weight nodes it new in omega (arith, sum);
}

-- a mark is dropped at which it doesn't stop
pub drops_mark : (old new : KeptFrames) (it : Mark) → old ≡ with_mark it new → stops it ≡ false → IsDropped old new
drops_mark old new it e past = dropped_then old (with_mark it new) new (none_dropped old (with_mark it new) e) (past_mark it new past)

-- the variables are back that were a fiber's
pub drops_restoring : (old new : KeptFrames) → old.items ≡ new.items ++ item.Restore new.variables ∷ [] → IsDropped old new
unfolding thrown
drops_restoring old new e = record {
  same = λ nodes raised c. ap (λ work. thrown work raised (restored old.variables c)) (ap (works_of nodes) e ∙ next_item nodes new.items (item.Restore new.variables));
  placed = λ nodes all. (All-pop (IsPlaced nodes) old.items new.items (Some (item.Restore new.variables)) e all).0;
  lighter = λ nodes. let sum = ap weight (ap (works_of nodes) e ∙ next_item nodes new.items (item.Restore new.variables)) in omega (arith, sum);
}
