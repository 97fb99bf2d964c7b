-- What is forgotten of ended contexts makes no difference. The definitions keep all of an ended context; the code forgets it. After any
-- calls that meet their conditions the two say the same of every live context.
use Rattle.std.specs.Prelude.{◌≡◌, ℕ, true, false, List, [], ◌∷◌, length}
use Rattle.spec_parts.specs.Contexts.{context_at, is_live, off, goes_up_to, is_full, takes_effect, to_be_struck}
use Rattle.spec_parts.specs.ContextCalls.{Contexts, no_contexts, ContextCall, Root, Sub, Protect, Cancel, Wait, Unwait, End, called, after, members}
use Rattle.cancel_tree.specs.Ended.{left_by_end}
use Rattle.cancel_tree.specs.Endings.{HasNoLiveChild}
use Rattle.cancel_tree.specs.Waits.{waits_in}

-- what a call leaves where an end forgets the context
abbrev pub left : ContextCall → Contexts → Contexts
left Root s = called Root s
left (Sub parent) s = called (Sub parent) s
left (Protect parent) s = called (Protect parent) s
left (Cancel c why) s = called (Cancel c why) s
left (Wait c fiber) s = called (Wait c fiber) s
left (Unwait fiber) s = called (Unwait fiber) s
left (End c) s = left_by_end c s

unfoldable pub left_after : List ContextCall → Contexts → Contexts
left_after [] s = s
left_after (call ∷ calls) s = left_after calls (left call s)

-- the conditions of an end
pub record MayEnd (c : ℕ) (s : Contexts) : Type 0 where
  pub childless : HasNoLiveChild s.made c
  pub idle : waits_in c s.waiting ≡ false

-- the conditions of a call on contexts
abbrev pub MayCall : ContextCall → Contexts → Type 0
MayCall Root s = Unit {0}
MayCall (Sub parent) s = is_live s.made parent ≡ true
MayCall (Protect parent) s = is_live s.made parent ≡ true
MayCall (Cancel c why) s = Unit {0}
MayCall (Wait c fiber) s = is_live s.made c ≡ true
MayCall (Unwait fiber) s = Unit {0}
MayCall (End c) s = MayEnd c s

-- each of the calls meets its condition in its turn
unfoldable pub MayCallAll : List ContextCall → Contexts → Type 0
MayCallAll [] s = Unit {0}
MayCallAll (call ∷ calls) s = MayCall call s × MayCallAll calls (called call s)

-- all that is asked of contexts is answered alike
pub record AnswersAlike (s t : Contexts) : Type 0 where
  pub count : length t.made ≡ length s.made
  pub full : is_full t.made ≡ is_full s.made
  pub waiting : t.waiting ≡ s.waiting
  pub live : (c : ℕ) → is_live t.made c ≡ is_live s.made c
  pub stand : (c : ℕ) → is_live s.made c ≡ true → context_at t.made c ≡ context_at s.made c
  pub off : (c : ℕ) → is_live s.made c ≡ true → off t.made c ≡ off s.made c
  pub reached : (x c : ℕ) → is_live s.made x ≡ true → goes_up_to t.made x c ≡ goes_up_to s.made x c
  pub members : (c : ℕ) → members t c ≡ members s c
  pub takes : (c : ℕ) → takes_effect t.made c ≡ takes_effect s.made c
  pub struck : (c : ℕ) → to_be_struck t.made t.waiting c ≡ to_be_struck s.made s.waiting c

abbrev pub ForgetsNothingLive : Type 0
ForgetsNothingLive = (calls : List ContextCall) → MayCallAll calls no_contexts → AnswersAlike (after calls no_contexts) (left_after calls no_contexts)
