-- Contexts and the fibers that wait in them, under any list of calls.
use Rattle.std.specs.Prelude.{ℕ, ◌<◌, true, false, ◌==◌, not, nat_lt, List, [], ◌∷◌, length, filter}
use Rattle.eio_value.specs.declared.plain.Plain.{Plain}
use Rattle.spec_parts.specs.Contexts as contexts
use Rattle.spec_parts.specs.Contexts.{Context, Waiting, root, sub, protect, cancel, reached}

-- all contexts that were made, and the waiting fibers in order of their numbers
pub record Contexts : Type 0 where
  pub made : List Context
  pub waiting : List Waiting

abbrev pub no_contexts : Contexts
no_contexts = record { made = []; waiting = [] }

-- a waiting fiber put in its place
abbrev pub put_in : Waiting → List Waiting → List Waiting
put_in w [] = w ∷ []
put_in w (v ∷ vs) = elim (nat_lt w.fiber v.fiber) [ true ↦ w ∷ v ∷ vs | false ↦ v ∷ put_in w vs ]

abbrev pub taken_out : ℕ → List Waiting → List Waiting
taken_out fiber waiting = filter (λ w. not (w.fiber == fiber)) waiting

-- the waiting fibers that a cancellation of the context reaches
abbrev pub members : Contexts → ℕ → List ℕ
members s c = reached s.made s.waiting c

pub data ContextCall : Type 0 where
  Root : ContextCall
  Sub : (parent : ℕ) → ContextCall
  Protect : (parent : ℕ) → ContextCall
  Cancel : (c : ℕ) → Plain → ContextCall
  Wait : (c fiber : ℕ) → ContextCall
  Unwait : (fiber : ℕ) → ContextCall
  End : (c : ℕ) → ContextCall

-- what a call leaves
abbrev pub called : ContextCall → Contexts → Contexts
called Root s = record s { made = (root s.made).contexts }
called (Sub parent) s = record s { made = (sub parent s.made).contexts }
called (Protect parent) s = record s { made = (protect parent s.made).contexts }
called (Cancel c why) s = record s { made = cancel c why s.made }
called (Wait c fiber) s = record s { waiting = put_in (record { fiber = fiber; context = c }) s.waiting }
called (Unwait fiber) s = record s { waiting = taken_out fiber s.waiting }
called (End c) s = record s { made = contexts.end c s.made }

-- what calls leave, one after the other
unfoldable pub after : List ContextCall → Contexts → Contexts
after [] s = s
after (call ∷ calls) s = after calls (called call s)

-- the condition of a call: a parent was made. What else it asks for isn't needed by the laws
abbrev pub IsCallable : ContextCall → Contexts → Type 0
IsCallable Root s = Unit {0}
IsCallable (Sub parent) s = parent < length s.made
IsCallable (Protect parent) s = parent < length s.made
IsCallable (Cancel c why) s = Unit {0}
IsCallable (Wait c fiber) s = Unit {0}
IsCallable (Unwait fiber) s = Unit {0}
IsCallable (End c) s = Unit {0}

-- each of the calls meets its condition in its turn
unfoldable pub AreCallable : List ContextCall → Contexts → Type 0
AreCallable [] s = Unit {0}
AreCallable (call ∷ calls) s = IsCallable call s × AreCallable calls (called call s)
