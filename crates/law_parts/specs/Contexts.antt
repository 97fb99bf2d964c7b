-- Laws of contexts, after any list of calls in which each parent was made.
use Rattle.std.specs.Prelude.{◌≡◌, ℕ, true, false, ◌==◌, List, Option, Some, None}
use Rattle.eio_value.specs.declared.plain.Plain.{Plain}
use Rattle.spec_parts.specs.Contexts.{Context, context_at, above, off, goes_up_to, takes_effect, cancel}
use Rattle.spec_parts.specs.ContextCalls.{no_contexts, ContextCall, after, AreCallable}

-- the contexts that calls leave, begun with none
abbrev pub made_by : List ContextCall → List Context
made_by calls = (after calls no_contexts).made

-- a reason, or, where there is none, another
abbrev pub or_else : Option Plain → Option Plain → Option Plain
or_else (Some why) other = Some why
or_else None other = other

-- the reason by which the context is off from where a cancellation comes down to it
abbrev pub off_above : List Context → ℕ → Option Plain
off_above contexts c = elim (above contexts c) [ None ↦ None | Some parent ↦ off contexts parent ]

-- the rule of the walk: a context's own reason; else, where it isn't protected and has a parent, that of the parent
abbrev pub OffWalksUp : Type 0
OffWalksUp = (calls : List ContextCall) (c : ℕ) → AreCallable calls no_contexts → off (made_by calls) c ≡ or_else (context_at (made_by calls) c).reason (off_above (made_by calls) c)

-- a context that is off stays off, by the same reason, whatever is called
abbrev pub OffStays : Type 0
OffStays = (calls more : List ContextCall) (c : ℕ) (why : Plain) → AreCallable calls no_contexts → AreCallable more (after calls no_contexts)
    → off (made_by calls) c ≡ Some why → off (after more (after calls no_contexts)).made c ≡ Some why

-- the reason by which x is off once c was cancelled: as before where it was off, else the new one where x goes up to c
abbrev pub off_then : List Context → (c : ℕ) → Plain → (x : ℕ) → Option Plain
off_then contexts c why x = or_else (off contexts x) (elim (goes_up_to contexts x c) [ true ↦ Some why | false ↦ None ])

-- a cancellation that takes effect has the contexts off that go up to the cancelled one, and no others
abbrev pub CancelsBelow : Type 0
CancelsBelow = (calls : List ContextCall) (c : ℕ) (why : Plain) (x : ℕ) → AreCallable calls no_contexts → takes_effect (made_by calls) c ≡ true
    → off (cancel c why (made_by calls)) x ≡ off_then (made_by calls) c why x

-- a protected context goes up to itself alone, so that only its own cancellation has it off
pub record IsShut (contexts : List Context) (x : ℕ) : Type 0 where
  pub own : off contexts x ≡ (context_at contexts x).reason
  pub reached : (c : ℕ) → goes_up_to contexts x c ≡ (x == c)

abbrev pub ProtectedIsShut : Type 0
ProtectedIsShut = (contexts : List Context) (x : ℕ) → (context_at contexts x).protected ≡ true → IsShut contexts x
