-- A context is cancelled once.
use Rattle.std.specs.Prelude.{◌≡◌, ℕ, false, List}
use Rattle.eio_value.specs.declared.plain.Plain.{Plain}
use Rattle.spec_parts.specs.Contexts.{Context, takes_effect, cancel}

-- once a context was cancelled, whether that took effect or not, no further cancellation of it does
abbrev pub CancelsOnce : Type 0
CancelsOnce = (contexts : List Context) (c : ℕ) (why : Plain) → takes_effect (cancel c why contexts) c ≡ false
