-- Which fibers are attached to a switch.
use Rattle.std.specs.Prelude.{ℕ, ◌⊎◌, Contains}
use Rattle.spec_parts.specs.Switches.{Switch}

-- it is attached, as a daemon or not
abbrev pub IsAttached : (fiber : ℕ) → Switch → Type 0
IsAttached fiber switch = Contains switch.fibers fiber ⊎ Contains switch.daemons fiber
