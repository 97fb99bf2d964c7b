-- What words ask for, where it is built.
use Rattle.std.specs.Prelude.{◌<◌, ◌≤◌, Bool, true, false, Option, Some, None}
use Rattle.spec_script.specs.declared.Command.{Command}
use Rattle.spec_script.specs.declared.Command.TheVariants as command
use Rattle.spec_script.specs.Features.{is_built}
use Rattle.spec_script.specs.Limits.{most_steps}
use Rattle.mock_backend.specs.Today.{built_today}
use Rattle.spec_script.specs.Words.{Asked}

abbrev pub only_if : Bool → Command → Option Command
only_if true command = Some command
only_if false command = None

abbrev pub if_built : Option Asked → Option Command
if_built None = None
if_built (Some it) = only_if (is_built built_today it.feature) it.command

-- the commands that are built: `mock` in so many moves, at most all of them; `check` and `print`
abbrev pub IsOfToday : Option Command → Type 0
IsOfToday None = Unit {0}
IsOfToday (Some (command.Mock steps)) = (0 < steps) × (steps ≤ most_steps)
IsOfToday (Some (command.Domains lines)) = ⊥
IsOfToday (Some command.Check) = Unit {0}
IsOfToday (Some command.Print) = Unit {0}
IsOfToday (Some (command.Load forks)) = ⊥
IsOfToday (Some (command.Verify lines)) = ⊥
IsOfToday (Some command.Expand) = ⊥
IsOfToday (Some command.Paths) = ⊥
IsOfToday (Some command.Migrate) = ⊥
