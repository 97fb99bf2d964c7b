use Rattle.std.proofs.Common.{◌≡◌, map, take}
use Rattle.std.specs.Prelude.{fold}
use Rattle.eio_value.specs.declared.plain.Plain.TheVariants.{Failure}
use Rattle.spec_script.specs.Opening.{with_bound}
use Rattle.script_forms.specs.Failures.{HasFailures}
use Rattle.script_code.proofs.opening.bind_failures.Given as goal

abbrev pub invariant-loop-text : goal.invariant-loop-text
invariant-loop-text l = record {
  bound : l.table ≡ fold with_bound l.fn.table (map Failure (take l.text-index l.failures));
  there : HasFailures l.table l.failures;
}
