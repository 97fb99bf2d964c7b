use Rattle.law_script.proofs.Scripts.Printing.{print_is_kept, print_stands}
use Rattle.law_script.proofs.script_laws.print_reads_again.Goals as goal

pub returns-clause-stands : goal.returns-clause-stands
returns-clause-stands c = print_stands

pub returns-clause-kept : goal.returns-clause-kept
returns-clause-kept c = print_is_kept
