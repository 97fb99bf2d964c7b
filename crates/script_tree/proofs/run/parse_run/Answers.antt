use Rattle.std.proofs.Common.{◌≡◌, sym, arith, ◌∙◌, w64, rules}
use Rattle.std.proofs.lemmas.Bool.Decides.{nat_tests}
use mir.Val.{to_z, of_z}
use Rattle.script_tree.proofs.Runs.{run_empty, run_number}
use Rattle.script_tree.proofs.run.parse_run.Goals as goal

pub returns-then-is_empty : goal.returns-then-is_empty
returns-then-is_empty c = record { tree = run_empty c.args.at c.args.run.now (let e = c.is_empty.ensures in let t = c.if-is_empty.true in grind (arith, nat_tests)) }

pub returns-in-Some : goal.returns-in-Some
returns-in-Some c =
    let e : to_z w64 (of_z w64 c.in-Some.number) ≡ c.in-Some.number = search rules in
    record { tree = rw e (run_number c.args.at c.args.run.now c.in-Some.number (let e = c.is_empty.ensures in let t = c.if-is_empty.false in grind (arith, nat_tests)) (sym c.is_letter.ensures ∙ c.if-is_letter.false) c.if-run-eq95.false (sym c.in-Some.is ∙ c.parse_number.ensures)) }
