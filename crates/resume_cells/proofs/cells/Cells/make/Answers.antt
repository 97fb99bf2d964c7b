use Rattle.std.proofs.Common.{ℕ, ◌<◌, [], sym, ◌∙◌, subst}
use Rattle.std.specs.Prelude.{◌/◌}
use Rattle.atomic_table.specs.Table.{opening}
use Rattle.resume_cells.specs.declared.rule.Plan.{Plan}
use Rattle.resume_cells.specs.Views.{first_view}
use Rattle.resume_cells.specs.Rule.{Keeps}
use Rattle.resume_cells.proofs.Dealing.{opens}
use Rattle.resume_cells.proofs.cells.Cells.make.Goals as goal

pub of_words-requires : goal.of_words-requires
of_words-requires c =
    let plan : Plan = record { cells = c.args.cells; seats = c.from.result; each = c.args.cells / c.from-2.result } in
    subst (λ ws. Keeps plan (opening ws [] (first_view plan.each))) (sym (c.as_slice.ensures.value ∙ c.in_ok-words.ensures.items_if_clones_equal (λ y e. e)))
    (opens plan (subst (λ (n : ℕ). 0 < n) (sym c.from.ensures) c.requires.some.0))
