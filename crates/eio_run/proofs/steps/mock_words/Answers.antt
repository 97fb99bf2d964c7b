use Rattle.std.proofs.Common.{◌≡◌, false, true, map, ap, sym, ◌∙◌}
use Rattle.std.specs.String.{string_bytes}
use Rattle.eio_run.proofs.MockReads.{any_along, read_means, refused_means, separated_means}
use Rattle.eio_run.proofs.Walk.{has_separator}
use Rattle.eio_run.specs.Words.{if_built}
use Rattle.eio_run.proofs.steps.mock_words.Goals as goal

pub returns-then-has_separator-clause-means : goal.returns-then-has_separator-clause-means
returns-then-has_separator-clause-means c =
    let has : has_separator (map string_bytes c.args.rest.now) ≡ true = any_along string_bytes c.args.rest.now ∙ (sym c.has_separator.ensures ∙ c.if-has_separator.true) in
    sym (ap if_built (separated_means (map string_bytes c.args.rest.now) has))

pub returns-in-Ok-clause-means : goal.returns-in-Ok-clause-means
returns-in-Ok-clause-means c =
    let none : has_separator (map string_bytes c.args.rest.now) ≡ false = any_along string_bytes c.args.rest.now ∙ (sym c.has_separator.ensures ∙ c.if-has_separator.false) in
    c.mock_with.ensures.means ∙ ap if_built (read_means (map string_bytes c.args.rest.now) _ none c.in-Ok.ensures.0 c.in-Ok.ensures.1)

pub returns-in_default-clause-means : goal.returns-in_default-clause-means
returns-in_default-clause-means c =
    let none : has_separator (map string_bytes c.args.rest.now) ≡ false = any_along string_bytes c.args.rest.now ∙ (sym c.has_separator.ensures ∙ c.if-has_separator.false) in
    sym (ap if_built (refused_means (map string_bytes c.args.rest.now) c.in-Err.refusal none c.in-Err.ensures c.in_default.not-OutOfMemory))
