use Rattle.std.proofs.Common.{◌∙◌}
use Rattle.std.specs.String.{string_bytes}
use Rattle.eio_run.proofs.Meanings.{named, none_means, mock_means, check_means, print_means, others_mean}
use Rattle.eio_run.proofs.words.command_of.Goals as goal

pub returns-in_default-clause-means : goal.returns-in_default-clause-means
returns-in_default-clause-means c = none_means _ _ c.in_default.len_below

pub returns-in-mock-clause-means : goal.returns-in-mock-clause-means
returns-in-mock-clause-means c =
    c.mock_words.ensures.means ∙ mock_means _ _ _ (named string_bytes _ _ _ c.in-len1-up.len_at_least c.name-item.is c.as_str.ensures.value) c.in-mock.is

pub returns-in-check-clause-means : goal.returns-in-check-clause-means
returns-in-check-clause-means c =
    c.lone_word.ensures.means ∙ check_means _ _ _ (named string_bytes _ _ _ c.in-len1-up.len_at_least c.name-item.is c.as_str.ensures.value) c.in-check.is

pub returns-in-print-clause-means : goal.returns-in-print-clause-means
returns-in-print-clause-means c =
    c.lone_word-in-print.ensures.means ∙ print_means _ _ _ (named string_bytes _ _ _ c.in-len1-up.len_at_least c.name-item.is c.as_str.ensures.value) c.in-print.is

pub returns-in_default-as_str-clause-means : goal.returns-in_default-as_str-clause-means
returns-in_default-as_str-clause-means c =
    others_mean _ _ _ (named string_bytes _ _ _ c.in-len1-up.len_at_least c.name-item.is c.as_str.ensures.value) c.in_default-as_str.not-mock c.in_default-as_str.not-check c.in_default-as_str.not-print
