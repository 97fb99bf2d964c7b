use Rattle.std.proofs.Common.{◌∙◌, ap, sym}
use Rattle.std.specs.String.{string_bytes}
use Rattle.eio_run.proofs.MockReads.{many_mean, unprefixed_means}
use Rattle.eio_run.specs.Words.{if_built}
use Rattle.eio_run.proofs.steps.mock_by_hand.Goals as goal

pub returns-in_err-strip_prefix-in-len1-clause-means : goal.returns-in_err-strip_prefix-in-len1-clause-means
returns-in_err-strip_prefix-in-len1-clause-means c =
    c.from_residual.ensures ∙ sym (ap if_built (unprefixed_means string_bytes c.args.rest.now c.word-item.result _ c.in-len1.len_at_least c.in-len1.len_below c.word-item.is c.deref.ensures c.in_err-strip_prefix-in-len1.ensures.cases))

pub returns-in_default-2-clause-means : goal.returns-in_default-2-clause-means
returns-in_default-2-clause-means c = sym (ap if_built (many_mean string_bytes c.args.rest.now c.in_default.len_at_least))
