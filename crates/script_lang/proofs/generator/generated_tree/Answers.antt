use Rattle.std.proofs.Common.{◌∙◌}
use Rattle.script_tree.proofs.Copies.{spells, spelled_whole}
use Rattle.script_lang.proofs.Building.{whole_made}
use Rattle.script_lang.proofs.generator.generated_tree.Goals as goal

pub finish-requires : goal.finish-requires
finish-requires c =
    spelled_whole _ _
    (whole_made _ _ _ _ _ _ _ _ c.args.forks c.new-tree.ensures c.in_ok-form.ensures c.in_ok-number.ensures c.in_ok-push_stream.ensures c.in_ok-form-2.ensures
    c.in_ok-push_switch.ensures c.in_ok-close.ensures c.in_ok-close-2.ensures)

pub returns : goal.returns
returns c =
    c.finish.ensures
    ∙ spells _ _
    (whole_made _ _ _ _ _ _ _ _ c.args.forks c.new-tree.ensures c.in_ok-form.ensures c.in_ok-number.ensures c.in_ok-push_stream.ensures c.in_ok-form-2.ensures
    c.in_ok-push_switch.ensures c.in_ok-close.ensures c.in_ok-close-2.ensures)
