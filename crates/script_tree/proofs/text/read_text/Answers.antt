use Rattle.std.proofs.Common.{◌∙◌, sym, arith, length}
use Rattle.script_tree.proofs.Texts.{text_full}
use Rattle.script_tree.proofs.text.read_text.Goals as goal

pub returns-then-len-ge-MOST_ITEMS-clause-text : goal.returns-then-len-ge-MOST_ITEMS-clause-text
returns-then-len-ge-MOST_ITEMS-clause-text c =
    sym c.loop-at.invariant.same ∙ text_full c.loop-at.items.items c.args.quote c.loop-at.escaped (length c.loop-at.items.items) c.loop-at.at c.in-Item.item c.args.bytes.now c.loop-at-test.true (sym c.in-Item.ensures) (omega arith)
