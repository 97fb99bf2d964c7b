use Rattle.std.proofs.Common.{false, ◌+◌, drop}
use Rattle.spec_script.specs.Reading.{text_items}
use Rattle.script_tree.specs.Views.{from}
use Rattle.script_tree.proofs.Trees.{text_grows}
use Rattle.script_tree.proofs.reader.push_text.Goals as goal

pub returns-clause-text : goal.returns-clause-text
returns-clause-text c =
    let bytes = c.args.bytes.now in
    let text = c.in_ok-text.text in
    text_grows c.args.draft.now c.push.new.self c.args.at text.items.items (from bytes text.next) (text_items c.args.at false 0 (c.args.at + 1) (drop (c.args.at + 1) bytes)) c.in_ok-text.ensures.text c.in_ok-push.ensures
