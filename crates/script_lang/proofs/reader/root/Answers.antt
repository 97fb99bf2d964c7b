use Rattle.std.proofs.Common.{◌≡◌, w64, rules, codes, ap, sym, ◌∙◌}
use mir.Val.{to_z, of_z}
use Rattle.spec_script.specs.Scripts.{version_of}
use Rattle.spec_script.specs.Trees.{place_of}
use Rattle.script_draft.specs.Ahead.{ahead, tree_ahead}
use Rattle.script_lang.proofs.ScriptsRead.{root_no_list, root_other, root_known, root_no_version, root_no_main, root_version, root_read, flipped, flipped_true}
use Rattle.script_lang.proofs.reader.root.Goals as goal

pub returns-in_default : goal.returns-in_default
returns-in_default c = rw c.place-at.ensures (root_no_list (tree_ahead c.args.cursor.now) c.in_default.ensures.0)

pub returns-then-not-is_word : goal.returns-then-not-is_word
returns-then-not-is_word c = rw c.place-at.ensures (root_other c.in-Some.head.at c.in-Some.head.word.now c.args.cursor.now c.enter.new.self c.in-Some.ensures (flipped c.is_word.result (codes "eio") c.in-Some.head.word.now c.is_word.ensures.test c.if-not-is_word.true))

pub returns-in_default-number_ahead : goal.returns-in_default-number_ahead
returns-in_default-number_ahead c =
    let known = root_known c.in-Some.head.at c.in-Some.head.word.now c.args.cursor.now c.enter.new.self c.in-Some.ensures (flipped_true c.is_word.result (codes "eio") c.in-Some.head.word.now c.is_word.ensures.test c.if-not-is_word.false) in
    rw c.place-at.ensures (known ∙ root_no_version (place_of (tree_ahead c.args.cursor.now)) (ahead c.enter.new.self) c.in_default-number_ahead.ensures)

pub returns-in_default-2 : goal.returns-in_default-2
returns-in_default-2 c =
    let known = root_known c.in-Some.head.at c.in-Some.head.word.now c.args.cursor.now c.enter.new.self c.in-Some.ensures (flipped_true c.is_word.result (codes "eio") c.in-Some.head.word.now c.is_word.ensures.test c.if-not-is_word.false) in
    rw c.place-at.ensures (known ∙ root_no_main (place_of (tree_ahead c.args.cursor.now)) c.in-Some-number_ahead.number.at c.in-Some-number_ahead.number.number c.enter.new.self c.pass.new.self c.in-Some-number_ahead.ensures c.pass.ensures (rw c.in_default-2.is at c.in_ok-bodies.ensures))

pub returns-in_default-version_of : goal.returns-in_default-version_of
returns-in_default-version_of c =
    let known = root_known c.in-Some.head.at c.in-Some.head.word.now c.args.cursor.now c.enter.new.self c.in-Some.ensures (flipped_true c.is_word.result (codes "eio") c.in-Some.head.word.now c.is_word.ensures.test c.if-not-is_word.false) in
    let found = rw c.in-Some-2.is at c.in_ok-bodies.ensures in
    let same : to_z w64 (of_z w64 c.in-Some-number_ahead.number.number) ≡ c.in-Some-number_ahead.number.number = search rules in
    known ∙ root_version (place_of (tree_ahead c.args.cursor.now)) c.in-Some-number_ahead.number.at c.in-Some-number_ahead.number.number c.enter.new.self c.pass.new.self found.parts c.in-Some-number_ahead.ensures c.pass.ensures found.is (ap version_of (sym same) ∙ sym c.in_default-version_of.ensures)

pub returns : goal.returns
returns c =
    let known = root_known c.in-Some.head.at c.in-Some.head.word.now c.args.cursor.now c.enter.new.self c.in-Some.ensures (flipped_true c.is_word.result (codes "eio") c.in-Some.head.word.now c.is_word.ensures.test c.if-not-is_word.false) in
    let found = rw c.in-Some-2.is at c.in_ok-bodies.ensures in
    let same : to_z w64 (of_z w64 c.in-Some-number_ahead.number.number) ≡ c.in-Some-number_ahead.number.number = search rules in
    record {
      parts = found.parts;
      is = found.is;
      count = found.count;
      gives = known ∙ root_read (place_of (tree_ahead c.args.cursor.now)) c.in-Some-number_ahead.number.at c.in-Some-number_ahead.number.number c.enter.new.self c.pass.new.self found.parts c.in-Some-version_of.version c.in-Some-number_ahead.ensures c.pass.ensures found.is (ap version_of (sym same) ∙ sym c.in-Some-version_of.ensures);
    }
