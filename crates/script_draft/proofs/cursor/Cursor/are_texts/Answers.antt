use Rattle.std.proofs.Common.{ap, ◌∙◌}
use Rattle.spec_script.specs.Forms.{are_texts}
use Rattle.script_draft.specs.Ahead.{ahead}
use Rattle.script_draft.proofs.TextsAhead.{not_none, not_some, texts_end, texts_other, texts_on, texts_done}
use Rattle.script_draft.proofs.cursor.Cursor.are_texts.Goals as goal

pub returns-then-not-begins_tree : goal.returns-then-not-begins_tree
returns-then-not-begins_tree c =
    texts_end c.self.inside.pieces.now c.loop-piece.piece-index c.piece-item.result _ _ _ c.loop-piece-test.true c.piece-item.is c.begins_tree.ensures c.if-not-begins_tree.true c.loop-piece.invariant
    ∙ ap (λ ps. are_texts (ahead ps)) c.self.view_is

pub returns-then-is_none : goal.returns-then-is_none
returns-then-is_none c =
    texts_other c.self.inside.pieces.now c.loop-piece.piece-index c.piece-item.result _ _ _ _ c.loop-piece-test.true c.piece-item.is c.begins_tree.ensures c.if-not-begins_tree.false c.as_text.ensures (not_none _ _ c.is_none.ensures c.if-is_none.true) c.loop-piece.invariant
    ∙ ap (λ ps. are_texts (ahead ps)) c.self.view_is

pub loop-piece-preserved : goal.loop-piece-preserved
loop-piece-preserved c = texts_on c.self.inside.pieces.now c.loop-piece.piece-index c.piece-item.result _ _ _ c.loop-piece-test.true c.piece-item.is c.as_text.ensures (not_some _ _ c.is_none.ensures c.if-is_none.false) c.loop-piece.invariant

pub returns : goal.returns
returns c = texts_done c.self.inside.pieces.now c.loop-piece.piece-index _ c.loop-piece-test.false c.loop-piece.invariant ∙ ap (λ ps. are_texts (ahead ps)) c.self.view_is
