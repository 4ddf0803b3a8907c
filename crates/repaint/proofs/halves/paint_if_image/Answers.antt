-- The one byte, where the word shows the image.
use Rattle.std.proofs.Common.{sym, ◌∙◌}
use Rattle.picture.specs.Picture.{byte_over}
use Rattle.repaint.proofs.GlyphTurns.{glyph-cell-one, glyph-cell-none}
use Rattle.repaint.proofs.halves.paint_if_image.Goals as goal

pub returns-then-shows_image : goal.returns-then-shows_image
returns-then-shows_image c =
    let a = c.args in let p = c.requires in
    glyph-cell-one a.scene.now.look.view a.scene.now.text.now a.part.word a.part.low a.row a.cell p.0 (byte_over _ _ _) a.frame.now _ p.1 p.2 c.told-frame
    (rw c.shown_word-shown.ensures.value at (sym c.shows_image.ensures ∙ c.if-shows_image.true)) (rw (c.byte_over.ensures, c.row_place.ensures, c.byte_column-column.ensures.value))

pub returns : goal.returns
returns c =
    let a = c.args in let p = c.requires in
    glyph-cell-none a.scene.now.look.view a.scene.now.text.now a.part.word a.part.low a.row a.cell p.0 (byte_over _ _ _) _ c.told-frame
    (rw c.shown_word-shown.ensures.value at (sym c.shows_image.ensures ∙ c.if-shows_image.false))
