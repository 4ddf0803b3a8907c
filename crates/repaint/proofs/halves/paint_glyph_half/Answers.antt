-- The two rows, sixteen apart.
use Rattle.std.proofs.Common.{◌<◌, arith, refl, get_or}
use Rattle.controller.specs.Memories.{word_place}
use Rattle.picture.specs.Picture.{byte_over}
use Rattle.repaint.proofs.Paintings.{paints_le}
use Rattle.repaint.proofs.GlyphTurns.{glyph-rows}
use Rattle.repaint.proofs.halves.paint_glyph_half.Goals as goal

pub overflow_add-result : goal.overflow_add-result
overflow_add-result c =
    let x = paints_le 1024 _ _ _ _ _ c.paint_image_row-count.ensures in let y = paints_le 1024 _ _ _ _ _ c.paint_image_row.ensures in omega arith

pub returns : goal.returns
returns c =
    let a = c.args in let n = a.scene.now in let s : n.look.view.scroll < 256 = omega arith in
    glyph-rows n.look.view n.text.now a.word a.low _ _ _ (byte_over (get_or n.glyphs.memory.now (word_place a.word a.low) 0) n.graphic.now n.look) a.frame.now _ _ refl s c.told-frame
    (rw c.word_place.ensures.value at c.paint_image_row-count.ensures) (rw c.word_place.ensures.value at c.paint_image_row.ensures)
