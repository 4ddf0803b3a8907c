-- By the region: each painter leaves what its region asks for.
use Rattle.std.proofs.Common.{◌∙◌}
use Rattle.picture.specs.Picture.{fonts_in, memories_in}
use Rattle.repaint.proofs.RegionSets.{nothing-painted, whole-painted, glyph-painted, graphic-painted, at_its_most}
use Rattle.regions.proofs.paint.Goals as goal

pub returns-in-Nothing : goal.returns-in-Nothing
returns-in-Nothing c =
    let q = at_its_most _ _ _ _ _ _ _ (nothing-painted _ _ _ _ c.told-frame) in rw c.in-Nothing.is (record { frame_after = q.0; most = q.1 })

pub returns-in-Whole : goal.returns-in-Whole
returns-in-Whole c =
    let q = at_its_most _ _ _ _ _ _ _ (whole-painted _ _ _ _ _ c.told-frame c.paint_whole.ensures) in
    rw c.in-Whole.is (record { frame_after = q.0; most = q.1 })

pub returns-in-Cells : goal.returns-in-Cells
returns-in-Cells c =
    let q = at_its_most _ _ _ _ _ _ _ c.paint_cells.ensures in rw c.in-Cells.is (record { frame_after = q.0; most = q.1 })

pub returns-in-GlyphHalf : goal.returns-in-GlyphHalf
returns-in-GlyphHalf c =
    let n = c.args.scene.now in
    let q = at_its_most _ _ _ _ _ _ _ (c.paint_glyph_half.ensures ∙ glyph-painted (fonts_in n) (memories_in n) n.look c.args.frame.now _ _) in
    rw c.in-GlyphHalf.is (record { frame_after = q.0; most = q.1 })

pub returns-in-GraphicHalf : goal.returns-in-GraphicHalf
returns-in-GraphicHalf c =
    let n = c.args.scene.now in
    let q =
    at_its_most _ _ _ _ _ _ _
    (c.paint_graphic_byte.ensures ∙ graphic-painted (fonts_in n) (memories_in n) n.look c.args.frame.now _ _ _ _ c.byte_column-at.ensures.value) in
    rw c.in-GraphicHalf.is (record { frame_after = q.0; most = q.1 })
