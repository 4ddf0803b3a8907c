-- Stage by stage.
use Rattle.std.proofs.Common.{◌∙◌, arith, add-zero}
use Rattle.picture.specs.Picture.{fonts_in, memories_in}
use Rattle.tiles.proofs.Laid.{over-fits, band_painted}
use Rattle.drawing.proofs.whole.paint_band.Goals as goal

pub hand_out-requires : goal.hand_out-requires
hand_out-requires c = let b = c.band_end-end.ensures.within in (omega arith, omega (arith, b.0), b.1)

pub overlay_if-requires : goal.overlay_if-requires
overlay_if-requires c =
    let b = c.band_end-end.ensures.within in
    (rw (c.row_place.ensures ∙ add-zero _) (over-fits c.shown_row-s.result _ c.band_end-end.result c.shown_row-s.ensures.within b.0 b.2), omega arith)

pub returns-clause-frame_after : goal.returns-clause-frame_after
returns-clause-frame_after c =
    let b = c.band_end-end.ensures.within in let s = c.shown_row-s in let a = c.args.scene.now in
    band_painted (fonts_in a) (memories_in a) a.look c.requires.0
    c.args.row c.band_end-end.result s.result s.ensures.value b.0 b.1 b.2 _ _ _ _ c.lay_line.ensures c.hand_out.ensures
    (rw (c.row_place.ensures ∙ add-zero _, c.row_place-2.ensures ∙ add-zero _) at c.overlay_if.ensures)
