-- The cells before it, one cell further, and all sixteen.
use Rattle.std.proofs.Common.{◌≡◌, arith}
use Rattle.picture.specs.Picture.{byte_over}
use Rattle.repaint.proofs.Paintings.{paints_le}
use Rattle.repaint.proofs.GlyphTurns.{cells_begin, cells_turn, cells_end}
use Rattle.repaint.proofs.halves.paint_image_row.Goals as goal

pub loop-cell-init : goal.loop-cell-init
loop-cell-init c = cells_begin _ _ _ _ (byte_over _ _ _) _ _

pub overflow_add-count : goal.overflow_add-count
overflow_add-count c =
    let x = paints_le 1024 _ _ _ _ _ c.loop-cell.invariant in let y = paints_le 1024 _ _ _ _ _ c.paint_if_image-count.ensures in omega arith

pub loop-cell-preserved : goal.loop-cell-preserved
loop-cell-preserved c = cells_turn _ _ _ _ (byte_over _ _ _) _ _ _ _ _ _ _ c.loop-cell.invariant c.paint_if_image-count.ensures

pub returns : goal.returns
returns c =
    let l = c.loop-cell in let k : l.cell ≡ 16 = omega arith in
    cells_end _ _ _ _ (byte_over _ _ _) _ _ _ _ _ k c.told-frame l.invariant
