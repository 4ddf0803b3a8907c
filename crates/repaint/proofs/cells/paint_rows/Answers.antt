-- The rows before it, one row further, and all.
use Rattle.std.proofs.Common.{◌∙◌, refl, arith}
use Rattle.picture.specs.Picture.{wide}
use Rattle.picture.specs.Tiles.{shown_by}
use Rattle.repaint.specs.Repaint.{in_columns}
use Rattle.repaint.proofs.Paintings.{rows_begin, paints_le}
use Rattle.repaint.proofs.CellTurns.{cell-rows-turn}
use Rattle.repaint.proofs.cells.paint_rows.Goals as goal

pub loop-row-init : goal.loop-row-init
loop-row-init c =
    rw c.into_iter-row-iterator.ensures.into_iter_gives (tt, tt, omega arith, c.requires.1, refl, rows_begin wide (in_columns _) (shown_by _ _ _) _ _)

pub overflow_add-count : goal.overflow_add-count
overflow_add-count c = let y = paints_le 1024 _ _ _ _ _ c.loop-row.invariant.5 in omega arith

pub loop-row-preserved : goal.loop-row-preserved
loop-row-preserved c =
    let i = c.loop-row.invariant in let s = c.in-Some.ensures.steps in
    rw s.1.2 (tt, tt, omega arith, omega arith, s.0 ∙ i.4, cell-rows-turn (shown_by _ _ _) _ _ _ _ _ _ _ (omega arith) c.requires.0 i.2 i.5 (rw s.1.1 at c.paint_cell_row.ensures))
