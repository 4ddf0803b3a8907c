-- By whether the two cells are one.
use Rattle.std.proofs.Common.{◌∙◌, sym, arith}
use Rattle.repaint.proofs.Paintings.{paints_le}
use Rattle.repaint.proofs.TwoCells.{cells_as_one, cells_as_two}
use Rattle.regions.proofs.paint_cells.Goals as goal

pub returns-then-same_cell : goal.returns-then-same_cell
returns-then-same_cell c = cells_as_one _ _ _ _ _ _ c.told-frame _ _ (sym c.same_cell.ensures ∙ c.if-same_cell.true) c.paint_cell-first.ensures

pub overflow_add-result : goal.overflow_add-result
overflow_add-result c = omega (arith, paints_le 1024 _ _ _ _ _ c.paint_cell-first.ensures, paints_le 1024 _ _ _ _ _ c.paint_cell.ensures)

pub returns : goal.returns
returns c = cells_as_two _ _ _ _ _ _ c.told-frame _ _ _ _ (sym c.same_cell.ensures ∙ c.if-same_cell.false) c.paint_cell-first.ensures c.paint_cell.ensures
