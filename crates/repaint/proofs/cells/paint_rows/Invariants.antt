-- Row by row.
use Rattle.std.proofs.Common.{◌≡◌, ◌≤◌}
use Rattle.base.specs.Layout.{rows}
use Rattle.picture.specs.Picture.{wide}
use Rattle.picture.specs.Tiles.{shown_by}
use Rattle.repaint.specs.Repaint.{painting, paints_on, in_columns}
use Rattle.repaint.proofs.cells.paint_rows.Given as goal

abbrev pub invariant-loop-row : goal.invariant-loop-row
invariant-loop-row l =
    (goal.iterator-loop-row).can_next l.row-iterator
    × (goal.iterator-loop-row).is_finite l.row-iterator
    × (l.fn.run.start ≤ l.row-iterator.start) × (l.row-iterator.start ≤ l.fn.run.end) × (l.row-iterator.end ≡ l.fn.run.end)
    × (painting l.count l.frame ≡ paints_on wide (rows l.fn.run.start l.row-iterator.start (in_columns l.cell)) (shown_by l.tile l.graphic l.look) l.initial.frame)
