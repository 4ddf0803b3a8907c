-- The two bytes, put back into the frame.
use Rattle.std.proofs.Common.{◌+◌, ◌*◌, ◌≤◌, ◌∙◌, length, arith}
use Rattle.base.proofs.Parts.{put_pair}
use Rattle.picture.specs.Tiles.{shown_by}
use Rattle.picture.proofs.Wide.{cell-row-painted}
use Rattle.repaint.proofs.cells.paint_cell_row.Goals as goal

pub returns : goal.returns
returns c =
    let a = c.args in let p = c.requires in let b = shown_by a.tile.now a.graphic.now a.look in
    let h : 32 * a.row + 2 * a.cell + 2 ≤ length a.frame.now = omega arith in
    rw (c.paint_row.ensures, c.tile_pair-pair.ensures, c.row_place-start.ensures)
    (put_pair (32 * a.row + 2 * a.cell) a.frame.now (b a.row (2 * a.cell)) (b a.row (2 * a.cell + 1)) h ∙ cell-row-painted b a.row a.cell a.frame.now p.0 p.1 c.told-frame)
