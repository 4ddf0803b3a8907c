-- Cell by cell.
use Rattle.std.proofs.Common.{◌≡◌, ◌+◌, ◌*◌}
use Rattle.base.specs.Painting.{painted, everywhere, between}
use Rattle.picture.specs.Tiles.{from_tiles}
use Rattle.drawing.proofs.whole.hand_row.Given as goal

abbrev pub invariant-loop-cell : goal.invariant-loop-cell
invariant-loop-cell l = l.frame ≡ painted (between (32 * l.row) (32 * l.row + 2 * l.cell) everywhere) (from_tiles l.tiles l.y) l.initial.frame
