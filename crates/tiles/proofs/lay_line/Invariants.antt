-- Cell by cell.
use Rattle.std.proofs.Common.{◌≡◌, ◌*◌}
use Rattle.base.specs.Painting.{painted, everywhere, between}
use Rattle.picture.specs.Tiles.{marked_line}
use Rattle.tiles.proofs.lay_line.Given as goal

abbrev pub invariant-loop-cell : goal.invariant-loop-cell
invariant-loop-cell l = l.tiles ≡ painted (between 0 (32 * l.cell) everywhere) (marked_line l.scene l.line) l.initial.tiles
