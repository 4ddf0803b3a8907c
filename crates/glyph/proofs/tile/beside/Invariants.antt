-- Row by row.
use Rattle.std.proofs.Common.{◌≡◌, ◌*◌}
use Rattle.base.specs.Painting.{painted, everywhere, between}
use Rattle.glyph.specs.Tiles.{beside}
use Rattle.glyph.proofs.tile.beside.Given as goal

abbrev pub invariant-loop-y : goal.invariant-loop-y
invariant-loop-y l = l.tile ≡ painted (between 0 (2 * l.y) everywhere) (beside l.left l.right) l.initial.tile
