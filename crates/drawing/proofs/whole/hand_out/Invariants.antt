-- Row by row.
use Rattle.std.proofs.Common.{◌≡◌, ◌+◌, ◌*◌, ◌/◌, ◌%◌}
use Rattle.base.specs.Painting.{painted, everywhere, between}
use Rattle.picture.specs.Tiles.{from_tiles}
use Rattle.drawing.proofs.whole.hand_out.Given as goal

abbrev pub invariant-loop-r : goal.invariant-loop-r
invariant-loop-r l = l.frame ≡ painted (between (32 * l.row) (32 * l.r) everywhere) (λ i. from_tiles l.tiles ((i / 32 + l.scroll) % 16) i) l.initial.frame
