-- Band by band.
use Rattle.std.proofs.Common.{◌≡◌, ◌-◌, ◌≤◌}
use Rattle.base.specs.Layout.{painted_on}
use Rattle.picture.specs.Picture.{wide, shown_at}
use Rattle.picture.specs.Tiles.{in_rows}
use Rattle.drawing.proofs.whole.paint_whole.Given as goal

abbrev pub invariant-loop-row : goal.invariant-loop-row
invariant-loop-row l = (l.row ≤ 32) × (l.frame ≡ painted_on wide (in_rows 0 l.row) (shown_at l.scene) l.initial.frame)

abbrev pub decreases-loop-row : goal.decreases-loop-row
decreases-loop-row l = 32 - l.row
