-- The cells before it, one cell further, and all sixteen.
use Rattle.std.proofs.Common.{◌≡◌, ◌<◌, arith}
use Rattle.base.proofs.Copies.{none_yet, two_further}
use Rattle.picture.specs.Tiles.{from_tiles}
use Rattle.tiles.proofs.Laid.{taken-left, taken-right}
use Rattle.drawing.proofs.whole.hand_row.Goals as goal

pub loop-cell-init : goal.loop-cell-init
loop-cell-init c = none_yet _ _ _

pub loop-cell-preserved : goal.loop-cell-preserved
loop-cell-preserved c =
    let l = c.loop-cell in let a = c.args in let z : l.cell < 16 = omega arith in
    rw c.row_place-to.ensures
    (two_further (from_tiles a.tiles.now a.y) _ _ _ _ _ (omega arith) l.invariant _ _ (omega arith) (omega arith)
    (taken-left a.tiles.now a.y a.row l.cell z) (taken-right a.tiles.now a.y a.row l.cell z))

pub returns : goal.returns
returns c = let l = c.loop-cell in let k : l.cell ≡ 16 = omega arith in rw k at l.invariant
