-- The rows before it, one row further, and all.
use Rattle.std.proofs.Common.{◌≡◌, arith}
use Rattle.base.specs.Painting.{everywhere}
use Rattle.base.proofs.Loops.{paint_begin}
use Rattle.tiles.proofs.Laid.{out_turn}
use Rattle.drawing.proofs.whole.hand_out.Goals as goal

pub loop-r-init : goal.loop-r-init
loop-r-init c = paint_begin everywhere _ _ _

pub loop-r-preserved : goal.loop-r-preserved
loop-r-preserved c =
    let l = c.loop-r in let a = c.args in out_turn a.tiles.now a.scroll a.row l.r a.frame.now _ _ (omega arith) l.invariant c.hand_row.ensures

pub returns : goal.returns
returns c = let l = c.loop-r in let k : l.r ≡ c.args.end = omega arith in rw k at l.invariant
