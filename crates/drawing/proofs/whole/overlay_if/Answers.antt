-- If at all: the bytes before it, one byte further, and all.
use Rattle.std.proofs.Common.{◌≡◌, arith}
use Rattle.base.proofs.Copies.{none_yet}
use Rattle.base.proofs.Painting.{painted-kept}
use Rattle.tiles.proofs.Laid.{over-turn}
use Rattle.drawing.proofs.whole.overlay_if.Goals as goal

pub loop-i-init : goal.loop-i-init
loop-i-init c = none_yet _ _ _

pub loop-i-preserved : goal.loop-i-preserved
loop-i-preserved c =
    let l = c.loop-i in let a = c.args in over-turn a.graphic.now a.frame.now _ a.from a.to l.i (omega arith) l.invariant

pub returns-after-loop-i : goal.returns-after-loop-i
returns-after-loop-i c = let l = c.loop-i in let k : l.i ≡ c.args.count = omega arith in rw c.if-on.true (rw k at l.invariant)

pub returns-else-on : goal.returns-else-on
returns-else-on c = rw c.if-on.false (painted-kept _ _)
