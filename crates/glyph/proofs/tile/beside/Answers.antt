-- The rows before it, one row further, and all sixteen.
use Rattle.std.proofs.Common.{◌≡◌, refl, arith}
use Rattle.base.specs.Painting.{everywhere}
use Rattle.base.proofs.Loops.{paint_begin, paint_every}
use Rattle.glyph.proofs.Tiles.{row-further}
use Rattle.glyph.proofs.tile.beside.Goals as goal

pub loop-y-init : goal.loop-y-init
loop-y-init c = paint_begin everywhere _ _ 0

pub loop-y-preserved : goal.loop-y-preserved
loop-y-preserved c = row-further _ _ _ _ _ (omega arith) c.loop-y.invariant

pub returns : goal.returns
returns c = let l = c.loop-y in let k : l.y ≡ 16 = omega arith in paint_every _ _ _ 32 refl (rw k at l.invariant)
