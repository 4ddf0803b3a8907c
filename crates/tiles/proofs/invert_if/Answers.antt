-- The bytes before it, one byte further, and all.
use Rattle.std.proofs.Common.{ℕ, ◌≡◌, ◌<◌, ◌-◌, length, refl, sym, ap, arith}
use Rattle.base.specs.Painting.{everywhere}
use Rattle.base.proofs.Painting.{painted-none}
use Rattle.base.proofs.Loops.{paint_begin, paint_end}
use Rattle.base.proofs.Copies.{one_further, not_yet}
use Rattle.tiles.proofs.invert_if.Goals as goal

pub loop-byte-init : goal.loop-byte-init
loop-byte-init g c = paint_begin everywhere _ _ 0

pub loop-byte-preserved : goal.loop-byte-preserved
loop-byte-preserved g c =
    let l = c.loop-byte in let t = c.told-tiles in let n : l.byte-index < length c.args.tiles.now = omega arith in
    one_further _ _ _ 0 _ _ (omega arith) l.invariant _ n refl (ap (λ (x : ℕ). 0xFF - x) (not_yet _ _ _ _ _ n l.invariant))

pub returns-after-loop-byte : goal.returns-after-loop-byte
returns-after-loop-byte g c =
    let l = c.loop-byte in let k : l.byte-index ≡ g.row.N = omega arith in let t = c.told-tiles in
    rw c.if-on.true (paint_end everywhere _ _ _ g.row.N (omega arith) (rw k at l.invariant))

pub returns-else-on : goal.returns-else-on
returns-else-on g c = rw c.if-on.false (sym (painted-none _ _ _ (λ i l. refl)))
