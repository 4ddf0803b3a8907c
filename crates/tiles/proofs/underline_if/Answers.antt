-- Two neighbours, if at all.
use Rattle.std.proofs.Common.{refl, sym, arith}
use Rattle.base.proofs.Painting.{painted-none}
use Rattle.tiles.proofs.Laid.{last_set}
use Rattle.tiles.proofs.underline_if.Goals as goal

pub returns-then-on : goal.returns-then-on
returns-then-on c = rw c.if-on.true (last_set _ (omega arith))

pub returns-else-on : goal.returns-else-on
returns-else-on c = rw c.if-on.false (sym (painted-none _ _ _ (λ i l. refl)))
