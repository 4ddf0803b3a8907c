-- What the ranges say of the counter, whatever the target; and of the row and the counter of the graphic memory.
use Prim.Native.Nat.{ℕ, ◌<◌}
use native.Mathlib.Omega.{arith}
use Rattle.table.specs.declared.Target.{Target}
use Rattle.table.specs.declared.Target.TheVariants.{Text, Glyph, Graphic}
use Rattle.controller.specs.declared.Control.{Control}
use Rattle.controller.specs.State.{limit, InRange}

pub limit_64 : (t : Target) {k : ℕ} → k < limit t → k < 64
limit_64 Text h = h
limit_64 Glyph h = h
limit_64 Graphic h = omega arith

pub counter_64 : (c : Control) → InRange c → c.place.counter < 64
counter_64 c r = limit_64 c.place.target r.counter
