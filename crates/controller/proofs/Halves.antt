-- Bounds on places within the memories.
use Prim.Native.Nat.{◌≤◌}
use mathlib.Core.Bool.{Bool, true, false}
use native.Mathlib.Omega.{arith}
use Rattle.controller.specs.Memories.{half}

pub half_le : (low : Bool) → half low ≤ 1
half_le true = omega arith
half_le false = omega arith
