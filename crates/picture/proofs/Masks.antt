-- Filling by a mask of all ones or none.
use Prim.Native.Nat.{ℕ, ◌+◌, ◌%◌, ◌<◌}
use mathlib.Core.Path.{◌≡◌}
use mathlib.Core.Bool.{Bool, true, false}
use native.Mathlib.Omega.{arith}
use lib.Bits.{bit_and, bit_or, and_mask, or_add_and, or_zero_r}
use Rattle.base.specs.Choice.{when◌then◌else◌}
use Rattle.picture.specs.Picture.{filled}

or_ones : (x : ℕ) → x < 256 → bit_or x 0xFF ≡ 0xFF
or_ones x h =
    let m : bit_and x 0xFF ≡ x % 256 = and_mask x 8 in
    let s : bit_or x 0xFF + bit_and x 0xFF ≡ x + 0xFF = or_add_and x 0xFF in
    omega arith

pub mask_fills : (on : Bool) (x : ℕ) → x < 256 → bit_or x (when on then 0xFF else 0x00) ≡ filled on x
mask_fills true x h = or_ones x h
mask_fills false x h = or_zero_r x
