-- A flag that code makes a byte is the flag as a byte.
use mathlib.Core.Bool.{Bool, true, false}
use mathlib.Core.Path.{◌≡◌, refl}
use mir.Val.{bool_byte}
use Rattle.state_bytes.specs.Packed.{flag_byte}

pub flag_made : (on : Bool) → bool_byte on ≡ flag_byte on
flag_made true = refl
flag_made false = refl
