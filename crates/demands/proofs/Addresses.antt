-- What the table says of the instructions that set an address.
use Prim.Native.Nat.{ℕ, ◌≤◌, ◌<◌}
use mathlib.Core.Bool.{Bool, true, false}
use mathlib.Core.Path.{◌≡◌, ap}
use Rattle.base.specs.Bits.{bits5_0}
use Rattle.table.specs.declared.Target.{Target}
use Rattle.table.specs.declared.Instruction.TheVariants.{GlyphAddress, TextAddress, GraphicAddress}
use Rattle.table.specs.Table.{Row, 40h_7Fh, 80h_FFh, table, said}
use Rattle.table.proofs.Rows.{row_is}

pub says-text : (sr : Bool) (t : Target) (b : ℕ) → 0x80 ≤ b → b < 256 → said (record { re = false; sr = sr; target = t }) b ≡ TextAddress (bits5_0 b)
unfolding said
says-text sr t b low high = ap (λ (r : Row). (table (record { re = false; sr = sr; target = t }) r b).basic) (row_is 80h_FFh b low high)

pub says-glyph : (t : Target) (b : ℕ) → 0x40 ≤ b → b < 0x80 → said (record { re = false; sr = false; target = t }) b ≡ GlyphAddress (bits5_0 b)
unfolding said
says-glyph t b low high = ap (λ (r : Row). (table (record { re = false; sr = false; target = t }) r b).basic) (row_is 40h_7Fh b low high)

pub says-graphic : (sr : Bool) (t : Target) (b : ℕ) → 0x80 ≤ b → b < 256 → said (record { re = true; sr = sr; target = t }) b ≡ GraphicAddress (bits5_0 b)
unfolding said
says-graphic sr t b low high = ap (λ (r : Row). (table (record { re = true; sr = sr; target = t }) r b).extended) (row_is 80h_FFh b low high)
