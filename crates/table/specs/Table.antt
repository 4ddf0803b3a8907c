-- Document 01, "Instructions": the table. Each byte is decided by its highest set bit and by RE.
use Rattle.std.specs.Prelude.{ℕ, Bool, ltb}
use Rattle.base.specs.Choice.{when◌then◌else◌}
use Rattle.base.specs.Bits.{bit, bits5_0}
use Rattle.table.specs.declared.Target.{Target}
use Rattle.table.specs.declared.Target.TheVariants.{Text, Glyph, Graphic}
use Rattle.table.specs.declared.Modes.{Modes}
use Rattle.table.specs.declared.Instruction.{Instruction}
use Rattle.table.specs.declared.Instruction.TheVariants.{Ignored, Clear, Home, EntryMode, Display, MoveCursor, MoveDisplay, FunctionSet, GlyphAddress, TextAddress, Standby, SetSr, ToggleReverse, Scroll, GraphicAddress}

-- the rows, by their bytes
pub data Row : Type 0 where
  00h : Row
  01h : Row
  02h_03h : Row
  04h_07h : Row
  08h_0Fh : Row
  10h_1Fh : Row
  20h_3Fh : Row
  40h_7Fh : Row
  80h_FFh : Row

-- the row of a byte, by its highest set bit
unfoldable pub row_of : ℕ → Row
row_of b =
    when ltb b 0x01 then 00h
    else when ltb b 0x02 then 01h
    else when ltb b 0x04 then 02h_03h
    else when ltb b 0x08 then 04h_07h
    else when ltb b 0x10 then 08h_0Fh
    else when ltb b 0x20 then 10h_1Fh
    else when ltb b 0x40 then 20h_3Fh
    else when ltb b 0x80 then 40h_7Fh
    else 80h_FFh

-- the two columns of a row: RE = 0 ∣ RE = 1
pub record Columns : Type 0 where
  pub basic : Instruction
  pub extended : Instruction

infix 5 ◌∣◌
abbrev pub ◌∣◌ : Instruction → Instruction → Columns
◌∣◌ a b = record { basic = a; extended = b }

-- an entry with a condition: ignored where it does not hold
abbrev pub if_text : Target → Instruction → Instruction
if_text Text i = i
if_text Glyph i = Ignored
if_text Graphic i = Ignored

abbrev pub if_sr0 : Bool → Instruction → Instruction
if_sr0 sr i = when sr then Ignored else i

abbrev pub if_sr1 : Bool → Instruction → Instruction
if_sr1 sr i = when sr then i else Ignored

-- 10h..1Fh: bit 3 = 0 moves the cursor, 1 the display; bit 2 = 0 to the left, 1 to the right
abbrev pub moving : Target → ℕ → Instruction
moving target b = when bit 3 b then MoveDisplay (bit 2 b) else if_text target (MoveCursor (bit 2 b))

-- 20h..3Fh: bit 4 DL, bit 2 RE, bit 1 G
abbrev pub function_set : ℕ → Instruction
function_set b = FunctionSet (bit 4 b) (bit 2 b) (bit 1 b)

-- the table, a clause for each row
abbrev pub table : Modes → Row → ℕ → Columns
table m 00h b = Ignored ∣ Ignored
table m 01h b = Clear ∣ Standby
table m 02h_03h b = Home ∣ SetSr (bit 0 b)
table m 04h_07h b = EntryMode (bit 1 b) (bit 0 b) ∣ ToggleReverse b
table m 08h_0Fh b = Display (bit 2 b) (bit 1 b) (bit 0 b) ∣ Ignored
table m 10h_1Fh b = moving m.target b ∣ Ignored
table m 20h_3Fh b = function_set b ∣ function_set b
table m 40h_7Fh b = if_sr0 m.sr (GlyphAddress (bits5_0 b)) ∣ if_sr1 m.sr (Scroll (bits5_0 b))
table m 80h_FFh b = TextAddress (bits5_0 b) ∣ GraphicAddress (bits5_0 b)

-- what a byte says with RE = 0
abbrev pub basic_column : Modes → ℕ → Instruction
basic_column m b = (table m (row_of b) b).basic

-- and with RE = 1
abbrev pub extended_column : Modes → ℕ → Instruction
extended_column m b = (table m (row_of b) b).extended

-- what a byte says in the instruction set that RE chooses
unfoldable pub said : Modes → ℕ → Instruction
said m b = when m.re then extended_column m b else basic_column m b
