-- Which row a byte stands in: each row's bytes lie from its first up to, and below, the next row's first.
use Prim.Native.Nat.{ℕ, ◌≤◌, ◌<◌}
use mathlib.Core.Path.{◌≡◌}
use native.Mathlib.Omega.{arith}
use borrow.Author.Tests.{lt-ltb, le-ltb}
use Rattle.table.specs.declared.Instruction.{Instruction}
use Rattle.table.specs.declared.Modes.{Modes}
use Rattle.table.specs.Table.{Row, 00h, 01h, 02h_03h, 04h_07h, 08h_0Fh, 10h_1Fh, 20h_3Fh, 40h_7Fh, 80h_FFh, row_of, Columns, table}

abbrev pub first : Row → ℕ
first 00h = 0x00
first 01h = 0x01
first 02h_03h = 0x02
first 04h_07h = 0x04
first 08h_0Fh = 0x08
first 10h_1Fh = 0x10
first 20h_3Fh = 0x20
first 40h_7Fh = 0x40
first 80h_FFh = 0x80

abbrev pub past : Row → ℕ
past 00h = 0x01
past 01h = 0x02
past 02h_03h = 0x04
past 04h_07h = 0x08
past 08h_0Fh = 0x10
past 10h_1Fh = 0x20
past 20h_3Fh = 0x40
past 40h_7Fh = 0x80
past 80h_FFh = 0x100

pub row_is : (r : Row) (b : ℕ) → first r ≤ b → b < past r → row_of b ≡ r
unfolding row_of
row_is 00h b f p = simp (lt-ltb b 1 p)
row_is 01h b f p = simp (le-ltb b 1 f, lt-ltb b 2 p)
row_is 02h_03h b f p = simp (le-ltb b 1 (omega arith), le-ltb b 2 f, lt-ltb b 4 p)
row_is 04h_07h b f p = simp (le-ltb b 1 (omega arith), le-ltb b 2 (omega arith), le-ltb b 4 f, lt-ltb b 8 p)
row_is 08h_0Fh b f p =
    simp (le-ltb b 1 (omega arith), le-ltb b 2 (omega arith), le-ltb b 4 (omega arith), le-ltb b 8 f, lt-ltb b 16 p)
row_is 10h_1Fh b f p =
    simp (
      le-ltb b 1 (omega arith),
      le-ltb b 2 (omega arith),
      le-ltb b 4 (omega arith),
      le-ltb b 8 (omega arith),
      le-ltb b 16 f,
      lt-ltb b 32 p,
    )
row_is 20h_3Fh b f p =
    simp (
      le-ltb b 1 (omega arith),
      le-ltb b 2 (omega arith),
      le-ltb b 4 (omega arith),
      le-ltb b 8 (omega arith),
      le-ltb b 16 (omega arith),
      le-ltb b 32 f,
      lt-ltb b 64 p,
    )
row_is 40h_7Fh b f p =
    simp (
      le-ltb b 1 (omega arith),
      le-ltb b 2 (omega arith),
      le-ltb b 4 (omega arith),
      le-ltb b 8 (omega arith),
      le-ltb b 16 (omega arith),
      le-ltb b 32 (omega arith),
      le-ltb b 64 f,
      lt-ltb b 128 p,
    )
row_is 80h_FFh b f p =
    simp (
      le-ltb b 1 (omega arith),
      le-ltb b 2 (omega arith),
      le-ltb b 4 (omega arith),
      le-ltb b 8 (omega arith),
      le-ltb b 16 (omega arith),
      le-ltb b 32 (omega arith),
      le-ltb b 64 (omega arith),
      le-ltb b 128 f,
    )

-- a byte of the row r has that row's entry, in either column
pub by_row :
    (column : Columns → Instruction) (m : Modes) (r : Row) {b : ℕ}
    → first r ≤ b → b < past r → column (table m r b) ≡ column (table m (row_of b) b)
by_row column m r {b} f p = rw (row_is r b f p)
