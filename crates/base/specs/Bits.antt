-- The bits of a byte, numbered as the data sheet numbers them: bit 7 is the highest, bit 0 the lowest.
use Rattle.std.specs.Prelude.{ℕ, ◌*◌, ◌/◌, ◌%◌, ◌^◌, Bool, eqb}

-- whether bit n of b is set
abbrev pub bit : ℕ → ℕ → Bool
bit n b = eqb (b / 2 ^ n % 2) 1

-- the number that bits 7..4 make
abbrev pub bits7_4 : ℕ → ℕ
bits7_4 b = b / 16

-- the number that the lowest bits of b make
abbrev pub bits5_0 : ℕ → ℕ
bits5_0 b = b % 64

abbrev pub bits3_0 : ℕ → ℕ
bits3_0 b = b % 16

abbrev pub bits1_0 : ℕ → ℕ
bits1_0 b = b % 4

-- a half byte on the wires: its four bits in 7..4, zeros below
abbrev pub raised : ℕ → ℕ
raised half = bits3_0 half * 16
