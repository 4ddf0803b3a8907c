-- Document 01, "Links": the sender, and refusal 4.
use Rattle.std.specs.Prelude.{ℕ, Bool, true, false, List, [], ◌∷◌, ◌++◌, ltb, length, drop}
use Rattle.base.specs.Choice.{when◌then◌else◌}
use Rattle.base.specs.Bits.{bit, bits7_4, bits3_0, raised}

-- F8h (instruction) or FAh (data)
abbrev pub header_byte : Bool → ℕ
header_byte false = 0xF8
header_byte true = 0xFA

-- three bytes per write: the header, then upper and lower half bytes in bits 7..4
abbrev pub three_bytes : Bool → ℕ → List ℕ
three_bytes register byte = header_byte register ∷ raised (bits7_4 byte) ∷ raised (bits3_0 byte) ∷ []

-- on the wire the bits of a byte come highest first
abbrev pub highest_first : ℕ → List Bool
highest_first b = bit 7 b ∷ bit 6 b ∷ bit 5 b ∷ bit 4 b ∷ bit 3 b ∷ bit 2 b ∷ bit 1 b ∷ bit 0 b ∷ []

-- what a call of `send` leaves: its number, and the buffer
pub record Sent : Type 0 where
  pub number : ℕ
  pub buffer : List ℕ

abbrev pub leaving : ℕ → List ℕ → Sent
leaving number buffer = record { number = number; buffer = buffer }

-- a buffer under 3 bytes is refused with 4, and stays; else the first three bytes are written, and no others
unfoldable pub sent : Bool → ℕ → List ℕ → Sent
sent register byte buffer =
    when ltb (length buffer) 3 then leaving 4 buffer
    else leaving 0 (three_bytes register byte ++ drop 3 buffer)
