-- The glass as a picture file: PBM, its kind P4. Behind a header in text that gives width and height come the rows, eight dots to a byte,
-- bit 7 leftmost and 1 for black; so they are the bytes of the frame.
use Rattle.std.specs.Prelude.{ℕ, ◌-◌, List, [], ◌∷◌, ltb, get_or}
use Rattle.base.specs.Choice.{when◌then◌else◌}
use Rattle.base.specs.Lists.{upto}

-- P4, then 256 32, each with a line feed
abbrev pub header : List ℕ
header = 0x50 ∷ 0x34 ∷ 0x0A ∷ 0x32 ∷ 0x35 ∷ 0x36 ∷ 0x20 ∷ 0x33 ∷ 0x32 ∷ 0x0A ∷ []

unfoldable pub pbm_at : List ℕ → ℕ → ℕ
pbm_at frame i = when ltb i 10 then get_or header i 0 else get_or frame (i - 10) 0

unfoldable pub pbm : List ℕ → List ℕ
pbm frame = upto 1034 (pbm_at frame)
