-- Document 01, "The picture", and request K6: the dots of what is shown, one byte of a glyph row at a time. This layer knows memories and
-- fonts.
use Rattle.std.specs.Prelude.{ℕ, ◌+◌, ◌*◌, Bool, ◌&&◌, ◌||◌, List, get_or, eqb, leb}
use Rattle.base.specs.Choice.{when◌then◌else◌}
use Rattle.controller.specs.Memories.{half, word_place, image_row}
use Rattle.glyph.specs.declared.Content.{Content}
use Rattle.glyph.specs.declared.Content.TheVariants.{Image, Full, Halves, Missing, Blank}

-- row y of image i is glyph word 16i + y
abbrev pub image_byte : List ℕ → ℕ → ℕ → Bool → ℕ
image_byte glyph i y low = get_or glyph (word_place (image_row i y) low) 0

-- full font: at 32i + 2y and the next byte
abbrev pub full_byte : List ℕ → ℕ → ℕ → Bool → ℕ
full_byte font i y low = get_or font (32 * i + 2 * y + half low) 0

-- 02h..7Fh is a half glyph, the rest blank; half font: row y of code c at 16c + y
abbrev pub has_half : ℕ → Bool
has_half c = leb 0x02 c && leb c 0x7F

unfoldable pub half_byte : List ℕ → ℕ → ℕ → ℕ
half_byte font c y = when has_half c then get_or font (16 * c + y) 0 else 0

-- a column of the box, with this byte for the edge at its side
abbrev pub box_column : ℕ → ℕ → ℕ
box_column edge y = when eqb y 0 || eqb y 15 then 0xFF else edge

-- the box, for a glyph that is missing: both bytes FFh on glyph rows 0 and 15, 80h and 01h on the others
unfoldable pub box_byte : ℕ → Bool → ℕ
box_byte y low = box_column (when low then 0x01 else 0x80) y

-- the left byte of glyph row y of what is shown (low = false), or the right one
unfoldable pub dots_of : List ℕ → List ℕ → List ℕ → Content → ℕ → Bool → ℕ
dots_of halves fulls glyph (Image i) y low = image_byte glyph i y low
dots_of halves fulls glyph (Full i) y low = full_byte fulls i y low
dots_of halves fulls glyph (Halves h l) y low = half_byte halves (when low then l else h) y
dots_of halves fulls glyph Missing y low = box_byte y low
dots_of halves fulls glyph Blank y low = 0
