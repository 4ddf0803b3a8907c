-- Document 01, "The picture": which memory row, text word and image each part of the glass shows.
-- The glass has 32 rows of 32 bytes, counted from the top left; cell k is bytes 2k and 2k + 1 of a row.
use Rattle.std.specs.Prelude.{ℕ, ◌+◌, ◌*◌, ◌/◌, ◌%◌, Bool, true, false, ◌&&◌, List, get_or, eqb, leb, None, Option, Some}
use Rattle.base.specs.Choice.{when◌then◌else◌}
use Rattle.controller.specs.declared.View.{View}
use Rattle.controller.specs.Memories.{word_place}

-- byte `column` of row `row` of the glass, as a place in the frame
abbrev pub place_of : ℕ → ℕ → ℕ
place_of row column = 32 * row + column

-- at row r, s = (r + scroll) mod 64
unfoldable pub shown_row : View → ℕ → ℕ
shown_row v r = (r + v.scroll) % 64

-- cell k of row r shows text word 16·(s/16) + (k + shift) mod 16
unfoldable pub shown_word : View → ℕ → ℕ → ℕ
shown_word v r k = 16 * (shown_row v r / 16) + (k + v.shift) % 16

-- word 0000h..000Fh: image (low byte / 2) mod 4
unfoldable pub image_of : ℕ → ℕ → Option ℕ
image_of high low = when eqb high 0x00 && leb low 0x0F then Some (low / 2 % 4) else None

-- the image of a text word, or none
unfoldable pub word_image : List ℕ → ℕ → Option ℕ
word_image text word = image_of (get_or text (word_place word false) 0) (get_or text (word_place word true) 0)

-- whether it is image i
abbrev pub is_image : Option ℕ → ℕ → Bool
is_image None i = false
is_image (Some n) i = eqb n i
