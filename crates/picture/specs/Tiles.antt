-- No sentence of document 01, but what the contracts of the code promise: the bytes of a cell's sixteen rows at once, its tile, and a line's
-- sixteen tiles one after the other. proofs/Laid.antt shows that they are the bytes of the picture before the graphic.
use Rattle.std.specs.Prelude.{ℕ, ◌+◌, ◌*◌, ◌-◌, ◌/◌, ◌%◌, Bool, true, false, ◌&&◌, List, length, get_or, set, eqb, ltb, None, Option, Some}
use Rattle.base.specs.Choice.{when◌then◌else◌}
use Rattle.base.specs.Painting.{painted}
use Rattle.base.specs.Layout.{rows}
use Rattle.events.specs.declared.Numbering.{Numbering}
use Rattle.controller.specs.Glass.{shown_row}
use Rattle.glyph.specs.Tiles.{tile_dots}
use Rattle.picture.specs.declared.Look.{Look}
use Rattle.picture.specs.declared.Scene.{Scene}
use Rattle.picture.specs.declared.TwoBytes.{TwoBytes}
use Rattle.picture.specs.Picture.{Fonts, fonts_in, word_content, graphic_byte, at_counter, filled, inverted, overlaid}

-- the counter's word, or 64, which no cell shows
abbrev pub counter_word : Option ℕ → ℕ
counter_word None = 64
counter_word (Some counter) = counter

-- byte j of the dots of a text word
abbrev pub word_dots : Fonts → List ℕ → List ℕ → Numbering → ℕ → ℕ → ℕ
word_dots e text glyph n word j = tile_dots e.half e.full glyph (word_content n (length e.full) text word) j

-- the word of a line that a cell shows
abbrev pub line_word : ℕ → ℕ → ℕ → ℕ
line_word shift line cell = 16 * line + (cell + shift) % 16

-- byte j of a text word's dots with cursor and blink over them
unfoldable pub marked_byte : Fonts → List ℕ → List ℕ → Look → ℕ → ℕ → ℕ
marked_byte e text glyph look word j =
    inverted (at_counter look.counter word && look.blink)
    (filled (at_counter look.counter word && (look.cursor && eqb (j / 2) 15)) (word_dots e text glyph look.view.numbering word j))

-- byte j of a text word's tile: its dots, cursor, blink and line reverse
unfoldable pub tile_byte : Fonts → List ℕ → List ℕ → Look → ℕ → ℕ → ℕ
tile_byte e text glyph look word j =
    inverted (get_or look.view.reversed (word / 16) false)
    (inverted (at_counter look.counter word && look.blink)
    (filled (at_counter look.counter word && (look.cursor && eqb (j / 2) 15)) (word_dots e text glyph look.view.numbering word j)))

-- a tile with its last row set, and a tile or a line's tiles inverted; each if at all
abbrev pub underlined : Bool → List ℕ → List ℕ
underlined on = painted (λ j. on && eqb (j / 2) 15) (λ j. 0xFF)

abbrev pub turned : Bool → List ℕ → List ℕ
turned on tiles = painted (λ j. on) (λ j. 0xFF - get_or tiles j 0) tiles

-- byte i of tiles that lie one after the other
abbrev pub by_tile : (ℕ → ℕ → ℕ) → ℕ → ℕ
by_tile byte i = byte (i / 32) (i % 32)

-- byte j of a word's tile, and byte i of a line's, of what the painters look at
abbrev pub tile_at : Scene → ℕ → ℕ → ℕ
tile_at s word = tile_byte (fonts_in s) s.text.now s.glyphs.memory.now s.look word

abbrev pub line_at : Scene → ℕ → ℕ → ℕ
line_at s line = by_tile (λ cell j. tile_at s (line_word s.look.view.shift line cell) j)

-- the same before line reverse
abbrev pub marked_at : Scene → ℕ → ℕ → ℕ
marked_at s word = marked_byte (fonts_in s) s.text.now s.glyphs.memory.now s.look word

abbrev pub marked_line : Scene → ℕ → ℕ → ℕ
marked_line s line = by_tile (λ cell j. marked_at s (line_word s.look.view.shift line cell) j)

-- the byte that place i of a wide frame takes from row y of a line's tiles
abbrev pub from_tiles : List ℕ → ℕ → ℕ → ℕ
from_tiles tiles y i = get_or tiles (32 * (i % 32 / 2) + 2 * y + i % 2) 0

-- the row after those that show the same line as row `row`, which shows memory row s
unfoldable pub band_end : ℕ → ℕ → ℕ
band_end row s = when ltb (row + 16 - s % 16) 32 then row + 16 - s % 16 else 32

-- every byte of the rows from `first` up to `end`
abbrev pub in_rows : ℕ → ℕ → ℕ → ℕ → Bool
in_rows first end = rows first end (λ r c. true)

-- byte `column` of row `row` of the glass, by the tile of its cell
unfoldable pub shown_by : List ℕ → List ℕ → Look → ℕ → ℕ → ℕ
shown_by tile graphic look row column =
    when look.dark then 0x00
    else overlaid look.graphic (graphic_byte graphic look.view row column) (get_or tile (2 * (shown_row look.view row % 16) + column % 2) 0)

-- one row of a cell: its two bytes, by the tile; two bytes stored at a place of a frame and at the next; and which bytes of the glass they are
abbrev pub pair_by : List ℕ → List ℕ → Look → ℕ → ℕ → TwoBytes
pair_by tile graphic look row cell = record { left = shown_by tile graphic look row (2 * cell); right = shown_by tile graphic look row (2 * cell + 1) }

abbrev pub pair_stored : List ℕ → ℕ → TwoBytes → List ℕ
pair_stored frame place pair = set (set frame place pair.left) (place + 1) pair.right

abbrev pub in_cell_row : ℕ → ℕ → ℕ → ℕ → Bool
in_cell_row row cell r column = eqb r row && eqb (column / 2) cell
