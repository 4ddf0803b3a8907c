-- Document 01, "The picture": 32 rows of 32 bytes, bit 7 leftmost. Each byte is given by its row and column, in the document's order:
-- glyph, cursor, blink, line reverse, graphic, display.
use Rattle.std.specs.Prelude.{ℕ, ◌-◌, ◌/◌, ◌%◌, Bool, true, false, not, ◌&&◌, ◌||◌, List, length, get_or, eqb, None, Option, Some}
use Rattle.std.specs.Int.Bits.{bit_xor}
use Rattle.base.specs.Choice.{when◌then◌else◌}
use Rattle.base.specs.Layout.{Layout, whole_on}
use Rattle.events.specs.declared.Numbering.{Numbering}
use Rattle.controller.specs.declared.View.{View}
use Rattle.controller.specs.declared.Control.{Control}
use Rattle.controller.specs.Memories.{Memories, memories, word_place, graphic_place}
use Rattle.controller.specs.Named.{counter_cell}
use Rattle.controller.specs.Glass.{shown_row, shown_word}
use Rattle.glyph.specs.declared.Content.{Content}
use Rattle.glyph.specs.Lookup.{content_of}
use Rattle.glyph.specs.Dots.{dots_of}
use Rattle.picture.specs.declared.Look.{Look}
use Rattle.picture.specs.declared.Scene.{Scene}

-- the lent fonts
pub record Fonts : Type 0 where
  pub half : List ℕ
  pub full : List ℕ

-- the same, of their bytes
abbrev pub fonts : List ℕ → List ℕ → Fonts
fonts half full = record { half = half; full = full }

-- what a call is seen with: the lent fonts and the blink phase
pub record Seen : Type 0 where
  pub fonts : Fonts
  pub phase : Bool

abbrev pub seen : List ℕ → List ℕ → Bool → Seen
seen half full phase = record { fonts = fonts half full; phase = phase }

-- what the picture looks at beside the memories: the view; the counter's cell, if target is text, with its marks, the cursor and blink with
-- phase 1; the graphic if G; dark if display 0 or standby
abbrev pub look_of : Bool → Control → Look
look_of phase c =
    record {
      view = c.view;
      counter = counter_cell c.place;
      cursor = c.shown.cursor;
      blink = c.shown.blink && phase;
      graphic = c.function.g;
      dark = not c.shown.display || c.standby;
    }

-- a column is the left byte of its cell or the right one
abbrev pub right : ℕ → Bool
right column = eqb (column % 2) 1

-- what a text word shows, by a numbering and with a full font of `size` bytes
unfoldable pub word_content : Numbering → ℕ → List ℕ → ℕ → Content
word_content n size text word = content_of n (get_or text (word_place word false) 0) (get_or text (word_place word true) 0) size

-- cell k shows its text word, by the view's numbering, glyph row s mod 16
unfoldable pub cell_byte : Fonts → Memories → View → ℕ → ℕ → ℕ
cell_byte e m v row column =
    dots_of e.half e.full m.glyph (word_content v.numbering (length e.full) m.text (shown_word v row (column / 2)))
    (shown_row v row % 16) (right column)

-- graphic row s, unshifted
unfoldable pub graphic_byte : List ℕ → View → ℕ → ℕ → ℕ
graphic_byte graphic v row column = get_or graphic (graphic_place (shown_row v row) (column / 2) (right column)) 0

-- at the counter's word, if target is text
abbrev pub at_counter : Option ℕ → ℕ → Bool
at_counter None word = false
at_counter (Some counter) word = eqb word counter

-- sets
abbrev pub filled : Bool → ℕ → ℕ
filled on byte = when on then 0xFF else byte

-- inverts
abbrev pub inverted : Bool → ℕ → ℕ
inverted on byte = when on then 0xFF - byte else byte

-- exclusive or
abbrev pub overlaid : Bool → ℕ → ℕ → ℕ
overlaid on dots byte = when on then bit_xor byte dots else byte

-- byte `column` of row `row` of the glass, where its cell has these dots. Then, in the counter's cell (here), cursor sets glyph row 15 and
-- blink inverts; then line reverse inverts; then exclusive or with the graphic; all zero where dark
unfoldable pub byte_over : ℕ → List ℕ → Look → ℕ → ℕ → ℕ
byte_over dots graphic look row column =
    let s = shown_row look.view row in
    let here = at_counter look.counter (shown_word look.view row (column / 2)) in
    when look.dark then 0x00
    else overlaid look.graphic (graphic_byte graphic look.view row column)
    (inverted (get_or look.view.reversed (s / 16) false)
    (inverted (here && look.blink)
    (filled (here && (look.cursor && eqb (s % 16) 15)) dots)))

-- and as the cell has them
unfoldable pub byte_at : Fonts → Memories → Look → ℕ → ℕ → ℕ
byte_at e m look row column = byte_over (cell_byte e m look.view row column) m.graphic look row column

-- what the painters look at: the lent fonts, the memories, and what they show
abbrev pub fonts_in : Scene → Fonts
fonts_in s = fonts s.glyphs.half.now s.glyphs.full.now

abbrev pub memories_in : Scene → Memories
memories_in s = memories s.text.now s.glyphs.memory.now s.graphic.now

abbrev pub shown_at : Scene → ℕ → ℕ → ℕ
shown_at s = byte_at (fonts_in s) (memories_in s) s.look

-- 32 rows of 32 bytes
abbrev pub wide : Layout
wide = record { size = 1024; row = λ i. i / 32; column = λ i. i % 32 }

-- the picture, as the frame of a glass shows it
unfoldable pub picture : Layout → Fonts → Memories → Look → List ℕ
picture l e m look = whole_on l (byte_at e m look)

-- the picture of a state, as a call sees it
abbrev pub pictured : Seen → Memories → Control → List ℕ
pictured e m c = picture wide e.fonts m (look_of e.phase c)
