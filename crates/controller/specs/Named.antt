-- Document 01, "Bytes named for repaint": which region each transfer names, and which bytes a region has.
use Rattle.std.specs.Prelude.{ℕ, ◌+◌, ◌*◌, ◌/◌, ◌%◌, Bool, true, false, not, ◌&&◌, ◌||◌, List, eqb, None, Option, Some}
use Rattle.base.specs.Choice.{when◌then◌else◌}
use Rattle.table.specs.declared.Target.{Target}
use Rattle.table.specs.declared.Target.TheVariants.{Text, Glyph, Graphic}
use Rattle.table.specs.declared.Touch.{Touch}
use Rattle.table.specs.declared.Touch.TheVariants as touch
use Rattle.controller.specs.declared.Place.{Place}
use Rattle.controller.specs.declared.View.{View}
use Rattle.controller.specs.declared.Control.{Control}
use Rattle.controller.specs.declared.Region.{Region}
use Rattle.controller.specs.declared.Region.TheVariants.{Nothing, Whole, Cells, GlyphHalf, GraphicHalf}
use Rattle.controller.specs.Memories.{half}
use Rattle.controller.specs.Data.{is_text, completes, shifts}
use Rattle.controller.specs.Glass.{shown_row, shown_word, word_image, is_image}

-- a cell's bytes are its two columns on the visible rows of its line
unfoldable pub in_cell : View → ℕ → ℕ → ℕ → Bool
in_cell v word row column = eqb (shown_row v row / 16) (word / 16) && eqb ((column / 2 + v.shift) % 16) (word % 16)

abbrev pub in_some_cell : View → Option ℕ → ℕ → ℕ → Bool
in_some_cell v None row column = false
in_some_cell v (Some word) row column = in_cell v word row column

-- the counter's cell, where target is text
abbrev pub counter_cell : Place → Option ℕ
counter_cell p = when is_text p.target then Some p.counter else None

-- the counter's cell before and after, each where target is text
abbrev pub both_cells : Place → Place → Region
both_cells before after = Cells (counter_cell before) (counter_cell after)

-- address sets and cursor moves: both cells; a row alone, which waits then: none
abbrev pub address_names : Option ℕ → Place → Place → Region
address_names None before after = both_cells before after
address_names (Some y) before after = Nothing

abbrev pub touch_names : Touch → Place → Place → Region
touch_names touch.Nothing before after = Nothing
touch_names touch.Counter before after = address_names after.waiting before after
touch_names touch.All before after = Whole
touch_names touch.AllAndText before after = Whole

-- an instruction, from the controls before and after it: all 1,024 where it ends standby; else by what it touches
unfoldable pub instruction_names : Control → Control → Touch → Region
instruction_names before after t =
    when before.standby && not after.standby then Whole else touch_names t before.place after.place

-- the word's cell and, if the counter steps, the new word's cell
abbrev pub text_names : Place → Place → Region
text_names before after = Cells (Some before.counter) (when before.low then Some after.counter else None)

-- text write: cells; glyph write: each byte showing that half of that image row; graphic write: its byte
abbrev pub write_by_target : Target → Place → Place → Region
write_by_target Text before after = text_names before after
write_by_target Glyph before after = GlyphHalf before.counter before.low
write_by_target Graphic before after = GraphicHalf before.row before.counter before.low

-- a data write, from the controls before and after it: all 1,024 where a text word completes with S = 1
unfoldable pub write_names : Control → Control → Region
write_names before after =
    when shifts before then Whole else write_by_target before.place.target before.place after.place

-- a data read that is no dummy: all 1,024 where a text word completes with S = 1; a text read that steps, both cells
unfoldable pub read_names : Control → Control → Region
read_names before after =
    when shifts before then Whole
    else when completes before.place then both_cells before.place after.place
    else Nothing

-- the graphic byte, if visible
unfoldable pub shows_graphic : View → ℕ → ℕ → Bool → ℕ → ℕ → Bool
shows_graphic v y k low row column = eqb (shown_row v row) y && eqb column (2 * k + half low)

-- each byte showing that half of that image row
unfoldable pub shows_glyph : View → List ℕ → ℕ → Bool → ℕ → ℕ → Bool
shows_glyph v text word low row column =
    eqb (shown_row v row % 16) (word % 16)
    && (is_image (word_image text (shown_word v row (column / 2))) (word / 16) && eqb (column % 2) (half low))

-- whether a region has byte `column` of row `row` of the glass
unfoldable pub covers : View → List ℕ → Region → ℕ → ℕ → Bool
covers v text Nothing row column = false
covers v text Whole row column = true
covers v text (Cells a b) row column = in_some_cell v a row column || in_some_cell v b row column
covers v text (GlyphHalf word low) row column = shows_glyph v text word low row column
covers v text (GraphicHalf y k low) row column = shows_graphic v y k low row column
