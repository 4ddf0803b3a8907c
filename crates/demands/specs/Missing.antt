-- Request K6, "say which glyph is missing": what a cell shows by its code and the lent full font, what does not change with that font, and
-- what is said of a cell that lacks a glyph. Each statement is proved in proofs/, under its own name in small letters (`BoxWhereMissing` as
-- `box-where-missing`).
use Rattle.std.specs.Prelude.{ℕ, ◌+◌, ◌*◌, ◌-◌, ◌/◌, ◌%◌, ◌≤◌, ◌<◌, Bool, ◌||◌, List, [], map, ◌≡◌, eqb, length, None, Some}
use Rattle.base.specs.Bits.{bit}
use Rattle.base.specs.Choice.{when◌then◌else◌}
use Rattle.controller.specs.declared.View.{View}
use Rattle.controller.specs.Memories.{Memories, half}
use Rattle.controller.specs.Glass.{image_of, shown_row, shown_word}
use Rattle.events.specs.declared.Event.{Event}
use Rattle.glyph.specs.Dots.{image_byte, half_byte, box_byte}
use Rattle.picture.specs.Picture.{Fonts, Seen, right, cell_byte}
use Rattle.calls.specs.State.{State}
use Rattle.calls.specs.Calls.{Called, Fits}
use Rattle.missing.specs.Missing.{band_row, code_of, missing_at}
use Rattle.demands.specs.Wires.{answers}
use Rattle.demands.specs.Numbered.{lead_at, trail_at, code_at, Answered}

-- dot x of a byte, from the left: bit 7 leftmost
abbrev pub dot : ℕ → ℕ → Bool
dot x byte = bit (7 - x) byte

-- the outermost dots of the 16 by 16 cell
abbrev pub outermost : ℕ → ℕ → Bool
outermost x y = (eqb y 0 || eqb y 15) || (eqb x 0 || eqb x 15)

-- 1. The box is the outermost dots: in its left byte (low = false) dots 0 to 7 of a row, in its right one dots 8 to 15.
abbrev pub BoxIsOutermost : Type 0
BoxIsOutermost = (y : ℕ) (low : Bool) (x : ℕ) → x < 8 → dot x (box_byte y low) ≡ outermost (8 * half low + x) y

-- 2. Code allowed but not in the lent font: the box. (Found: `ShownByNumber` in Numbered.antt.)
abbrev pub BoxWhereMissing : Type 0
BoxWhereMissing =
    (e : Fonts) (m : Memories) (v : View) (row column i : ℕ)
    → code_at m.text v row (column / 2) ≡ Some i
    → length e.full < 32 * i + 32
    → cell_byte e m v row column ≡ box_byte (shown_row v row % 16) (right column)

-- 3. An empty full font gives boxes for all allowed codes.
abbrev pub EmptyFontGivesBoxes : Type 0
EmptyFontGivesBoxes =
    (half : List ℕ) (m : Memories) (v : View) (row column i : ℕ)
    → code_at m.text v row (column / 2) ≡ Some i
    → cell_byte (record { half = half; full = [] }) m v row column ≡ box_byte (shown_row v row % 16) (right column)

-- 4. Blank by the rules: a word from A1h on without a number, whatever the font.
abbrev pub BlankWithoutNumber : Type 0
BlankWithoutNumber =
    (e : Fonts) (m : Memories) (v : View) (row column : ℕ)
    → 0xA1 ≤ lead_at m.text v row (column / 2)
    → code_at m.text v row (column / 2) ≡ None
    → cell_byte e m v row column ≡ 0

-- 5. Images and half glyphs are never missing: they are read from glyph memory and from the half font.
abbrev pub ImagesNeverMissing : Type 0
ImagesNeverMissing =
    (e : Fonts) (m : Memories) (v : View) (row column i : ℕ)
    → image_of (lead_at m.text v row (column / 2)) (trail_at m.text v row (column / 2)) ≡ Some i
    → cell_byte e m v row column ≡ image_byte m.glyph i (shown_row v row % 16) (right column)

abbrev pub HalvesNeverMissing : Type 0
HalvesNeverMissing =
    (e : Fonts) (m : Memories) (v : View) (row column : ℕ)
    → image_of (lead_at m.text v row (column / 2)) (trail_at m.text v row (column / 2)) ≡ None
    → lead_at m.text v row (column / 2) < 0xA1
    → cell_byte e m v row column
    ≡ half_byte e.half (when right column then trail_at m.text v row (column / 2) else lead_at m.text v row (column / 2)) (shown_row v row % 16)

-- all that a call leaves but the frame
abbrev pub but_frame : Called → Answered
but_frame k = record { state = k.state; number = k.number; reply = k.reply; count = k.count }

-- 6. What is missing shows in the picture alone: with any fonts of allowed lengths, and any phases, the same calls leave the same states, and
-- have the same numbers, replies and counts. (Which bytes are named is not even asked of fonts: `named_by` in Demand3.antt.)
abbrev pub FontsShowInPictureAlone : Type 0
FontsShowInPictureAlone =
    (e f : Seen) (s : State) (frame other : List ℕ) (calls : List Event)
    → Fits e frame
    → Fits f other
    → map but_frame (answers e s frame calls) ≡ map but_frame (answers f s other calls)

-- row `row` of the glass lies in band b
pub record InBand (v : View) (row b : ℕ) : Type 0 where
  pub one_of_three : b < 3
  pub begun : band_row v b ≤ row
  pub not_ended : row < band_row v (b + 1)

-- 7. Each row of the glass lies in one band and in no other, and its cells show the words that the band's first row shows: three bands of
-- sixteen cells, by which `show --missing` makes its list, are all of the glass.
abbrev pub EachRowInABand : Type 0
EachRowInABand = (v : View) (row : ℕ) → row < 32 → InBand v row ((row + v.scroll % 16) / 16)

abbrev pub InNoOtherBand : Type 0
InNoOtherBand = (v : View) (row b d : ℕ) → row < 32 → InBand v row b → InBand v row d → b ≡ d

abbrev pub ShowsAsItsBand : Type 0
ShowsAsItsBand = (v : View) (row b cell : ℕ) → row < 32 → InBand v row b → shown_word v row cell ≡ shown_word v (band_row v b) cell

-- 8. What is said of a cell there: its code where its glyph is missing, and nothing elsewhere.
abbrev pub ListedWhereMissing : Type 0
ListedWhereMissing =
    (v : View) (size : ℕ) (text : List ℕ) (row cell i : ℕ)
    → code_at text v row cell ≡ Some i
    → size < 32 * i + 32
    → missing_at v size text row cell ≡ Some (code_of (lead_at text v row cell) (trail_at text v row cell))

abbrev pub NotListedWhereFound : Type 0
NotListedWhereFound =
    (v : View) (size : ℕ) (text : List ℕ) (row cell i : ℕ)
    → code_at text v row cell ≡ Some i
    → 32 * i + 32 ≤ size
    → missing_at v size text row cell ≡ None

abbrev pub NotListedWithoutNumber : Type 0
NotListedWithoutNumber =
    (v : View) (size : ℕ) (text : List ℕ) (row cell : ℕ)
    → code_at text v row cell ≡ None
    → missing_at v size text row cell ≡ None
