-- Document 01, "Bytes named for repaint": painting gives each named byte the value it has in the new picture and keeps all others,
-- also where the frame held something else before; the answer counts distinct bytes rewritten, whether or not their content differs.
use Prim.{Unit}
use Rattle.std.specs.Prelude.{ℕ, ◌+◌, ◌*◌, ◌-◌, ◌/◌, ◌%◌, ◌<◌, Bool, false, ◌&&◌, List, eqb, ltb, None, Option, Some}
use Rattle.base.specs.Choice.{when◌then◌else◌}
use Rattle.base.specs.Painting.{painted, count}
use Rattle.base.specs.Layout.{Layout, on}
use Rattle.controller.specs.declared.View.{View}
use Rattle.controller.specs.declared.Region.{Region}
use Rattle.controller.specs.declared.Region.TheVariants.{Nothing, Whole, Cells, GlyphHalf, GraphicHalf}
use Rattle.controller.specs.Memories.{Memories}
use Rattle.controller.specs.Glass.{shown_row}
use Rattle.controller.specs.Named.{covers}
use Rattle.picture.specs.declared.Look.{Look}
use Rattle.picture.specs.Picture.{Fonts, byte_at}

-- the places of a region in the frame of a glass, in the state after the transfer
unfoldable pub named : Layout → View → List ℕ → Region → ℕ → Bool
named l v text region = on l (covers v text region)

-- the frame after it was repainted
unfoldable pub repainted : Layout → Fonts → Memories → Look → Region → List ℕ → List ℕ
repainted l e m look region frame = painted (named l look.view m.text region) (on l (byte_at e m look)) frame

-- the number of bytes named
unfoldable pub count_named : Layout → View → List ℕ → Region → ℕ
count_named l v text region = count l.size (named l v text region)

-- what painting leaves: the count that it answers, and the frame
pub record Painting : Type 0 where
  pub count : ℕ
  pub frame : List ℕ

abbrev pub painting : ℕ → List ℕ → Painting
painting n frame = record { count = n; frame = frame }

-- a region is painted and counted
abbrev pub repaint : Layout → Fonts → Memories → Look → Region → List ℕ → Painting
repaint l e m look region frame = painting (count_named l look.view m.text region) (repainted l e m look region frame)

-- From here on no sentence of document 01, but what the contracts of the painting functions ask and promise.

-- a set of places, of so many, is painted and counted; and a set of bytes of a glass
abbrev pub paints : ℕ → (ℕ → Bool) → (ℕ → ℕ) → List ℕ → Painting
paints size set bytes frame = painting (count size set) (painted set bytes frame)

abbrev pub paints_on : Layout → (ℕ → ℕ → Bool) → (ℕ → ℕ → ℕ) → List ℕ → Painting
paints_on l set bytes frame = paints l.size (on l set) (on l bytes) frame

-- the most bytes that a region can have: two cells of 32, a glyph half 32, a graphic half its one
abbrev pub most_of : Region → ℕ
most_of Nothing = 0
most_of Whole = 1024
most_of (Cells a b) = 64
most_of (GlyphHalf word low) = 32
most_of (GraphicHalf row column low) = 1

-- the view is within its ranges
pub record ViewWithin (v : View) : Type 0 where
  pub scroll : v.scroll < 64
  pub shift : v.shift < 16

-- the numbers that a region carries lie within the memories
abbrev pub CellWithin : Option ℕ → Type 0
CellWithin None = Unit {0}
CellWithin (Some word) = word < 64

abbrev pub RegionWithin : Region → Type 0
RegionWithin Nothing = Unit {0}
RegionWithin Whole = Unit {0}
RegionWithin (Cells a b) = CellWithin a × CellWithin b
RegionWithin (GlyphHalf word low) = word < 64
RegionWithin (GraphicHalf row column low) = (row < 64) × (column < 16)

-- whether two cells are one
abbrev pub same_cell : Option ℕ → Option ℕ → Bool
same_cell None b = false
same_cell (Some a) None = false
same_cell (Some a) (Some b) = eqb a b

-- the rows of the glass that show a line of text follow one another: the line's first row would stand at row `run_top` of 64
abbrev pub run_top : ℕ → ℕ → ℕ
run_top scroll line = (16 * line + 64 - scroll) % 64

-- the first of them
unfoldable pub run_first : ℕ → ℕ → ℕ
run_first scroll line = when ltb (run_top scroll line) 32 then run_top scroll line else 0

-- and the row after the last; 0 where none shows the line
unfoldable pub run_end : ℕ → ℕ → ℕ
run_end scroll line =
    when ltb (run_top scroll line) 16 then run_top scroll line + 16
    else when ltb (run_top scroll line) 32 then 32
    else run_top scroll line - 48

-- the two columns of a cell
abbrev pub in_columns : ℕ → ℕ → ℕ → Bool
in_columns cell row column = eqb (column / 2) cell

-- the byte that shows graphic row y at a column
abbrev pub shows_place : View → ℕ → ℕ → ℕ → ℕ → Bool
shows_place v y at row column = eqb (shown_row v row) y && eqb column at
