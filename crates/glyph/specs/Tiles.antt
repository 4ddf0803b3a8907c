-- No sentence of document 01, but what the contracts of the code ask and promise: what is shown is there; a cell's tile is its sixteen rows
-- one after the other, two bytes to a row.
use Prim.{Unit}
use Rattle.std.specs.Prelude.{ℕ, ◌+◌, ◌*◌, ◌/◌, ◌%◌, ◌<◌, ◌≤◌, Bool, List, get_or, eqb}
use Rattle.base.specs.Choice.{when◌then◌else◌}
use Rattle.glyph.specs.declared.Content.{Content}
use Rattle.glyph.specs.declared.Content.TheVariants.{Image, Full, Halves, Missing, Blank}
use Rattle.glyph.specs.Dots.{dots_of}

-- what is shown lies inside glyph memory, or inside a full font of `length` bytes
abbrev pub Inside : Content → ℕ → Type 0
Inside (Image i) length = i < 4
Inside (Full i) length = 32 * i + 32 ≤ length
Inside (Halves h l) length = Unit {0}
Inside Missing length = Unit {0}
Inside Blank length = Unit {0}

-- the right byte of a row has an odd place
abbrev pub odd : ℕ → Bool
odd j = eqb (j % 2) 1

-- byte j of the tile of what is shown
abbrev pub tile_dots : List ℕ → List ℕ → List ℕ → Content → ℕ → ℕ
tile_dots halves fulls glyph c j = dots_of halves fulls glyph c (j / 2) (odd j)

-- byte j of two columns side by side
abbrev pub beside : List ℕ → List ℕ → ℕ → ℕ
beside left right j = get_or (when odd j then right else left) (j / 2) 0
