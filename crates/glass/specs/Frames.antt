-- Document 01, "The picture", and request K7: which glass a frame is for, and which byte of the 32 rows of 32 stands at each of its places.
use Rattle.std.specs.Prelude.{ℕ, ◌+◌, ◌*◌, ◌/◌, ◌%◌, ◌<◌, List, ◌≡◌, get_or}
use Rattle.base.specs.Lists.{upto}
use Rattle.base.specs.Layout.{Layout}
use Rattle.glass.specs.declared.Glass.{Glass}
use Rattle.glass.specs.declared.Glass.TheVariants.{Wide, Folded}

-- 32 rows of 32 bytes
abbrev pub wide : Layout
wide = record { size = 1024; row = λ i. i / 32; column = λ i. i % 32 }

-- 64 rows of 16 bytes, in which the byte at row R, column c is the old byte at row R mod 32, column c + 16·(R / 32)
abbrev pub folded : Layout
folded = record { size = 1024; row = λ i. i / 16 % 32; column = λ i. i % 16 + 16 * (i / 16 / 32) }

abbrev pub layout_of : Glass → Layout
layout_of Wide = wide
layout_of Folded = folded

-- the place in the wide frame of the byte at a place of another
abbrev pub wide_place : Layout → ℕ → ℕ
wide_place l i = 32 * l.row i + l.column i

-- a frame, as a wide one gives it: each byte is the wide frame's at that place
unfoldable pub through : Layout → List ℕ → List ℕ
through l frame = upto l.size (λ i. get_or frame (wide_place l i) 0)

-- every place of a frame has one of the 32 rows of 32 bytes, and no two have the same
pub record OneToOne (l : Layout) : Type 0 where
  pub rows : (i : ℕ) → i < l.size → l.row i < 32
  pub columns : (i : ℕ) → i < l.size → l.column i < 32
  pub once : (i j : ℕ) → i < l.size → j < l.size → l.row i ≡ l.row j → l.column i ≡ l.column j → i ≡ j

-- and each of those bytes has a place
pub record Onto (l : Layout) : Type 0 where
  pub place : ℕ → ℕ → ℕ
  pub inside : (row column : ℕ) → row < 32 → column < 32 → place row column < l.size
  pub row_at : (row column : ℕ) → row < 32 → column < 32 → l.row (place row column) ≡ row
  pub column_at : (row column : ℕ) → row < 32 → column < 32 → l.column (place row column) ≡ column
