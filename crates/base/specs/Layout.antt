-- Where the bytes of a glass lie in a frame: painting, counting and a whole frame, over any layout. A set of bytes is a test on rows and columns.
use Rattle.std.specs.Prelude.{ℕ, Bool, List}
use Rattle.base.specs.Lists.{upto}
use Rattle.base.specs.Painting.{painted, count, between}

-- how many bytes a frame has, and the row and the column of the glass that the byte at each place shows
pub record Layout : Type 0 where
  pub size : ℕ
  pub row : ℕ → ℕ
  pub column : ℕ → ℕ

-- what a function of rows and columns has at a place
abbrev pub on : {A : Type 0} → Layout → (ℕ → ℕ → A) → ℕ → A
on l f i = f (l.row i) (l.column i)

-- the frame that shows these bytes
abbrev pub whole_on : Layout → (ℕ → ℕ → ℕ) → List ℕ
whole_on l byte = upto l.size (on l byte)

-- each named byte takes its new value, and all others keep theirs
abbrev pub painted_on : Layout → (ℕ → ℕ → Bool) → (ℕ → ℕ → ℕ) → List ℕ → List ℕ
painted_on l named byte frame = painted (on l named) (on l byte) frame

-- how many bytes of the frame are named
abbrev pub count_on : Layout → (ℕ → ℕ → Bool) → ℕ
count_on l named = count l.size (on l named)

-- the named bytes of the rows from `first` on, up to `end` and without it
abbrev pub rows : ℕ → ℕ → (ℕ → ℕ → Bool) → ℕ → ℕ → Bool
rows first end named row column = between first end (λ r. named r column) row

-- and of the columns
abbrev pub columns : ℕ → ℕ → (ℕ → ℕ → Bool) → ℕ → ℕ → Bool
columns first end named row column = between first end (named row) column
