-- Painting the named places of a frame, and counting them. A set of places is a test on places.
use Rattle.std.specs.Prelude.{ℕ, zero, suc, ◌+◌, Bool, true, ◌&&◌, List, length, get_or, leb, ltb}
use Rattle.base.specs.Choice.{when◌then◌else◌}
use Rattle.base.specs.Lists.{upto}

-- each named place takes its new byte, and all others keep theirs, whatever the frame held
unfoldable pub painted : (ℕ → Bool) → (ℕ → ℕ) → List ℕ → List ℕ
painted named byte frame = upto (length frame) (λ i. when named i then byte i else get_or frame i 0)

-- how many of the places below n are named
unfoldable pub count : ℕ → (ℕ → Bool) → ℕ
count zero named = 0
count (suc n) named = count n named + (when named n then 1 else 0)

-- every place
abbrev pub everywhere : ℕ → Bool
everywhere i = true

-- the named places from `low` on, up to `high` and without it
unfoldable pub between : ℕ → ℕ → (ℕ → Bool) → ℕ → Bool
between low high named i = (leb low i && ltb i high) && named i
