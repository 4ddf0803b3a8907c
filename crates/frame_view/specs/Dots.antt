-- Document 01, "The picture": 32 rows of 32 bytes, bit 7 leftmost. So the glass has 256 dots by 32.
use Rattle.std.specs.Prelude.{ℕ, ◌+◌, ◌*◌, ◌-◌, ◌/◌, ◌%◌, ◌^◌, List, get_or}

-- the dot at column x of row y: 1 where it is set, else 0
unfoldable pub dot_at : List ℕ → ℕ → ℕ → ℕ
dot_at frame x y = get_or frame (32 * y + x / 8) 0 / 2 ^ (7 - x % 8) % 2
