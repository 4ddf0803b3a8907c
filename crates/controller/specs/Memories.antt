-- Document 01, "Memories and flags": the three memories. Text memory is 64 words of 16 bits, four lines of 16; glyph memory 64 words,
-- four images of 16 rows; graphic memory 64 rows of 16 words. Each is a list of bytes, high byte first.
use Rattle.std.specs.Prelude.{ℕ, ◌+◌, ◌*◌, Bool, List, replicate}
use Rattle.base.specs.Choice.{when◌then◌else◌}

pub record Memories : Type 0 where
  pub text : List ℕ
  pub glyph : List ℕ
  pub graphic : List ℕ

-- the half of a word, as a number of bytes into it
abbrev pub half : Bool → ℕ
half low = when low then 1 else 0

-- where a half of a text or glyph word lies
abbrev pub word_place : ℕ → Bool → ℕ
word_place word low = 2 * word + half low

-- where a half of a graphic word lies
abbrev pub graphic_place : ℕ → ℕ → Bool → ℕ
graphic_place row column low = 32 * row + 2 * column + half low

-- row y of image i is glyph word 16i + y
abbrev pub image_row : ℕ → ℕ → ℕ
image_row i y = 16 * i + y

-- fresh: text bytes 20h, the other memories 0
unfoldable pub fresh_memories : Memories
fresh_memories = record { text = replicate 128 0x20; glyph = replicate 128 0; graphic = replicate 2048 0 }

abbrev pub memories : List ℕ → List ℕ → List ℕ → Memories
memories t g h = record { text = t; glyph = g; graphic = h }
