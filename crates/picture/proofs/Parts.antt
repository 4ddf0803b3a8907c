-- Equal parts give equal bytes: everything that a byte of the picture depends on, by name.
use Prim.Native.Nat.{ℕ, ◌/◌}
use mathlib.Core.Path.{◌≡◌}
use Rattle.controller.specs.Memories.{Memories}
use Rattle.controller.specs.Glass.{shown_word}
use Rattle.picture.specs.declared.Look.{Look}
use Rattle.picture.specs.Picture.{Fonts, cell_byte, graphic_byte, at_counter, byte_over, byte_at}

-- the parts of a byte, the same for the memories n and the look b as for m and a: scroll, shift and the reversed lines; whether the counter's
-- word is here; cursor and blink; graphic on; dark; the cell's byte; and the graphic byte
pub record SameParts (e : Fonts) (m n : Memories) (a b : Look) (row column : ℕ) : Type 0 where
  pub view : b.view ≡ a.view
  pub here : at_counter b.counter (shown_word a.view row (column / 2)) ≡ at_counter a.counter (shown_word a.view row (column / 2))
  pub cursor : b.cursor ≡ a.cursor
  pub blink : b.blink ≡ a.blink
  pub g : b.graphic ≡ a.graphic
  pub dark : b.dark ≡ a.dark
  pub cell : cell_byte e n a.view row column ≡ cell_byte e m a.view row column
  pub graphic : graphic_byte n.graphic a.view row column ≡ graphic_byte m.graphic a.view row column

pub equal_parts_equal_bytes : (e : Fonts) (m n : Memories) (a b : Look) (row column : ℕ)
    → SameParts e m n a b row column → byte_at e n b row column ≡ byte_at e m a row column
unfolding byte_at byte_over
equal_parts_equal_bytes e m n a b row column s = cc (s.view, s.here, s.cursor, s.blink, s.g, s.dark, s.cell, s.graphic)
