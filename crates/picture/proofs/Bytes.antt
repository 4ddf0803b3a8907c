-- Single bytes of the picture, as the code finds them.
use Rattle.std.proofs.Common.{None, Option, Some}
use Prim.Native.Nat.{ℕ, ◌+◌, ◌*◌, ◌/◌, ◌%◌, ◌<◌}
use mathlib.Core.Path.{◌≡◌, refl}
use mathlib.Core.Bool.{Bool, false, ◌&&◌}
use mathlib.Core.List.{List}
use native.Mathlib.Omega.{arith}
use lib.ListN.{length, get_or}
use lib.Dec.{eqb}
use borrow.Author.Tests.{ne_eqb}
use Rattle.events.specs.declared.Numbering.{Numbering}
use Rattle.controller.specs.declared.View.{View}
use Rattle.controller.specs.Memories.{Memories, half}
use Rattle.controller.specs.Glass.{shown_row, shown_word}
use Rattle.glyph.specs.declared.Content.{Content}
use Rattle.glyph.specs.Dots.{dots_of}
use Rattle.glyph.specs.Tiles.{Inside}
use Rattle.picture.specs.declared.Look.{Look}
use Rattle.picture.specs.Picture.{Fonts, right, word_content, cell_byte, graphic_byte, at_counter, filled, inverted, overlaid, byte_over, byte_at}
use Rattle.picture.specs.Tiles.{counter_word}
use Rattle.glyph.proofs.Inside.{content_inside}
use Rattle.picture.proofs.Unread.{half-right}

shown-word_lt : (v : View) (row cell : ℕ) → shown_word v row cell < 64
unfolding shown_word shown_row
shown-word_lt v row cell = omega arith

-- what a word shows lies inside the full font
pub word-inside : (n : Numbering) (size : ℕ) (text : List ℕ) (word : ℕ) → Inside (word_content n size text word) size
unfolding word_content
word-inside n size text word = content_inside n _ _ size

-- 64 is the word of no cell
pub counter-here : (cell : Option ℕ) (word : ℕ) → word < 64 → eqb word (counter_word cell) ≡ at_counter cell word
counter-here None word h = ne_eqb word 64 (λ e. omega arith)
counter-here (Some counter) word h = refl

graphic-column : (s column : ℕ) → 32 * s + column ≡ 32 * s + 2 * (column / 2) + half (right column)
graphic-column s column = let h = half-right column in omega arith

-- with everything over the dots, step by step; nothing shows in the dark
module _ (look : Look) (row column : ℕ) where
  pub over_dots : (graphic : List ℕ) (s word counter dots marked lined r : ℕ) (cursor : Bool)
      → s ≡ shown_row look.view row
      → word ≡ shown_word look.view row (column / 2)
      → counter ≡ counter_word look.counter
      → cursor ≡ (look.cursor && eqb (s % 16) 15)
      → marked ≡ inverted (eqb word counter && look.blink) (filled (eqb word counter && cursor) dots)
      → lined ≡ inverted (get_or look.view.reversed (s / 16) false) marked
      → look.dark ≡ false
      → r ≡ overlaid look.graphic (get_or graphic (32 * s + column) 0) lined
      → r ≡ byte_over dots graphic look row column
  unfolding byte_over graphic_byte
  over_dots graphic s word counter dots marked lined r cursor is-s is_IsWord is-counter is-cursor is-marked is-lined light is =
      rw (
        light,
        is,
        is-lined,
        is-marked,
        is-cursor,
        is-counter,
        is_IsWord,
        is-s,
        graphic-column (shown_row look.view row) column,
        counter-here look.counter (shown_word look.view row (column / 2)) (shown-word_lt look.view row (column / 2)),
      )

  -- over the dots of the word that is shown
  pub over-shown : (e : Fonts) (m : Memories) (word y dots r : ℕ) (shown : Content)
      → word ≡ shown_word look.view row (column / 2)
      → shown ≡ word_content look.view.numbering (length e.full) m.text word
      → y ≡ shown_row look.view row
      → dots ≡ dots_of e.half e.full m.glyph shown (y % 16) (right column)
      → r ≡ byte_over dots m.graphic look row column
      → r ≡ byte_at e m look row column
  unfolding byte_at cell_byte
  over-shown e m word y dots r shown is_IsWord is-shown is_y is-dots is = rw (is, is-dots, is_y, is-shown, is_IsWord)
