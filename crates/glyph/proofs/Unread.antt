-- Of glyph memory a cell's dots read one byte, where the word shows an image, and else none: any other byte may change.
use Rattle.std.proofs.Common.{None, Option, Some}
use Prim.Native.Nat.{ℕ, ◌+◌, ◌*◌}
use mathlib.Core.Path.{◌≡◌, refl, sym, ap}
use mathlib.Core.Logic.{◌≢◌}
use mathlib.Core.Bool.{Bool, true, true≢false}
use mathlib.Core.List.{List}
use lib.ListN.{get_or, set}
use lib.Seq.{get_or-set_other}
use lib.Dec.{leb}
use borrow.Author.Tests.{eqb-true}
use Rattle.base.proofs.Choice.{either}
use Rattle.events.specs.declared.Numbering.{Numbering}
use Rattle.controller.specs.Glass.{image_of, is_image}
use Rattle.controller.specs.Memories.{word_place, image_row}
use Rattle.glyph.specs.declared.Content.{Content}
use Rattle.numbering.specs.Numbering.{number_of}
use Rattle.glyph.specs.Lookup.{full_of, font_of, image_or, content_of}
use Rattle.glyph.specs.Dots.{dots_of}

module _ (halves fulls : List ℕ) (n : Numbering) (y : ℕ) (right : Bool) where
  full-reads-none : (g h : List ℕ) (c : Option ℕ) (size : ℕ) → dots_of halves fulls g (full_of c size) y right ≡ dots_of halves fulls h (full_of c size) y right
  unfolding full_of dots_of
  full-reads-none g h None size = refl
  full-reads-none g h (Some i) size =
      either (λ (c : Content). dots_of halves fulls g c y right ≡ dots_of halves fulls h c y right) (leb (32 * i + 32) size) refl refl

  font_reads_none : (g h : List ℕ) (high low size : ℕ) → dots_of halves fulls g (font_of n high low size) y right ≡ dots_of halves fulls h (font_of n high low size) y right
  unfolding font_of dots_of
  font_reads_none g h high low size =
      either (λ (c : Content). dots_of halves fulls g c y right ≡ dots_of halves fulls h c y right) (leb 0xA1 high) (full-reads-none g h (number_of n high low) size) refl

  pub glyph_unread : (g : List ℕ) (high low size a b : ℕ) → ((i : ℕ) → image_of high low ≡ Some i → word_place (image_row i y) right ≢ a)
      → dots_of halves fulls (set g a b) (content_of n high low size) y right ≡ dots_of halves fulls g (content_of n high low size) y right
  unfolding content_of dots_of
  glyph_unread g high low size a b other = by (image_of high low) refl
    where
      by : (i : Option ℕ) → image_of high low ≡ i
          → dots_of halves fulls (set g a b) (image_or i (font_of n high low size)) y right ≡ dots_of halves fulls g (image_or i (font_of n high low size)) y right
      by None e = font_reads_none (set g a b) g high low size
      by (Some i) e = get_or-set_other g a (word_place (image_row i y) right) b 0 (other i e)

-- where the word shows an image, that byte
pub image_shown : (halves fulls g : List ℕ) (n : Numbering) (high low size y : ℕ) (right : Bool) (i a : ℕ) → is_image (image_of high low) i ≡ true → word_place (image_row i y) right ≡ a
    → dots_of halves fulls g (content_of n high low size) y right ≡ get_or g a 0
unfolding content_of dots_of
image_shown halves fulls g n high low size y right i a t p = by (image_of high low) t
  where
    by : (x : Option ℕ) → is_image x i ≡ true → dots_of halves fulls g (image_or x (font_of n high low size)) y right ≡ get_or g a 0
    by None e = absurd (true≢false (sym e))
    by (Some k) e = let z : k ≡ i = eqb-true k i e in rw z (ap (λ (k : ℕ). get_or g k 0) p)
