-- What a byte of the picture does not read may change: another text word, a glyph byte that it does not show, another graphic byte.
use Prim.Native.Nat.{ℕ, ◌+◌, ◌*◌, ◌/◌, ◌%◌, ◌<◌}
use mathlib.Core.Path.{◌≡◌, refl, sym, ◌∙◌}
use mathlib.Core.Logic.{◌≢◌}
use mathlib.Core.Bool.{Bool, true, false, true≢false}
use native.Mathlib.Omega.{arith}
use lib.ListN.{set, length, get_or}
use lib.Dec.{eqb}
use lib.Seq.{get_or-set_other}
use borrow.Author.Tests.{eq-eqb, eqb-true, eqb-false}
use Rattle.controller.specs.declared.View.{View}
use Rattle.controller.specs.Memories.{Memories, memories, half, word_place, image_row, graphic_place}
use Rattle.controller.specs.Glass.{shown_row, shown_word, word_image, is_image}
use Rattle.controller.specs.Named.{shows_glyph, shows_graphic}
use Rattle.controller.proofs.Halves.{half_le}
use Rattle.base.proofs.Tests.{and_both}
use Rattle.glyph.proofs.Unread.{glyph_unread, image_shown}
use Rattle.picture.specs.Picture.{Fonts, right, word_content, cell_byte, graphic_byte}

pub half-right : (column : ℕ) → half (right column) ≡ column % 2
half-right column = by (right column) refl
  where
    by : (t : Bool) → right column ≡ t → half t ≡ column % 2
    by true e = sym (eqb-true (column % 2) 1 e)
    by false e = let n : column % 2 ≢ 1 = eqb-false (column % 2) 1 e in omega arith

-- two halves that lie at one place are the same half of the same word
pub same_place : (p q : ℕ) (s t : Bool) → word_place p s ≡ word_place q t → (p ≡ q) × (half s ≡ half t)
same_place p q s t e = let a = half_le s in let b = half_le t in (omega arith, omega arith)

module _ (e : Fonts) (m : Memories) (v : View) (row column : ℕ) where
  pub text_unread : (word : ℕ) (low : Bool) (b : ℕ) → shown_word v row (column / 2) ≢ word
      → cell_byte e (memories (set m.text (word_place word low) b) m.glyph m.graphic) v row column ≡ cell_byte e m v row column
  unfolding cell_byte word_content
  text_unread word low b n =
      rw (
        get_or-set_other m.text (word_place word low) (word_place (shown_word v row (column / 2)) false) b 0 (λ z. n (same_place (shown_word v row (column / 2)) word false low z).0),
        get_or-set_other m.text (word_place word low) (word_place (shown_word v row (column / 2)) true) b 0 (λ z. n (same_place (shown_word v row (column / 2)) word true low z).0),
      )

  pub glyph_unshown : (word : ℕ) (low : Bool) (b : ℕ) → shows_glyph v m.text word low row column ≡ false
      → cell_byte e (memories m.text (set m.glyph (word_place word low) b) m.graphic) v row column ≡ cell_byte e m v row column
  unfolding cell_byte word_content shows_glyph word_image
  glyph_unshown word low b n =
      glyph_unread e.half e.full v.numbering (shown_row v row % 16) (right column) m.glyph _ _ (length e.full) (word_place word low) b
      (λ i shown z. let q = same_place (image_row i (shown_row v row % 16)) word (right column) low z in
      let w : 16 * i + shown_row v row % 16 ≡ word = q.0 in
      let h : column % 2 ≡ half low = sym (half-right column) ∙ q.1 in
      true≢false (sym (rw (shown, eq-eqb (shown_row v row % 16) (word % 16) (omega arith), eq-eqb i (word / 16) (omega arith), eq-eqb (column % 2) (half low) h)) ∙ n))

  pub graphic_unshown : (y k : ℕ) (low : Bool) (b : ℕ) → column < 32 → k < 16 → shows_graphic v y k low row column ≡ false
      → graphic_byte (set m.graphic (graphic_place y k low) b) v row column ≡ graphic_byte m.graphic v row column
  unfolding graphic_byte shows_graphic
  graphic_unshown y k low b columns words n =
      get_or-set_other m.graphic (graphic_place y k low) (graphic_place (shown_row v row) (column / 2) (right column)) b 0
      (λ z. let h = half-right column in
      let l = half_le low in
      let s : shown_row v row ≡ y = omega arith in
      let c : column ≡ 2 * k + half low = omega arith in
      true≢false (sym (rw (eq-eqb (shown_row v row) y s, eq-eqb column (2 * k + half low) c)) ∙ n))

  -- a byte that shows a half of a glyph word has its dots
  pub glyph-shown : (word : ℕ) (low : Bool) → shows_glyph v m.text word low row column ≡ true → cell_byte e m v row column ≡ get_or m.glyph (word_place word low) 0
  unfolding cell_byte word_content shows_glyph word_image
  glyph-shown word low t =
      let q = and_both (eqb (shown_row v row % 16) (word % 16)) _ t in
      let i = word_image m.text (shown_word v row (column / 2)) in
      let w = and_both (is_image i (word / 16)) (eqb (column % 2) (half low)) q.1 in
      let y : shown_row v row % 16 ≡ word % 16 = eqb-true _ _ q.0 in
      let s : half (right column) ≡ half low = half-right column ∙ eqb-true _ _ w.1 in
      image_shown e.half e.full m.glyph v.numbering _ _ (length e.full) (shown_row v row % 16) (right column) (word / 16) (word_place word low) w.0
      (let p : 2 * (16 * (word / 16) + shown_row v row % 16) + half (right column) ≡ 2 * word + half low = omega arith in p)
