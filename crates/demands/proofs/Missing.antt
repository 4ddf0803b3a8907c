-- What a cell shows by its code and the font; and that calls look at fonts for the picture alone.
use Rattle.std.proofs.Common.{None, Option, Some}
use Rattle.links.specs.declared.Carried.{Carried}
use Prim.Native.Nat.{ℕ, ◌+◌, ◌*◌, ◌-◌, ◌/◌, ◌%◌, ◌≤◌, ◌<◌}
use mathlib.Core.Bool.{Bool, true, false, ◌&&◌, ◌||◌}
use mathlib.Core.List.{List, [], ◌∷◌, map}
use mathlib.Core.Logic.{◌≢◌}
use mathlib.Core.Path.{◌≡◌, refl, ap, ap₂, ◌∙◌}
use native.Mathlib.Omega.{arith}
use lib.Dec.{eqb, leb, ltb}
use lib.ListN.{length}
use borrow.Author.Tests.{eqb-true, eqb-false, ltb-true, ltb-false, lt-leb, le-leb}
use Rattle.base.specs.Choice.{when◌then◌else◌}
use Rattle.base.proofs.Choice.{either, either-told, by_test}
use Rattle.base.proofs.Below.{below, ◌&◌}
use Rattle.controller.specs.Memories.{half}
use Rattle.controller.specs.declared.View.{View}
use Rattle.controller.specs.Glass.{image_of, shown_row, shown_word}
use Rattle.events.specs.declared.Event.{Event}
use Rattle.glyph.specs.declared.Content.{Content}
use Rattle.glyph.specs.Dots.{box_byte, dots_of}
use Rattle.glyph.specs.Lookup.{full_of, font_of, image_or, content_of}
use Rattle.picture.specs.Picture.{Seen, word_content, cell_byte}
use Rattle.calls.specs.State.{State}
use Rattle.calls.specs.Calls.{Fits, unless_other, taken_on, timeless, called}
use Rattle.calls.proofs.StaysInRange.{admitted, still_fits}
use Rattle.missing.specs.Missing.{band_row, code_if_missing, missing_at}
use Rattle.demands.specs.Wires.{answers}
use Rattle.demands.proofs.Numbered.{by_code, by_number}
use Rattle.demands.specs.Numbered.{lead_at, trail_at, Answered}
use Rattle.demands.specs.Missing.{dot, but_frame, BoxIsOutermost, BoxWhereMissing, EmptyFontGivesBoxes, BlankWithoutNumber, ImagesNeverMissing, HalvesNeverMissing, FontsShowInPictureAlone, InBand, EachRowInABand, InNoOtherBand, ShowsAsItsBand, ListedWhereMissing, NotListedWhereFound, NotListedWithoutNumber}

-- the box by its dots: a whole row, and the edge at either side

row_dots : (x : ℕ) → x < 8 → dot x 0xFF ≡ true
row_dots = below (λ x. dot x 0xFF ≡ true) 8 (refl & refl & refl & refl & refl & refl & refl & refl & tt)

abbrev EdgeDot : Bool → ℕ → Type 0
EdgeDot low x = dot x (when low then 0x01 else 0x80) ≡ (eqb (8 * half low + x) 0 || eqb (8 * half low + x) 15)

edge_dots : (low : Bool) (x : ℕ) → x < 8 → EdgeDot low x
edge_dots false = below (EdgeDot false) 8 (refl & refl & refl & refl & refl & refl & refl & refl & tt)
edge_dots true = below (EdgeDot true) 8 (refl & refl & refl & refl & refl & refl & refl & refl & tt)

pub box_is_outermost : BoxIsOutermost
unfolding box_byte
box_is_outermost y low x h = by_test (eqb y 0 || eqb y 15) (λ t. rw t (row_dots x h)) (λ t. rw t (edge_dots low x h))

-- the number's glyph, not inside the font
pub box_where_missing : BoxWhereMissing
unfolding cell_byte word_content full_of dots_of
box_where_missing e m v row column i is outside =
    rw (by_number v.numbering _ _ (length e.full) i is, lt-leb (32 * i + 32) (length e.full) outside)

pub empty_font_gives_boxes : EmptyFontGivesBoxes
empty_font_gives_boxes half m v row column i is = box_where_missing _ m v row column i is (omega arith)

pub blank_without_number : BlankWithoutNumber
unfolding cell_byte word_content full_of dots_of
blank_without_number e m v row column lead is =
    rw (by_code v.numbering (lead_at m.text v row (column / 2)) _ (length e.full) lead, is)

pub images_never_missing : ImagesNeverMissing
unfolding cell_byte word_content content_of dots_of
images_never_missing e m v row column i is = rw is

pub halves_never_missing : HalvesNeverMissing
unfolding cell_byte word_content content_of font_of dots_of
halves_never_missing e m v row column none h = rw (none, lt-leb 0xA1 (lead_at m.text v row (column / 2)) h)

-- the bands of the glass

module _ (v : View) (b : ℕ) where
  -- what holds of the first row, of a row within the glass, and of its end
  at_band : (P : ℕ → Type 0) → (b ≡ 0 → P 0) → (1 ≤ b → 16 * b - v.scroll % 16 < 32 → P (16 * b - v.scroll % 16)) → (1 ≤ b → 32 ≤ 16 * b - v.scroll % 16 → P 32)
      → P (band_row v b)
  unfolding band_row
  at_band P first within end =
      either-told P (eqb b 0) (λ e. first (eqb-true b 0 e))
      (λ e. let n : b ≢ 0 = eqb-false b 0 e in
      either-told P (ltb (16 * b - v.scroll % 16) 32)
      (λ t. within (omega arith) (ltb-true (16 * b - v.scroll % 16) 32 t))
      (λ t. end (omega arith) (ltb-false (16 * b - v.scroll % 16) 32 t)))

pub each_row_in_a_band : EachRowInABand
each_row_in_a_band v row h =
    let b : ℕ = (row + v.scroll % 16) / 16 in
    record {
      one_of_three = omega arith;
      begun = at_band v b (λ r. r ≤ row) (λ z. omega arith) (λ n l. omega arith) (λ n l. omega arith);
      not_ended = at_band v (b + 1) (λ r. row < r) (λ z. omega arith) (λ n l. omega arith) (λ n l. omega arith);
    }

module _ (v : View) (row b : ℕ) (h : row < 32) (in-band : InBand v row b) where
  begun_there : 16 * b ≤ row + v.scroll % 16
  begun_there =
      at_band v b (λ r. r ≤ row → 16 * b ≤ row + v.scroll % 16) (λ z l. omega arith) (λ n l m. omega arith) (λ n l m. omega arith) in-band.begun

  ended_there : row + v.scroll % 16 < 16 * b + 16
  ended_there =
      at_band v (b + 1) (λ r. row < r → row + v.scroll % 16 < 16 * b + 16) (λ z l. omega arith) (λ n l m. omega arith) (λ n l m. omega arith) in-band.not_ended

pub in_no_other_band : InNoOtherBand
in_no_other_band v row b d h p q =
    let a = begun_there v row b h p in
    let c = ended_there v row b h p in
    let e = begun_there v row d h q in
    let f = ended_there v row d h q in
    omega arith

pub shows_as_its_band : ShowsAsItsBand
unfolding shown_word shown_row
shows_as_its_band v row b cell h p =
    let a = begun_there v row b h p in
    let c = ended_there v row b h p in
    at_band v b (λ r. shown_word v row cell ≡ shown_word v r cell)
    (λ z. let e : (row + v.scroll) % 64 / 16 ≡ (0 + v.scroll) % 64 / 16 = omega arith in ap (λ (line : ℕ). 16 * line + (cell + v.shift) % 16) e)
    (λ n l. let e : (row + v.scroll) % 64 / 16 ≡ (16 * b - v.scroll % 16 + v.scroll) % 64 / 16 = omega arith in ap (λ (line : ℕ). 16 * line + (cell + v.shift) % 16) e)
    (λ n l. absurd (omega arith))

-- what is said of a cell

pub listed_where_missing : ListedWhereMissing
unfolding missing_at word_content full_of code_if_missing
listed_where_missing v size text row cell i is outside = rw (by_number v.numbering _ _ size i is, lt-leb (32 * i + 32) size outside)

pub not_listed_where_found : NotListedWhereFound
unfolding missing_at word_content full_of code_if_missing
not_listed_where_found v size text row cell i is inside = rw (by_number v.numbering _ _ size i is, le-leb (32 * i + 32) size inside)

pub not_listed_without_number : NotListedWithoutNumber
unfolding missing_at word_content content_of font_of full_of image_of code_if_missing
not_listed_without_number v size text row cell is =
    let high : ℕ = lead_at text v row cell in
    let low : ℕ = trail_at text v row cell in
    either (λ (x : Option ℕ). code_if_missing (image_or x (font_of v.numbering high low size)) high low ≡ None) (eqb high 0x00 && leb low 0x0F) refl
    (either (λ (c : Content). code_if_missing c high low ≡ None) (leb 0xA1 high) (rw is refl) refl)

-- seen in the picture alone

module _ (e f : Seen) where
  taken-same : (s : State) (frame other : List ℕ) (t : Option Carried) → but_frame (unless_other e s frame t) ≡ but_frame (unless_other f s other t)
  taken-same s frame other None = refl
  taken-same s frame other (Some x) = refl

  call_same : (s : State) (frame other : List ℕ) (call : Event) → Fits e frame → Fits f other → but_frame (called e s frame call) ≡ but_frame (called f s other call)
  call_same s frame other call h k =
      rw (admitted e s frame call h, admitted f s other call k)
      (by_test (timeless s.control call) (λ t. rw t) (λ t. rw t (taken-same s frame other (taken_on s call))))

  calls_same : (calls : List Event) (s t : State) (frame other : List ℕ) → s ≡ t → Fits e frame → Fits f other
      → map but_frame (answers e s frame calls) ≡ map but_frame (answers f t other calls)
  unfolding answers
  calls_same [] s t frame other same h k = refl
  calls_same (call ∷ calls) s t frame other same h k =
      let first : but_frame (called e s frame call) ≡ but_frame (called f t other call) =
      call_same s frame other call h k ∙ ap (λ (u : State). but_frame (called f u other call)) same in
      ap₂ ◌∷◌ first
      (calls_same calls (called e s frame call).state (called f t other call).state (called e s frame call).frame (called f t other call).frame
      (ap (λ (a : Answered). a.state) first)
      (still_fits e s frame call h)
      (still_fits f t other call k))

pub fonts_show_in_picture_alone : FontsShowInPictureAlone
fonts_show_in_picture_alone e f s frame other calls h k = calls_same e f calls s s frame other refl h k
