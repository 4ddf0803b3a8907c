-- How many bytes a region has: a cell at most 32, a glyph half at most 32, a graphic half at most 1, by the rows and columns it can be in.
use Rattle.std.proofs.Common.{None, Option, Some}
use Prim.Native.Nat.{ℕ, ◌+◌, ◌*◌, ◌/◌, ◌%◌, ◌<◌, ◌≤◌}
use mathlib.Core.Bool.{Bool, true, false, ◌&&◌}
use mathlib.Core.List.{List}
use mathlib.Core.Path.{◌≡◌, refl, ◌∙◌, sym, subst}
use native.Mathlib.Nat.{le_trans, mul-le-mul_left}
use native.Mathlib.Omega.{arith}
use lib.Dec.{eqb}
use borrow.Author.Tests.{eqb-true}
use Rattle.base.specs.Painting.{count}
use Rattle.base.specs.Layout.{on, count_on}
use Rattle.base.proofs.Counting.{count_cong, count_none, count-all, count_or_le, count_window, count_grid, count-rows}
use Rattle.base.proofs.Tests.{and_both}
use Rattle.controller.specs.declared.View.{View}
use Rattle.controller.specs.declared.Region.{Region}
use Rattle.controller.specs.declared.Region.TheVariants.{Nothing, Whole, Cells, GlyphHalf, GraphicHalf}
use Rattle.controller.specs.Memories.{half}
use Rattle.controller.specs.Glass.{shown_row, shown_word, word_image, is_image}
use Rattle.controller.specs.Named.{in_cell, in_some_cell, shows_glyph, shows_graphic, covers}
use Rattle.picture.specs.Picture.{wide}
use Rattle.repaint.specs.Repaint.{named, count_named, most_of}

-- byte c of row r, as a place
at_row : (r c : ℕ) → c < 32 → (r * 32 + c) / 32 ≡ r
at_row r c h = omega arith

at-column : (r c : ℕ) → c < 32 → (r * 32 + c) % 32 ≡ c
at-column r c h = omega arith

-- a row at a time
row_count : (f : ℕ → ℕ → Bool) (r : ℕ) → count 32 (λ c. on wide f (r * 32 + c)) ≡ count 32 (f r)
row_count f r = count_cong 32 _ (f r) (λ c h. rw (at_row r c h, at-column r c h))

-- rows of one line, and columns of one cell
near-rows : (x r s : ℕ) → r < 32 → s < 32 → (r + x) % 64 / 16 ≡ (s + x) % 64 / 16 → s < r + 16
near-rows x r s h g e = omega arith

near-columns : (x c d : ℕ) → c < 32 → d < 32 → (c / 2 + x) % 16 ≡ (d / 2 + x) % 16 → d < c + 2
near-columns x c d h g e = omega arith

-- at most m bytes in each row that Q names, of which there are at most k
pub count_in_rows :
    (f : ℕ → ℕ → Bool) (Q : ℕ → Bool) (m k : ℕ)
    → ((r : ℕ) → r < 32 → Q r ≡ true → count 32 (f r) ≤ m)
    → ((r c : ℕ) → Q r ≡ false → f r c ≡ false)
    → count 32 Q ≤ k
    → count_on wide f ≤ m * k
count_in_rows f Q m k some none rows =
    let grid : count (32 * 32) (on wide f) ≤ m * count 32 Q =
    count_grid 32 32 m (on wide f) Q (λ r h q. rw (row_count f r) (some r h q))
    (λ r h q. row_count f r ∙ count_none 32 (f r) (λ c l. none r c q)) in
    le_trans grid (mul-le-mul_left m rows)

off : (p q : Bool) → p ≡ false → (p && q) ≡ false
off p q e = rw e

-- what a place of a cell, of a glyph half, of a graphic half has
cell-column : (v : View) (word r c : ℕ) → in_cell v word r c ≡ true → (c / 2 + v.shift) % 16 ≡ word % 16
unfolding in_cell
cell-column v word r c e =
    eqb-true ((c / 2 + v.shift) % 16) (word % 16)
    (and_both (eqb (shown_row v r / 16) (word / 16)) (eqb ((c / 2 + v.shift) % 16) (word % 16)) e).1

glyph-column :
    (v : View) (text : List ℕ) (word : ℕ) (low : Bool) (r c : ℕ) → shows_glyph v text word low r c ≡ true → c % 2 ≡ half low
unfolding shows_glyph
glyph-column v text word low r c e =
    let shows = is_image (word_image text (shown_word v r (c / 2))) (word / 16) in
    let rest = (and_both (eqb (shown_row v r % 16) (word % 16)) (shows && eqb (c % 2) (half low)) e).1 in
    eqb-true (c % 2) (half low) (and_both shows (eqb (c % 2) (half low)) rest).1

pub graphic-place-is :
    (v : View) (y k : ℕ) (low : Bool) (r c : ℕ)
    → shows_graphic v y k low r c ≡ true
    → ((r + v.scroll) % 64 ≡ y) × (c ≡ 2 * k + half low)
unfolding shows_graphic shown_row
graphic-place-is v y k low r c e =
    let both = and_both (eqb ((r + v.scroll) % 64) y) (eqb c (2 * k + half low)) e in
    (eqb-true ((r + v.scroll) % 64) y both.0, eqb-true c (2 * k + half low) both.1)

-- one place in each pair of columns, one row in each sixteen
same-column : (k i j h : ℕ) → i < 2 → j < 2 → (k * 2 + i) % 2 ≡ h → (k * 2 + j) % 2 ≡ h → j < i + 1
same-column k i j h a b e f = omega arith

same-glyph-row :
    (x k i j y : ℕ) → i < 16 → j < 16 → (k * 16 + i + x) % 64 % 16 ≡ y → (k * 16 + j + x) % 64 % 16 ≡ y → j < i + 1
same-glyph-row x k i j y a b e f = omega arith

same_place :
    (x i j y a : ℕ) → i < 1024 → j < 1024 → (i / 32 + x) % 64 ≡ y → (j / 32 + x) % 64 ≡ y → i % 32 ≡ a → j % 32 ≡ a → j < i + 1
same_place x i j y a h g e f d b = omega arith

pub count-cell : (v : View) (word : ℕ) → count_on wide (in_cell v word) ≤ 32
unfolding in_cell shown_row
count-cell v word =
    count_in_rows (in_cell v word) (λ r. eqb ((r + v.scroll) % 64 / 16) (word / 16)) 2 16
    (λ r h q. count_window 32 2 (in_cell v word r)
    (λ i j l g e f. near-columns v.shift i j l g (cell-column v word r i e ∙ sym (cell-column v word r j f))))
    (λ r c q. off (eqb ((r + v.scroll) % 64 / 16) (word / 16)) _ q)
    (count_window 32 16 (λ r. eqb ((r + v.scroll) % 64 / 16) (word / 16))
    (λ r s h g e f. near-rows v.scroll r s h g (eqb-true _ (word / 16) e ∙ sym (eqb-true _ (word / 16) f))))

pub count-glyph : (v : View) (text : List ℕ) (word : ℕ) (low : Bool) → count_on wide (shows_glyph v text word low) ≤ 32
unfolding shows_glyph shown_row
count-glyph v text word low =
    count_in_rows (shows_glyph v text word low) (λ r. eqb ((r + v.scroll) % 64 % 16) (word % 16)) 16 2
    (λ r h q. count-rows 16 2 (shows_glyph v text word low r)
    (λ k i j l a b e f. same-column k i j (half low) a b (glyph-column v text word low r (k * 2 + i) e) (glyph-column v text word low r (k * 2 + j) f)))
    (λ r c q. off (eqb ((r + v.scroll) % 64 % 16) (word % 16)) _ q)
    (count-rows 2 16 (λ r. eqb ((r + v.scroll) % 64 % 16) (word % 16))
    (λ k i j l a b e f. same-glyph-row v.scroll k i j (word % 16) a b (eqb-true _ (word % 16) e) (eqb-true _ (word % 16) f)))

pub count-graphic : (v : View) (y k : ℕ) (low : Bool) → count_on wide (shows_graphic v y k low) ≤ 1
count-graphic v y k low =
    count_window 1024 1 (on wide (shows_graphic v y k low))
    (λ i j h g e f.
    let a = graphic-place-is v y k low (i / 32) (i % 32) e in
    let b = graphic-place-is v y k low (j / 32) (j % 32) f in
    same_place v.scroll i j y (2 * k + half low) h g a.0 b.0 a.1 b.1)

some-cell-count : (v : View) (cell : Option ℕ) → count_on wide (in_some_cell v cell) ≤ 32
some-cell-count v None = subst (λ (n : ℕ). n ≤ 32) (sym (count_none 1024 (on wide (in_some_cell v None)) (λ i h. refl))) (omega arith)
some-cell-count v (Some word) = count-cell v word

pub count_cells : (v : View) (text : List ℕ) (a b : Option ℕ) → count_on wide (covers v text (Cells a b)) ≤ 64
unfolding covers
count_cells v text a b =
    let sum = count_or_le 1024 (on wide (in_some_cell v a)) (on wide (in_some_cell v b)) in
    let first = some-cell-count v a in
    let second = some-cell-count v b in
    omega arith

at_most : {n k : ℕ} → n ≡ k → n ≤ k
at_most e = omega arith

-- every byte, and none
pub count-whole : (v : View) (text : List ℕ) → count_on wide (covers v text Whole) ≡ 1024
unfolding covers
count-whole v text = count-all 1024 (on wide (covers v text Whole)) (λ i h. refl)

pub count-nothing : (v : View) (text : List ℕ) → count_on wide (covers v text Nothing) ≡ 0
unfolding covers
count-nothing v text = count_none 1024 (on wide (covers v text Nothing)) (λ i h. refl)

-- whatever the region
pub count_most : (v : View) (text : List ℕ) (region : Region) → count_named wide v text region ≤ most_of region
unfolding count_named named covers
count_most v text Nothing = at_most (count-nothing v text)
count_most v text Whole = at_most (count-whole v text)
count_most v text (Cells a b) = count_cells v text a b
count_most v text (GlyphHalf word low) = count-glyph v text word low
count_most v text (GraphicHalf y k low) = count-graphic v y k low
