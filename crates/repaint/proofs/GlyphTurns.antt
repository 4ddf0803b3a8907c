-- The bytes that show a glyph half, as the loops pass them: in a row that shows the glyph row, one byte of each cell that shows the image.
use Prim.Native.Nat.{ℕ, ◌+◌, ◌*◌, ◌-◌, ◌/◌, ◌%◌, ◌<◌, ◌≤◌}
use mathlib.Core.Path.{◌≡◌, sym, ◌∙◌}
use mathlib.Core.Logic.{⊎_elim}
use mathlib.Core.Bool.{Bool, true, false, ◌&&◌, ◌||◌, true≢false}
use mathlib.Core.List.{List}
use native.Mathlib.Omega.{arith}
use lib.ListN.{length, set}
use lib.Dec.{eqb}
use borrow.Author.Tests.{eqb-true, eq-eqb}
use Rattle.base.specs.Layout.{on, rows, columns}
use Rattle.base.proofs.Tests.{alike, never, and_both, or_either, or_else}
use Rattle.base.proofs.Layouts.{only, in_rows_lem, of-rows, in_columns_lem, of-columns}
use Rattle.controller.specs.declared.View.{View}
use Rattle.controller.specs.Memories.{half}
use Rattle.controller.specs.Glass.{place_of, shown_row, shown_word, word_image, is_image}
use Rattle.controller.specs.Named.{shows_glyph}
use Rattle.controller.proofs.Halves.{half_le}
use Rattle.picture.specs.Picture.{wide}
use Rattle.picture.proofs.Wide.{wide-placed}
use Rattle.repaint.specs.Repaint.{painting, paints_on}
use Rattle.repaint.proofs.Paintings.{paints-none, paints-same, paints-both, paints-byte, columns_begin, columns_step}

-- the two rows of the glass that show a glyph row
sixteenths : (x : ℕ) → x % 16 ≡ x % 64 % 16
sixteenths x = omega arith

there_and_back_lem : (r scroll : ℕ) → scroll < 256 → r % 16 ≡ ((r + scroll) % 16 + 256 - scroll) % 16
there_and_back_lem r scroll h = omega arith

glyph-row-either : (word scroll r : ℕ) → scroll < 256 → r < 32 → (r + scroll) % 64 % 16 ≡ word % 16 → r % 16 ≡ (word % 16 + 256 - scroll) % 16
glyph-row-either word scroll r h l e = rw (← e, ← sixteenths (r + scroll)) (there_and_back_lem r scroll h)

module _ (v : View) (text : List ℕ) (word : ℕ) (low : Bool) where
  -- the bytes that show a half of a glyph word
  abbrev shown : ℕ → ℕ → Bool
  shown = shows_glyph v text word low

  module _ (row cell : ℕ) (same : (row + v.scroll) % 64 % 16 ≡ word % 16) where
    -- those of one cell, on one row
    abbrev turn : ℕ → ℕ → Bool
    turn = columns (2 * cell) (2 * cell + 2) (rows row (row + 1) shown)

    -- whether a byte of a cell shows the half
    in_cell_lem :
        (r c : ℕ)
        → r ≡ row
        → c / 2 ≡ cell
        → shown r c ≡ (is_image (word_image text (shown_word v row cell)) (word / 16) && eqb (c % 2) (half low))
    unfolding shows_glyph shown_row
    in_cell_lem r c x k = rw (x, k, eq-eqb ((row + v.scroll) % 64 % 16) (word % 16) same)

    in_turn : (r c : ℕ) → turn r c ≡ true → (r ≡ row) × (c / 2 ≡ cell) × (shown r c ≡ true)
    in_turn r c e =
        let q = in_columns_lem (rows row (row + 1) shown) (2 * cell) (2 * cell + 2) r c e in
        let w = in_rows_lem shown row (row + 1) r c q.2 in
        (omega arith, omega arith, w.2)

    pub glyph-cell-none :
        (b : ℕ → ℕ → ℕ) (f : List ℕ)
        → length f ≡ 1024
        → is_image (word_image text (shown_word v row cell)) (word / 16) ≡ false
        → painting 0 f ≡ paints_on wide turn b f
    glyph-cell-none b f size t =
        paints-none 1024 (on wide turn) (on wide b) f size
        (λ i l. never _ (λ e. let q = in_turn (i / 32) (i % 32) e in true≢false (sym q.2 ∙ in_cell_lem (i / 32) (i % 32) q.0 q.1 ∙ rw t)))

    one_byte_lem :
        (r c : ℕ)
        → is_image (word_image text (shown_word v row cell)) (word / 16) ≡ true
        → turn r c ≡ only row (2 * cell + half low) r c
    one_byte_lem r c t =
        let h : half low ≤ 1 = half_le low in
        alike (turn r c) (only row (2 * cell + half low) r c)
        (λ e.
        let q = in_turn r c e in
        let d : c / 2 ≡ cell = q.1 in
        let s : c % 2 ≡ half low = eqb-true _ _ ((rw t at (sym (in_cell_lem r c q.0 q.1))) ∙ q.2) in
        rw (eq-eqb r row q.0) (eq-eqb c (2 * cell + half low) (omega arith)))
        (λ e.
        let q = and_both (eqb r row) (eqb c (2 * cell + half low)) e in
        let x : r ≡ row = eqb-true _ _ q.0 in
        let y : c ≡ 2 * cell + half low = eqb-true _ _ q.1 in
        of-columns (rows row (row + 1) shown) (2 * cell) (2 * cell + 2) r c (omega arith) (omega arith)
        (of-rows shown row (row + 1) r c (omega arith) (omega arith) (in_cell_lem r c x (omega arith) ∙ rw (t, eq-eqb (c % 2) (half low) (omega arith)))))

    pub glyph-cell-one :
        (b : ℕ → ℕ → ℕ) (f g : List ℕ)
        → row < 32
        → cell < 16
        → length f ≡ 1024
        → is_image (word_image text (shown_word v row cell)) (word / 16) ≡ true
        → g ≡ set f (place_of row (2 * cell + half low)) (b row (2 * cell + half low))
        → painting 1 g ≡ paints_on wide turn b f
    glyph-cell-one b f g below cells size t e =
        let h : half low ≤ 1 = half_le low in
        paints-byte wide 32 32 place_of wide-placed turn b f g row (2 * cell + half low) size below (omega arith) (λ r c x y. one_byte_lem r c t) e

  -- the loop over the cells of a row
  module _ (b : ℕ → ℕ → ℕ) (row : ℕ) (f : List ℕ) where
    pub cells_begin : painting 0 f ≡ paints_on wide (columns 0 (2 * 0) (rows row (row + 1) shown)) b f
    cells_begin = columns_begin wide (rows row (row + 1) shown) b f 0

    pub cells_turn :
        (g h : List ℕ) (cell x y : ℕ)
        → painting x g ≡ paints_on wide (columns 0 (2 * cell) (rows row (row + 1) shown)) b f
        → painting y h ≡ paints_on wide (columns (2 * cell) (2 * cell + 2) (rows row (row + 1) shown)) b g
        → painting (x + y) h ≡ paints_on wide (columns 0 (2 * (cell + 1)) (rows row (row + 1) shown)) b f
    cells_turn g h cell x y c e =
        let next : 2 * (cell + 1) ≡ 2 * cell + 2 = omega arith in
        rw next (columns_step wide (rows row (row + 1) shown) b f g h 0 (2 * cell) (2 * cell + 2) x y (omega arith) (omega arith) c e)

    pub cells_end :
        (g : List ℕ) (cell x : ℕ)
        → cell ≡ 16
        → length f ≡ 1024
        → painting x g ≡ paints_on wide (columns 0 (2 * cell) (rows row (row + 1) shown)) b f
        → painting x g ≡ paints_on wide (rows row (row + 1) shown) b f
    cells_end g cell x k size e =
        e ∙ paints-same 1024 _ _ (on wide b) f size
        (λ i l. alike (columns 0 (2 * cell) (rows row (row + 1) shown) (i / 32) (i % 32)) (rows row (row + 1) shown (i / 32) (i % 32))
        (λ t. (in_columns_lem (rows row (row + 1) shown) 0 (2 * cell) (i / 32) (i % 32) t).2)
        (λ t. of-columns (rows row (row + 1) shown) 0 (2 * cell) (i / 32) (i % 32) (omega arith) (omega arith) t))

  -- the bytes of those two rows are all
  pub glyph-rows :
      (row x y : ℕ) (b : ℕ → ℕ → ℕ) (f g h : List ℕ)
      → row ≡ (word % 16 + 256 - v.scroll) % 16
      → v.scroll < 256
      → length f ≡ 1024
      → painting x g ≡ paints_on wide (rows row (row + 1) shown) b f
      → painting y h ≡ paints_on wide (rows (row + 16) (row + 16 + 1) shown) b g
      → painting (x + y) h ≡ paints_on wide shown b f
  unfolding shows_glyph shown_row
  glyph-rows row x y b f g h z scrolls size first second =
      let P : ℕ → ℕ → Bool = rows row (row + 1) shown in
      let Q : ℕ → ℕ → Bool = rows (row + 16) (row + 16 + 1) shown in
      paints-both 1024 (on wide P) (on wide Q) (on wide b) f g h x y
      (λ i. never _ (λ t. let q = and_both (P (i / 32) (i % 32)) (Q (i / 32) (i % 32)) t in
      let k = in_rows_lem shown row (row + 1) (i / 32) (i % 32) q.0 in
      let l = in_rows_lem shown (row + 16) (row + 16 + 1) (i / 32) (i % 32) q.1 in
      omega arith))
      first second
      ∙ paints-same 1024 (λ i. on wide P i || on wide Q i) (on wide shown) (on wide b) f size
      (λ i l. both (i / 32) (i % 32) (omega arith))
    where
      both : (r c : ℕ) → r < 32 → (rows row (row + 1) shown r c || rows (row + 16) (row + 16 + 1) shown r c) ≡ shown r c
      both r c below =
          alike (rows row (row + 1) shown r c || rows (row + 16) (row + 16 + 1) shown r c) (shown r c)
          (λ t. ⊎_elim
          (λ (p : rows row (row + 1) shown r c ≡ true). (in_rows_lem shown row (row + 1) r c p).2)
          (λ (p : rows (row + 16) (row + 16 + 1) shown r c ≡ true). (in_rows_lem shown (row + 16) (row + 16 + 1) r c p).2)
          (or_either _ _ t))
          (λ t. let q = and_both (eqb ((r + v.scroll) % 64 % 16) (word % 16)) _ t in
          let e : r % 16 ≡ row = glyph-row-either word v.scroll r scrolls below (eqb-true _ _ q.0) ∙ sym z in
          or_else (rows row (row + 1) shown r c) (rows (row + 16) (row + 16 + 1) shown r c)
          (λ n. let u : ¬ (r < row + 1) = (λ k. true≢false (sym (of-rows shown row (row + 1) r c (omega arith) k t) ∙ n)) in
          of-rows shown (row + 16) (row + 16 + 1) r c (omega arith) (omega arith) t))
