-- A cell painted row by row: a row of the glass that shows the word's line has the two bytes of one row of a cell, any other none.
use Prim.Native.Nat.{ℕ, ◌+◌, ◌*◌, ◌-◌, ◌/◌, ◌%◌, ◌<◌, ◌≤◌}
use mathlib.Core.Bool.{Bool, true}
use mathlib.Core.List.{List}
use mathlib.Core.Path.{◌≡◌, refl, ◌∙◌, sym}
use native.Mathlib.Omega.{arith}
use lib.Dec.{eqb, ltb}
use lib.ListN.{length}
use borrow.Author.Tests.{eqb-true, eq-eqb, ltb-true, ltb-false, lt-ltb}
use Rattle.base.proofs.Choice.{by_test}
use Rattle.base.specs.Layout.{on, painted_on, rows}
use Rattle.base.proofs.Tests.{alike, and_both, never}
use Rattle.base.proofs.Painting.{painted_same, painted_cong}
use Rattle.base.proofs.Counting.{count_cong}
use Rattle.base.proofs.Layouts.{in_rows_lem, of-rows}
use Rattle.controller.specs.declared.View.{View}
use Rattle.picture.specs.declared.Look.{Look}
use Rattle.controller.specs.Memories.{Memories}
use Rattle.controller.specs.Glass.{shown_row, shown_word}
use Rattle.controller.specs.Named.{in_cell}
use Rattle.base.specs.Lists.{upto}
use Rattle.picture.specs.Picture.{Fonts, byte_at, wide}
use Rattle.picture.specs.Tiles.{tile_byte, shown_by, in_cell_row}
use Rattle.tiles.proofs.Laid.{byte-shown-by}
use Rattle.picture.proofs.Wide.{cell-row-counted}
use Rattle.repaint.specs.Repaint.{ViewWithin, painting, paints_on, run_top, run_first, run_end, in_columns}
use Rattle.repaint.proofs.Records.{painting-both, painting-count, painting-frame}
use Rattle.repaint.proofs.Paintings.{paints-none, rows_step}

-- the cell that shows a word
pub cell-shows : (word shift : ℕ) → shift < 16 → ((word + 16 - shift) % 16 + shift) % 16 ≡ word % 16
cell-shows word shift h = omega arith

same-cell-column : (k cell shift word : ℕ) → k < 16 → cell < 16 → (k + shift) % 16 ≡ word % 16 → (cell + shift) % 16 ≡ word % 16 → k ≡ cell
same-cell-column k cell shift word h g e f = omega arith

-- one row of a cell, as a turn of the loop over its rows
row-turn : (row cell r c : ℕ) → in_cell_row row cell r c ≡ rows row (row + 1) (in_columns cell) r c
row-turn row cell r c =
    alike (in_cell_row row cell r c) (rows row (row + 1) (in_columns cell) r c)
    (λ e.
    let q = and_both (eqb r row) (eqb (c / 2) cell) e in
    let k : r ≡ row = eqb-true r row q.0 in
    of-rows (in_columns cell) row (row + 1) r c (omega arith) (omega arith) q.1)
    (λ e.
    let q = in_rows_lem (in_columns cell) row (row + 1) r c e in
    rw (eq-eqb r row (omega arith)) q.2)

pub cell-rows-turn : (b : ℕ → ℕ → ℕ) (first row cell : ℕ) (f g h : List ℕ) (x : ℕ) → row < 32 → cell < 16 → first ≤ row
    → painting x g ≡ paints_on wide (rows first row (in_columns cell)) b f
    → h ≡ painted_on wide (in_cell_row row cell) b g
    → painting (x + 2) h ≡ paints_on wide (rows first (row + 1) (in_columns cell)) b f
cell-rows-turn b first row cell f g h x below cells l c e =
    rows_step wide (in_columns cell) b f g h first row (row + 1) x 2 l (omega arith) c
    (painting-both
    (sym (cell-row-counted row cell below cells) ∙ count_cong 1024 _ _ (λ i k. row-turn row cell (i / 32) (i % 32)))
    (e ∙ painted_same _ _ (on wide b) g (λ i k. row-turn row cell (i / 32) (i % 32))))

-- which rows show a line
low_run : (t scroll line r : ℕ) → scroll < 64 → line < 4 → r < 32 → t ≡ (16 * line + 64 - scroll) % 64 → t < 32 → t ≤ r → r < t + 16 → (r + scroll) % 64 / 16 ≡ line
low_run t scroll line r a b d e f g h = omega arith

high_run : (t scroll line r : ℕ) → scroll < 64 → line < 4 → r < 32 → t ≡ (16 * line + 64 - scroll) % 64 → 32 ≤ t → r < t - 48 → (r + scroll) % 64 / 16 ≡ line
high_run t scroll line r a b d e f g = omega arith

in_low_run : (t scroll line r : ℕ) → scroll < 64 → line < 4 → r < 32 → t ≡ (16 * line + 64 - scroll) % 64 → t < 32 → (r + scroll) % 64 / 16 ≡ line → (t ≤ r) × (r < t + 16)
in_low_run t scroll line r a b d e f g = (omega arith, omega arith)

in_high_run : (t scroll line r : ℕ) → scroll < 64 → line < 4 → r < 32 → t ≡ (16 * line + 64 - scroll) % 64 → 32 ≤ t → (r + scroll) % 64 / 16 ≡ line → r < t - 48
in_high_run t scroll line r a b d e f g = omega arith

pub record Run (scroll line r first end : ℕ) : Type 0 where
  pub ordered : first ≤ end
  pub below : end ≤ 32
  pub shows : first ≤ r → r < end → (r + scroll) % 64 / 16 ≡ line
  pub within : (r + scroll) % 64 / 16 ≡ line → (first ≤ r) × (r < end)

pub runs : (scroll line r : ℕ) → scroll < 64 → line < 4 → r < 32 → Run scroll line r (run_first scroll line) (run_end scroll line)
unfolding run_first run_end
runs scroll line r s l h =
    by_test (ltb (run_top scroll line) 16)
    (λ p. let t : run_top scroll line < 16 = ltb-true _ _ p in
    rw (p, lt-ltb (run_top scroll line) 32 (omega arith)) (record {
      ordered = omega arith;
      below = omega arith;
      shows = λ a b. low_run (run_top scroll line) scroll line r s l h refl (omega arith) a b;
      within = λ e. in_low_run (run_top scroll line) scroll line r s l h refl (omega arith) e;
    }))
    (λ p. let t : 16 ≤ run_top scroll line = ltb-false _ _ p in
    by_test (ltb (run_top scroll line) 32)
    (λ q. let u : run_top scroll line < 32 = ltb-true _ _ q in
    rw (p, q) (record {
      ordered = omega arith;
      below = omega arith;
      shows = λ a b. low_run (run_top scroll line) scroll line r s l h refl u a (omega arith);
      within = λ e. let w = in_low_run (run_top scroll line) scroll line r s l h refl u e in (w.0, h);
    }))
    (λ q. let u : 32 ≤ run_top scroll line = ltb-false _ _ q in
    rw (p, q) (record {
      ordered = omega arith;
      below = omega arith;
      shows = λ a b. high_run (run_top scroll line) scroll line r s l h refl u b;
      within = λ e. (omega arith, in_high_run (run_top scroll line) scroll line r s l h refl u e);
    })))

module _ (v : View) (word cell : ℕ) (scrolls : v.scroll < 64) (words : word < 64) (cells : cell < 16) (here : (cell + v.shift) % 16 ≡ word % 16) where
  -- the rows of the run and the columns of the cell are the word's bytes
  pub run-named : (r c : ℕ) → r < 32 → c < 32 → rows (run_first v.scroll (word / 16)) (run_end v.scroll (word / 16)) (in_columns cell) r c ≡ in_cell v word r c
  unfolding in_cell shown_row
  run-named r c h g =
      let n = runs v.scroll (word / 16) r scrolls (omega arith) h in
      let first = run_first v.scroll (word / 16) in
      let end = run_end v.scroll (word / 16) in
      alike (rows first end (in_columns cell) r c) (in_cell v word r c)
      (λ e. let q = in_rows_lem (in_columns cell) first end r c e in
      let k : c / 2 ≡ cell = eqb-true _ _ q.2 in
      rw (eq-eqb _ (word / 16) (n.shows q.0 q.1), k) (eq-eqb ((cell + v.shift) % 16) (word % 16) here))
      (λ e. let q = and_both (eqb ((r + v.scroll) % 64 / 16) (word / 16)) (eqb ((c / 2 + v.shift) % 16) (word % 16)) e in
      let w = n.within (eqb-true _ _ q.0) in
      let k : c / 2 ≡ cell = same-cell-column (c / 2) cell v.shift word (omega arith) cells (eqb-true _ _ q.1) here in
      of-rows (in_columns cell) first end r c w.0 w.1 (eq-eqb (c / 2) cell k))

module _ (e : Fonts) (m : Memories) (look : Look) (word : ℕ) (range : ViewWithin look.view) (words : word < 64) (f : List ℕ) (size : length f ≡ 1024) where
  abbrev cell : ℕ
  cell = (word + 16 - look.view.shift) % 16

  -- the rows that show its line
  abbrev run : ℕ → ℕ → Bool
  run = rows (run_first look.view.scroll (word / 16)) (run_end look.view.scroll (word / 16)) (in_columns cell)

  named : (i : ℕ) → i < 1024 → on wide run i ≡ on wide (in_cell look.view word) i
  named i l = run-named look.view word cell range.scroll words (omega arith) (cell-shows word look.view.shift range.shift) (i / 32) (i % 32) (omega arith) (omega arith)

  -- the word that a byte of the cell shows
  its_word : (row column : ℕ) → in_cell look.view word row column ≡ true → word ≡ shown_word look.view row (column / 2)
  unfolding in_cell shown_word
  its_word row column t =
      let q = and_both (eqb (shown_row look.view row / 16) (word / 16)) (eqb ((column / 2 + look.view.shift) % 16) (word % 16)) t in
      let a : shown_row look.view row / 16 ≡ word / 16 = eqb-true _ _ q.0 in
      let b : (column / 2 + look.view.shift) % 16 ≡ word % 16 = eqb-true _ _ q.1 in
      omega arith

  -- a cell painted by its tile
  pub word-painted : (tile g : List ℕ) (n : ℕ)
      → tile ≡ upto 32 (tile_byte e m.text m.glyph look word)
      → painting n g ≡ paints_on wide run (shown_by tile m.graphic look) f
      → painting n g ≡ paints_on wide (in_cell look.view word) (byte_at e m look) f
  word-painted tile g n t p =
      painting-both
      (painting-count p ∙ count_cong 1024 _ _ named)
      (painting-frame p ∙ painted_cong _ _ _ _ f (λ i l. named i (omega arith))
      (λ i l u. byte-shown-by e m look tile word (i / 32) (i % 32) t (its_word (i / 32) (i % 32) (sym (named i (omega arith)) ∙ u))))

  -- a cell that does not show
  pub word_hidden : (b : ℕ → ℕ → ℕ) → run_end look.view.scroll (word / 16) ≤ run_first look.view.scroll (word / 16) → painting 0 f ≡ paints_on wide (in_cell look.view word) b f
  word_hidden b z =
      paints-none 1024 (on wide (in_cell look.view word)) (on wide b) f size
      (λ i l. sym (named i l) ∙ never _ (λ t. let q = in_rows_lem (in_columns cell) (run_first look.view.scroll (word / 16)) (run_end look.view.scroll (word / 16)) (i / 32) (i % 32) t in omega arith))
