-- The wide glass: the byte of each of 32 rows and 32 columns has its place, two bytes of a row lie side by side; and a row of a cell is two bytes.
use Prim.Native.Nat.{ℕ, ◌+◌, ◌*◌, ◌/◌, ◌%◌, ◌<◌}
use mathlib.Core.Path.{◌≡◌, refl, sym, ap, ◌∙◌}
use mathlib.Core.Logic.{◌≢◌, ⊎_elim}
use mathlib.Core.Bool.{true}
use mathlib.Core.List.{List}
use native.Mathlib.Omega.{arith}
use lib.ListN.{length, get_or}
use lib.Dec.{eqb}
use borrow.Author.Tests.{eqb-true, eqb-false, eq-eqb}
use Rattle.base.specs.Painting.{everywhere, between}
use Rattle.base.specs.Layout.{Layout, on, whole_on, painted_on, count_on}
use Rattle.base.proofs.Tests.{alike, and_both, or_either, or_else}
use Rattle.base.proofs.Lists.{get_or-upto}
use Rattle.base.proofs.Counting.{count_cong}
use Rattle.base.proofs.Painting.{painted_same, painted-none, painted_or, painted-all, as_long}
use Rattle.base.proofs.Loops.{in_between, of-between}
use Rattle.base.proofs.Layouts.{Placed, pair, only, in_rows_lem, of-rows, rows_none, rows_join, pair-stored, pair-counted}
use Rattle.controller.specs.Memories.{Memories}
use Rattle.controller.specs.Glass.{place_of}
use Rattle.picture.specs.declared.Look.{Look}
use Rattle.picture.specs.Picture.{Fonts, byte_at, wide, picture}
use Rattle.picture.specs.Tiles.{in_rows, pair_stored, in_cell_row}

pub wide-placed : Placed wide 32 32 place_of
wide-placed =
    record {
      inside = λ r c h k. omega arith;
      row-at = λ r c h k. omega arith;
      column-at = λ r c h k. omega arith;
      back = λ i h. omega arith;
      row_within = λ i h. omega arith;
      column-within = λ i h. omega arith;
    }

-- each byte of the picture is that of its row and column
pub picture-at : (l : Layout) (e : Fonts) (m : Memories) (look : Look) (i : ℕ) → i < l.size → get_or (picture l e m look) i 0 ≡ on l (byte_at e m look) i
unfolding picture
picture-at l e m look i h = get_or-upto l.size _ i h

-- one row of a cell is two bytes
pub cell-row-pair : (row cell r c : ℕ) → pair row (2 * cell) r c ≡ in_cell_row row cell r c
cell-row-pair row cell r c =
    alike (pair row (2 * cell) r c) (in_cell_row row cell r c)
    (λ e. ⊎_elim
    (λ (d : only row (2 * cell) r c ≡ true). let q = and_both (eqb r row) (eqb c (2 * cell)) d in
    let k : c ≡ 2 * cell = eqb-true _ _ q.1 in
    rw q.0 (eq-eqb (c / 2) cell (omega arith)))
    (λ (d : only row (2 * cell + 1) r c ≡ true). let q = and_both (eqb r row) (eqb c (2 * cell + 1)) d in
    let k : c ≡ 2 * cell + 1 = eqb-true _ _ q.1 in
    rw q.0 (eq-eqb (c / 2) cell (omega arith)))
    (or_either _ _ e))
    (λ e. let q = and_both (eqb r row) (eqb (c / 2) cell) e in
    let k : c / 2 ≡ cell = eqb-true _ _ q.1 in
    rw q.0 (or_else (eqb c (2 * cell)) (eqb c (2 * cell + 1)) (λ d. let n : c ≢ 2 * cell = eqb-false _ _ d in eq-eqb c (2 * cell + 1) (omega arith))))

-- its two bytes stored, and counted
pub cell-row-painted : (f : ℕ → ℕ → ℕ) (row cell : ℕ) (l : List ℕ) → row < 32 → cell < 16 → length l ≡ 1024
    → pair_stored l (place_of row (2 * cell)) (record { left = f row (2 * cell); right = f row (2 * cell + 1) }) ≡ painted_on wide (in_cell_row row cell) f l
cell-row-painted f row cell l h k size =
    pair-stored wide 32 32 place_of wide-placed row (2 * cell) h (omega arith) (omega arith) f l size
    ∙ painted_same _ _ (on wide f) l (λ i z. cell-row-pair row cell (i / 32) (i % 32))

pub cell-row-counted : (row cell : ℕ) → row < 32 → cell < 16 → count_on wide (in_cell_row row cell) ≡ 2
cell-row-counted row cell h k =
    sym (count_cong 1024 _ _ (λ i z. cell-row-pair row cell (i / 32) (i % 32)))
    ∙ pair-counted wide 32 32 place_of wide-placed row (2 * cell) h (omega arith) (omega arith)

-- rows of the glass that follow one another lie one after the other in the frame
pub rows_lie : (first end i : ℕ) → between (32 * first) (32 * end) everywhere i ≡ on wide (in_rows first end) i
rows_lie first end i =
    alike (between (32 * first) (32 * end) everywhere i) (on wide (in_rows first end) i)
    (λ e. let q = in_between (32 * first) (32 * end) everywhere i e in of-rows (λ r c. true) first end (i / 32) (i % 32) (omega arith) (omega arith) refl)
    (λ e. let q = in_rows_lem (λ r c. true) first end (i / 32) (i % 32) e in of-between (32 * first) (32 * end) everywhere i (omega arith) (omega arith) refl)

-- no band yet, one further, and the last
pub bands_begin : (b : ℕ → ℕ → ℕ) (f : List ℕ) → f ≡ painted_on wide (in_rows 0 0) b f
bands_begin b f = sym (painted-none _ (on wide b) f (λ i h. rows_none (λ r c. true) 0 (i / 32) (i % 32)))

pub bands_turn : (b : ℕ → ℕ → ℕ) (row end : ℕ) (f g h : List ℕ) → row < end → g ≡ painted_on wide (in_rows 0 row) b f
    → h ≡ painted_on wide (in_rows row end) b g → (length h ≡ length g) × (h ≡ painted_on wide (in_rows 0 end) b f)
bands_turn b row end f g h l c e = (
  as_long _ _ g h e,
  e ∙ ap (painted_on wide (in_rows row end) b) c ∙ painted_or (on wide (in_rows 0 row)) (on wide (in_rows row end)) (on wide b) f
      ∙ sym (painted_same _ _ (on wide b) f (λ i z. rows_join (λ r c. true) 0 row end (i / 32) (i % 32) (omega arith) (omega arith))),
)

pub bands_end : (b : ℕ → ℕ → ℕ) (row : ℕ) (f g : List ℕ) → row ≡ 32 → length f ≡ 1024 → g ≡ painted_on wide (in_rows 0 row) b f → g ≡ whole_on wide b
bands_end b row f g k size c =
    c ∙ painted-all _ (on wide b) 1024 f size (λ i h. of-rows (λ r c. true) 0 row (i / 32) (i % 32) (omega arith) (omega arith) refl)
