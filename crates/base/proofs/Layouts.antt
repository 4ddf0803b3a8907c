-- Sets of bytes by their rows and columns, on any layout; and one byte, or two side by side, by the place of its row and column.
use Prim.Native.Nat.{ℕ, ◌+◌, ◌<◌, ◌≤◌}
use mathlib.Core.Path.{◌≡◌, refl, sym, ap, ap₂, ◌∙◌}
use mathlib.Core.Bool.{Bool, true, false, ◌&&◌, ◌||◌}
use mathlib.Core.List.{List}
use native.Mathlib.Omega.{arith}
use lib.ListN.{length, set}
use lib.Dec.{eqb}
use borrow.Author.Tests.{eqb-true, eq-eqb}
use Rattle.base.specs.Layout.{Layout, on, whole_on, painted_on, count_on, rows, columns}
use Rattle.base.proofs.Tests.{alike, never, and_both}
use Rattle.base.proofs.Counting.{count_cong, count-one, count_disjoint}
use Rattle.base.proofs.Painting.{painted-length, painted_same, painted-one, painted_or, painted_old}
use Rattle.base.proofs.Loops.{in_between, of-between, between_none, between_join, between-apart}

-- rows of a set, and columns: none, some more, and never the same twice
module _ (P : ℕ → ℕ → Bool) where
  pub rows_none : (n r c : ℕ) → rows n n P r c ≡ false
  rows_none n r c = between_none (λ x. P x c) n r

  pub rows_join : (a n m r c : ℕ) → a ≤ n → n ≤ m → rows a m P r c ≡ (rows a n P r c || rows n m P r c)
  rows_join a n m r c k l = between_join (λ x. P x c) a n m r k l

  pub rows_apart : (a n m r c : ℕ) → (rows a n P r c && rows n m P r c) ≡ false
  rows_apart a n m r c = between-apart (λ x. P x c) a n m r

  pub in_rows_lem : (first end r c : ℕ) → rows first end P r c ≡ true → (first ≤ r) × (r < end) × (P r c ≡ true)
  in_rows_lem first end r c e = in_between first end (λ x. P x c) r e

  pub of-rows : (first end r c : ℕ) → first ≤ r → r < end → P r c ≡ true → rows first end P r c ≡ true
  of-rows first end r c l h e = of-between first end (λ x. P x c) r l h e

  pub columns-none : (n r c : ℕ) → columns n n P r c ≡ false
  columns-none n r c = between_none (P r) n c

  pub columns-join : (a n m r c : ℕ) → a ≤ n → n ≤ m → columns a m P r c ≡ (columns a n P r c || columns n m P r c)
  columns-join a n m r c k l = between_join (P r) a n m c k l

  pub columns-apart : (a n m r c : ℕ) → (columns a n P r c && columns n m P r c) ≡ false
  columns-apart a n m r c = between-apart (P r) a n m c

  pub in_columns_lem : (first end r c : ℕ) → columns first end P r c ≡ true → (first ≤ c) × (c < end) × (P r c ≡ true)
  in_columns_lem first end r c e = in_between first end (P r) c e

  pub of-columns : (first end r c : ℕ) → first ≤ c → c < end → P r c ≡ true → columns first end P r c ≡ true
  of-columns first end r c l h e = of-between first end (P r) c l h e

-- one byte
abbrev pub only : ℕ → ℕ → ℕ → ℕ → Bool
only row column r c = eqb r row && eqb c column

-- and the next in its row
abbrev pub pair : ℕ → ℕ → ℕ → ℕ → Bool
pair row column r c = only row column r c || only row (column + 1) r c

only-apart : (row column r c : ℕ) → (only row column r c && only row (column + 1) r c) ≡ false
only-apart row column r c =
    never _ (λ e. let q = and_both (only row column r c) (only row (column + 1) r c) e in
    let x : c ≡ column = eqb-true c column (and_both (eqb r row) (eqb c column) q.0).1 in
    let y : c ≡ column + 1 = eqb-true c (column + 1) (and_both (eqb r row) (eqb c (column + 1)) q.1).1 in
    omega arith)

-- the way back: the byte of a row and a column, on a glass of so many of them, lies at one place of the frame, and every place has one
pub record Placed (l : Layout) (height width : ℕ) (place : ℕ → ℕ → ℕ) : Type 0 where
  pub inside : (r c : ℕ) → r < height → c < width → place r c < l.size
  pub row-at : (r c : ℕ) → r < height → c < width → l.row (place r c) ≡ r
  pub column-at : (r c : ℕ) → r < height → c < width → l.column (place r c) ≡ c
  pub back : (i : ℕ) → i < l.size → place (l.row i) (l.column i) ≡ i
  pub row_within : (i : ℕ) → i < l.size → l.row i < height
  pub column-within : (i : ℕ) → i < l.size → l.column i < width

module _ (l : Layout) (height width : ℕ) (place : ℕ → ℕ → ℕ) (placed : Placed l height width place) where
  pub at_place : {A : Type 0} (f : ℕ → ℕ → A) (r c : ℕ) → r < height → c < width → on l f (place r c) ≡ f r c
  at_place f r c h k = ap₂ f (placed.row-at r c h k) (placed.column-at r c h k)

  -- a frame that showed the old bytes shows the new ones, if those that are not named are the old ones
  pub repainted-whole : (P : ℕ → ℕ → Bool) (b old : ℕ → ℕ → ℕ)
      → ((r c : ℕ) → r < height → c < width → P r c ≡ false → b r c ≡ old r c) → painted_on l P b (whole_on l old) ≡ whole_on l b
  repainted-whole P b old e =
      painted_old (on l P) (on l b) (on l old) l.size (λ i h u. e (l.row i) (l.column i) (placed.row_within i h) (placed.column-within i h) u)

  module _ (row column : ℕ) (below : row < height) (within : column < width) where
    its_place : (i : ℕ) → i < l.size → eqb i (place row column) ≡ on l (only row column) i
    its_place i h =
        alike (eqb i (place row column)) (on l (only row column) i)
        (λ e. let z : i ≡ place row column = eqb-true i (place row column) e in
        rw (z, placed.row-at row column below within, placed.column-at row column below within, eq-eqb row row refl) (eq-eqb column column refl))
        (λ e. let q = and_both (eqb (l.row i) row) (eqb (l.column i) column) e in
        let r : l.row i ≡ row = eqb-true (l.row i) row q.0 in
        let c : l.column i ≡ column = eqb-true (l.column i) column q.1 in
        eq-eqb i (place row column) (sym (placed.back i h) ∙ ap₂ place r c))

    -- one byte stored is one byte painted
    pub byte-painted : (b : ℕ → ℕ → ℕ) (f : List ℕ) → length f ≡ l.size → set f (place row column) (b row column) ≡ painted_on l (only row column) b f
    byte-painted b f size =
        let h : place row column < l.size = placed.inside row column below within in
        ap (set f (place row column)) (sym (at_place b row column below within))
        ∙ painted-one (place row column) (on l b) f (omega arith)
        ∙ painted_same _ _ (on l b) f (λ i k. its_place i (omega arith))

    pub byte-counted : count_on l (only row column) ≡ 1
    byte-counted = sym (count_cong l.size _ _ its_place) ∙ count-one l.size (place row column) (placed.inside row column below within)

  -- two bytes that lie side by side
  module _ (row column : ℕ) (below : row < height) (within : column + 1 < width) (beside : place row (column + 1) ≡ place row column + 1) where
    pub pair-stored : (b : ℕ → ℕ → ℕ) (f : List ℕ) → length f ≡ l.size
        → set (set f (place row column) (b row column)) (place row column + 1) (b row (column + 1)) ≡ painted_on l (pair row column) b f
    pair-stored b f size =
        let first : set f (place row column) (b row column) ≡ painted_on l (only row column) b f = byte-painted row column below (omega arith) b f size in
        let g : List ℕ = painted_on l (only row column) b f in
        ap₂ (λ (k : List ℕ) (n : ℕ). set k n (b row (column + 1))) first (sym beside)
        ∙ byte-painted row (column + 1) below within b g (painted-length _ _ f ∙ size)
        ∙ painted_or (on l (only row column)) (on l (only row (column + 1))) (on l b) f

    pub pair-counted : count_on l (pair row column) ≡ 2
    pair-counted =
        count_disjoint l.size (on l (only row column)) (on l (only row (column + 1))) (λ i h. only-apart row column (l.row i) (l.column i))
        ∙ ap₂ ◌+◌ (byte-counted row column below (omega arith)) (byte-counted row (column + 1) below within)
