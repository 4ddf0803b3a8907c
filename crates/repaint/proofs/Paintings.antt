-- Painting with the count: the laws of painting and of counting, side by side.
use Prim.Native.Nat.{ℕ, ◌+◌, ◌<◌, ◌≤◌}
use mathlib.Core.Path.{◌≡◌, sym, ap, ap₂, ◌∙◌, subst}
use mathlib.Core.Bool.{Bool, false, ◌&&◌, ◌||◌}
use mathlib.Core.List.{List}
use native.Mathlib.Omega.{arith}
use lib.ListN.{length, set}
use Rattle.base.specs.Painting.{painted}
use Rattle.base.specs.Layout.{Layout, on, rows, columns}
use Rattle.base.proofs.Counting.{count_cong, count_none, count_le, count_disjoint}
use Rattle.base.proofs.Painting.{painted_same, painted-none, painted_or}
use Rattle.base.proofs.Layouts.{Placed, only, rows_none, rows_join, rows_apart, columns-none, columns-join, columns-apart, byte-painted, byte-counted}
use Rattle.repaint.specs.Repaint.{painting, paints, paints_on}
use Rattle.repaint.proofs.Records.{painting-both, painting-count, painting-frame}

module _ (s : ℕ) where
  -- at most every byte is counted
  pub paints_le : (P : ℕ → Bool) (b : ℕ → ℕ) (f g : List ℕ) (n : ℕ) → painting n g ≡ paints s P b f → n ≤ s
  paints_le P b f g n e = subst (λ (k : ℕ). k ≤ s) (sym (painting-count e)) (count_le s P)

  -- no place is named
  pub paints-none : (P : ℕ → Bool) (b : ℕ → ℕ) (f : List ℕ) → length f ≡ s → ((i : ℕ) → i < s → P i ≡ false) → painting 0 f ≡ paints s P b f
  paints-none P b f size h = painting-both (sym (count_none s P h)) (sym (painted-none P b f (λ i l. h i (omega arith))))

  -- the same set, said in another way
  pub paints-same : (P Q : ℕ → Bool) (b : ℕ → ℕ) (f : List ℕ) → length f ≡ s → ((i : ℕ) → i < s → P i ≡ Q i) → paints s P b f ≡ paints s Q b f
  paints-same P Q b f size e = painting-both (count_cong s P Q e) (painted_same P Q b f (λ i h. e i (omega arith)))

  -- two sets that have no place in common, one after the other
  pub paints-both :
      (P Q : ℕ → Bool) (b : ℕ → ℕ) (f g h : List ℕ) (n k : ℕ)
      → ((i : ℕ) → (P i && Q i) ≡ false)
      → painting n g ≡ paints s P b f
      → painting k h ≡ paints s Q b g
      → painting (n + k) h ≡ paints s (λ i. P i || Q i) b f
  paints-both P Q b f g h n k apart first second =
      painting-both
      (ap₂ ◌+◌ (painting-count first) (painting-count second) ∙ sym (count_disjoint s P Q (λ i l. apart i)))
      (painting-frame second ∙ ap (painted Q b) (painting-frame first) ∙ painted_or P Q b f)

  -- a set in two parts
  pub paints-parts :
      (P Q R : ℕ → Bool) (b : ℕ → ℕ) (f g h : List ℕ) (n k : ℕ)
      → ((i : ℕ) → R i ≡ (P i || Q i))
      → ((i : ℕ) → (P i && Q i) ≡ false)
      → painting n g ≡ paints s P b f
      → painting k h ≡ paints s Q b g
      → painting (n + k) h ≡ paints s R b f
  paints-parts P Q R b f g h n k parts apart first second =
      paints-both P Q b f g h n k apart first second
      ∙ sym (painting-both (count_cong s R _ (λ i l. parts i)) (painted_same R _ b f (λ i l. parts i)))

-- row by row, and column by column, on any layout: before the first, and further
module _ (l : Layout) (P : ℕ → ℕ → Bool) (b : ℕ → ℕ → ℕ) (f : List ℕ) where
  pub rows_begin : (n : ℕ) → painting 0 f ≡ paints_on l (rows n n P) b f
  rows_begin n =
      painting-both (sym (count_none l.size _ (λ i h. rows_none P n (l.row i) (l.column i))))
      (sym (painted-none _ (on l b) f (λ i h. rows_none P n (l.row i) (l.column i))))

  pub rows_step : (g h : List ℕ) (a n m x y : ℕ) → a ≤ n → n ≤ m → painting x g ≡ paints_on l (rows a n P) b f
      → painting y h ≡ paints_on l (rows n m P) b g → painting (x + y) h ≡ paints_on l (rows a m P) b f
  rows_step g h a n m x y k z c e =
      paints-parts l.size (on l (rows a n P)) (on l (rows n m P)) (on l (rows a m P)) (on l b) f g h x y
      (λ i. rows_join P a n m (l.row i) (l.column i) k z) (λ i. rows_apart P a n m (l.row i) (l.column i)) c e

  pub columns_begin : (n : ℕ) → painting 0 f ≡ paints_on l (columns n n P) b f
  columns_begin n =
      painting-both (sym (count_none l.size _ (λ i h. columns-none P n (l.row i) (l.column i))))
      (sym (painted-none _ (on l b) f (λ i h. columns-none P n (l.row i) (l.column i))))

  pub columns_step : (g h : List ℕ) (a n m x y : ℕ) → a ≤ n → n ≤ m → painting x g ≡ paints_on l (columns a n P) b f
      → painting y h ≡ paints_on l (columns n m P) b g → painting (x + y) h ≡ paints_on l (columns a m P) b f
  columns_step g h a n m x y k z c e =
      paints-parts l.size (on l (columns a n P)) (on l (columns n m P)) (on l (columns a m P)) (on l b) f g h x y
      (λ i. columns-join P a n m (l.row i) (l.column i) k z) (λ i. columns-apart P a n m (l.row i) (l.column i)) c e

-- one byte
pub paints-byte :
    (l : Layout) (height width : ℕ) (place : ℕ → ℕ → ℕ) → Placed l height width place
    → (P : ℕ → ℕ → Bool) (b : ℕ → ℕ → ℕ) (f g : List ℕ) (row column : ℕ)
    → length f ≡ l.size
    → row < height
    → column < width
    → ((r c : ℕ) → r < height → c < width → P r c ≡ only row column r c)
    → g ≡ set f (place row column) (b row column)
    → painting 1 g ≡ paints_on l P b f
paints-byte l height width place placed P b f g row column size below within is e =
    painting-both (sym (byte-counted l height width place placed row column below within)) (e ∙ byte-painted l height width place placed row column below within b f size)
    ∙ sym (paints-same l.size (on l P) (on l (only row column)) (on l b) f size
    (λ i h. is (l.row i) (l.column i) (placed.row_within i h) (placed.column-within i h)))
