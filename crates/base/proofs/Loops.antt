-- Painting loops: turn by turn from place to place, each turn painting the named places that it passes.
use Prim.Native.Nat.{ℕ, ◌+◌, ◌<◌, ◌≤◌}
use mathlib.Core.Path.{◌≡◌, refl, sym, ap, ◌∙◌}
use mathlib.Core.Logic.{◌≢◌, ⊎_elim}
use mathlib.Core.Bool.{Bool, true, false, ◌&&◌, ◌||◌, true≢false}
use mathlib.Core.List.{List}
use native.Mathlib.Omega.{arith}
use lib.ListN.{length, set}
use lib.Dec.{eqb, leb, ltb}
use borrow.Author.Tests.{eqb-true, eqb-false, eq-eqb, ltb-true, leb-true, lt-ltb, le-leb}
use Rattle.base.specs.Lists.{upto}
use Rattle.base.specs.Painting.{painted, everywhere, between}
use Rattle.base.proofs.Tests.{alike, never, and_both, or_either, or_else}
use Rattle.base.proofs.Painting.{painted_same, painted-none, painted-one, painted_or, painted-all, painted-length}

pub in_between : (low high : ℕ) (P : ℕ → Bool) (i : ℕ) → between low high P i ≡ true → (low ≤ i) × (i < high) × (P i ≡ true)
unfolding between
in_between low high P i e =
    let x = and_both (leb low i && ltb i high) (P i) e in
    let y = and_both (leb low i) (ltb i high) x.0 in
    (leb-true low i y.0, ltb-true i high y.1, x.1)

pub of-between : (low high : ℕ) (P : ℕ → Bool) (i : ℕ) → low ≤ i → i < high → P i ≡ true → between low high P i ≡ true
unfolding between
of-between low high P i l h e = rw (le-leb low i l, lt-ltb i high h, e)

module _ (P : ℕ → Bool) where
  pub between_none : (n i : ℕ) → between n n P i ≡ false
  between_none n i = never _ (λ e. let q = in_between n n P i e in omega arith)

  pub between_join : (a n m i : ℕ) → a ≤ n → n ≤ m → between a m P i ≡ (between a n P i || between n m P i)
  between_join a n m i l h =
      alike (between a m P i) (between a n P i || between n m P i)
      (λ e. let q = in_between a m P i e in
      or_else (between a n P i) (between n m P i)
      (λ d. let k : ¬ (i < n) = (λ z. true≢false (sym (of-between a n P i q.0 z q.2) ∙ d)) in of-between n m P i (omega arith) q.1 q.2))
      (λ e. ⊎_elim
      (λ (x : between a n P i ≡ true). let q = in_between a n P i x in of-between a m P i q.0 (omega arith) q.2)
      (λ (x : between n m P i ≡ true). let q = in_between n m P i x in of-between a m P i (omega arith) q.1 q.2)
      (or_either (between a n P i) (between n m P i) e))

  pub between-apart : (a n m i : ℕ) → (between a n P i && between n m P i) ≡ false
  between-apart a n m i =
      never _ (λ e. let q = and_both (between a n P i) (between n m P i) e in
      let x = in_between a n P i q.0 in
      let y = in_between n m P i q.1 in
      omega arith)

  pub between-all : (n i : ℕ) → i < n → between 0 n P i ≡ P i
  between-all n i h = alike (between 0 n P i) (P i) (λ e. (in_between 0 n P i e).2) (λ e. of-between 0 n P i (omega arith) h e)

  -- the frame f painted with the bytes b from place a on: before the first turn, after one more turn, after the last
  module _ (b : ℕ → ℕ) (f : List ℕ) where
    pub paint_begin : (a : ℕ) → f ≡ painted (between a a P) b f
    paint_begin a = sym (painted-none _ b f (λ i l. between_none a i))

    pub paint_step : (g h : List ℕ) (a n m : ℕ) → a ≤ n → n ≤ m → g ≡ painted (between a n P) b f → h ≡ painted (between n m P) b g
        → h ≡ painted (between a m P) b f
    paint_step g h a n m k l c e =
        e ∙ ap (painted (between n m P) b) c ∙ painted_or (between a n P) (between n m P) b f
        ∙ sym (painted_same _ _ b f (λ i z. between_join a n m i k l))

    pub paint_end : (g : List ℕ) (n : ℕ) → length f ≤ n → g ≡ painted (between 0 n P) b f → g ≡ painted P b f
    paint_end g n l c = c ∙ painted_same (between 0 n P) P b f (λ i h. between-all n i (omega arith))

-- two neighbours, stored one after the other
pub pair-painted : (a : ℕ) (b : ℕ → ℕ) (f : List ℕ) → a + 1 < length f
    → set (set f a (b a)) (a + 1) (b (a + 1)) ≡ painted (λ i. eqb i a || eqb i (a + 1)) b f
pair-painted a b f h =
    ap (λ (g : List ℕ). set g (a + 1) (b (a + 1))) (painted-one a b f (omega arith))
    ∙ painted-one (a + 1) b (painted (λ i. eqb i a) b f) (rw painted-length h) ∙ painted_or (λ i. eqb i a) (λ i. eqb i (a + 1)) b f

-- a turn that passes two neighbours, both named
pub turn-pair : (P : ℕ → Bool) (a : ℕ) → P a ≡ true → P (a + 1) ≡ true → (i : ℕ) → between a (a + 2) P i ≡ (eqb i a || eqb i (a + 1))
turn-pair P a x y i =
    alike (between a (a + 2) P i) (eqb i a || eqb i (a + 1))
    (λ e. let q = in_between a (a + 2) P i e in or_else (eqb i a) (eqb i (a + 1)) (λ d. let n : i ≢ a = eqb-false i a d in eq-eqb i (a + 1) (omega arith)))
    (λ e. ⊎_elim
    (λ (d : eqb i a ≡ true). let z : i ≡ a = eqb-true i a d in of-between a (a + 2) P i (omega arith) (omega arith) (rw z x))
    (λ (d : eqb i (a + 1) ≡ true). let z : i ≡ a + 1 = eqb-true i (a + 1) d in of-between a (a + 2) P i (omega arith) (omega arith) (rw z y))
    (or_either (eqb i a) (eqb i (a + 1)) e))

-- a loop that paints every place leaves nothing of the frame
pub paint_every : (b : ℕ → ℕ) (f g : List ℕ) (n : ℕ) → length f ≡ n → g ≡ painted (between 0 n everywhere) b f → g ≡ upto n b
paint_every b f g n l c = paint_end everywhere b f g n (omega arith) c ∙ painted-all everywhere b n f l (λ i h. refl)
