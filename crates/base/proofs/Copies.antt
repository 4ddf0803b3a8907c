-- Bytes laid one after the other: loops that paint every place in turn, one byte or two neighbours a turn, and blocks of them.
use Prim.Native.Nat.{ℕ, ◌+◌, ◌-◌, ◌<◌, ◌≤◌}
use mathlib.Core.Path.{◌≡◌, refl, sym, ap, ◌∙◌}
use mathlib.Core.List.{List}
use native.Mathlib.Omega.{arith}
use lib.ListN.{length, get_or, set}
use lib.Dec.{eqb}
use borrow.Author.Tests.{eqb-true, eq-eqb}
use Rattle.base.specs.Painting.{painted, everywhere, between}
use Rattle.base.specs.Lists.{upto}
use Rattle.base.proofs.Tests.{alike, never}
use Rattle.base.proofs.Lists.{upto_cong}
use Rattle.base.proofs.Painting.{painted-one, painted_same, painted-other, painted_cong, as_long}
use native.Mathlib.Nat.{add-zero}
use Rattle.base.proofs.Loops.{in_between, of-between, paint_begin, paint_step, paint_every, pair-painted, turn-pair}

turn_one : (n i : ℕ) → between n (n + 1) everywhere i ≡ eqb i n
turn_one n i =
    alike (between n (n + 1) everywhere i) (eqb i n)
    (λ e. let q = in_between n (n + 1) everywhere i e in eq-eqb i n (omega arith))
    (λ e. let z : i ≡ n = eqb-true i n e in of-between n (n + 1) everywhere i (omega arith) (omega arith) refl)

module _ (b : ℕ → ℕ) (f g : List ℕ) (a n m : ℕ) (begun : a ≤ n) (c : g ≡ painted (between a n everywhere) b f) where
  same_length : length g ≡ length f
  same_length = as_long _ _ f g c

  -- one byte further
  pub one_further : (v : ℕ) → n < length f → m ≡ n + 1 → v ≡ b n → set g n v ≡ painted (between a m everywhere) b f
  one_further v k next e =
      rw (next, e)
      (paint_step everywhere b f g (set g n (b n)) a n (n + 1) begun (omega arith) c
      (painted-one n b g (rw same_length k) ∙ painted_same (λ i. eqb i n) (between n (n + 1) everywhere) b g (λ i z. sym (turn_one n i))))

  -- two bytes further
  pub two_further : (v w : ℕ) → n + 1 < length f → m ≡ n + 2 → v ≡ b n → w ≡ b (n + 1) → set (set g n v) (n + 1) w ≡ painted (between a m everywhere) b f
  two_further v w k next e d =
      rw (next, e, d)
      (paint_step everywhere b f g (set (set g n (b n)) (n + 1) (b (n + 1))) a n (n + 2) begun (omega arith) c
      (pair-painted n b g (rw same_length k) ∙ painted_same _ (between n (n + 2) everywhere) b g (λ i z. sym (turn-pair everywhere n refl refl i))))

-- before the first turn
pub none_yet : (b : ℕ → ℕ) (f : List ℕ) (a : ℕ) → f ≡ painted (between a (a + 0) everywhere) b f
none_yet b f a = rw (add-zero a) (paint_begin everywhere b f a)

-- a place that is not painted yet holds what it held
pub not_yet : (b : ℕ → ℕ) (f g : List ℕ) (a n : ℕ) → n < length f → g ≡ painted (between a n everywhere) b f → get_or g n 0 ≡ get_or f n 0
not_yet b f g a n l c =
    ap (λ (k : List ℕ). get_or k n 0) c
    ∙ painted-other _ b f n l (never _ (λ e. let q = in_between a n everywhere n e in omega arith))
