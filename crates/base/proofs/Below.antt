-- A fact of each number below a bound, from one proof for each.
use Prim.Native.Nat.{ℕ, zero, suc, ◌+◌, ◌<◌}
use mathlib.Core.Path.{subst, sym, ◌∙◌}
use native.Mathlib.Nat.{add-zero, zero-add, add-suc, suc-add, le_of_suc-le-suc, not-suc-le-zero}

-- n proofs, from i on
abbrev pub From : (ℕ → Type 0) → ℕ → ℕ → Type 0
From P i zero = Unit {0}
From P i (suc n) = P i × From P (suc i) n

-- one proof, and those after it
infixr 5 ◌&◌
abbrev pub ◌&◌ : {A B : Type 0} → A → B → A × B
◌&◌ a b = (a, b)

at_place : (P : ℕ → Type 0) (i n : ℕ) → From P i n → (k : ℕ) → k < n → P (i + k)
at_place P i zero t k h = absurd (not-suc-le-zero h)
at_place P i (suc n) t zero h = subst P (sym (add-zero i)) t.0
at_place P i (suc n) t (suc k) h =
    subst P (suc-add i k ∙ sym (add-suc i k)) (at_place P (suc i) n t.1 k (le_of_suc-le-suc h))

pub below : (P : ℕ → Type 0) (n : ℕ) → From P 0 n → (k : ℕ) → k < n → P k
below P n t k h = subst P (zero-add k) (at_place P 0 n t k h)
