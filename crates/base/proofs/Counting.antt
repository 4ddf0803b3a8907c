-- How many places are named: by induction on the places, and for bounds by windows and grids.
use Prim.Native.Nat.{ℕ, zero, suc, ◌+◌, ◌*◌, ◌-◌, ◌<◌, ◌≤◌}
use mathlib.Core.Path.{◌≡◌, refl, sym}
use mathlib.Core.Logic.{◌≢◌}
use mathlib.Core.Bool.{Bool, true, false, ◌&&◌, ◌||◌, true≢false}
use native.Mathlib.Omega.{arith}
use native.Mathlib.Nat.{suc-mul, zero-mul, add-suc, add-zero}
use lib.Dec.{eqb}
use borrow.Author.Tests.{eqb-true, eqb-false, ne_eqb}
use Rattle.base.specs.Choice.{when◌then◌else◌}
use Rattle.base.specs.Painting.{count}

pub count_cong : (n : ℕ) (P Q : ℕ → Bool) → ((i : ℕ) → i < n → P i ≡ Q i) → count n P ≡ count n Q
unfolding count
count_cong zero P Q e = refl
count_cong (suc n) P Q e = rw (e n (omega arith), count_cong n P Q (λ i h. e i (omega arith)))

pub count_none : (n : ℕ) (P : ℕ → Bool) → ((i : ℕ) → i < n → P i ≡ false) → count n P ≡ 0
unfolding count
count_none zero P h = refl
count_none (suc n) P h = rw (h n (omega arith), count_none n P (λ i l. h i (omega arith)))

pub count-all : (n : ℕ) (P : ℕ → Bool) → ((i : ℕ) → i < n → P i ≡ true) → count n P ≡ n
unfolding count
count-all zero P h = refl
count-all (suc n) P h = rw (h n (omega arith), count-all n P (λ i l. h i (omega arith))) (omega arith)

pub count-one : (n a : ℕ) → a < n → count n (λ i. eqb i a) ≡ 1
unfolding count
count-one zero a h = absurd (omega arith)
count-one (suc n) a h = last (eqb n a) refl (count-one n a)
  where
    last : (t : Bool) → eqb n a ≡ t → (a < n → count n (λ i. eqb i a) ≡ 1) → count n (λ i. eqb i a) + (when t then 1 else 0) ≡ 1
    last true e r = rw (count_none n (λ i. eqb i a) (λ i l. ne_eqb i a (let q = eqb-true n a e in omega arith)))
    last false e r = let q : n ≢ a = eqb-false n a e in rw (r (omega arith))

-- sets that have no place in common
pub count_disjoint : (n : ℕ) (P Q : ℕ → Bool) → ((i : ℕ) → i < n → (P i && Q i) ≡ false)
    → count n (λ i. P i || Q i) ≡ count n P + count n Q
unfolding count
count_disjoint zero P Q e = refl
count_disjoint (suc n) P Q e = last (P n) (Q n) (e n (omega arith)) (count_disjoint n P Q (λ i h. e i (omega arith)))
  where
    last : (p q : Bool) → (p && q) ≡ false → count n (λ i. P i || Q i) ≡ count n P + count n Q
        → count n (λ i. P i || Q i) + (when p || q then 1 else 0) ≡ (count n P + (when p then 1 else 0)) + (count n Q + (when q then 1 else 0))
    last true true d h = absurd (true≢false d)
    last true false d h = omega arith
    last false true d h = omega arith
    last false false d h = omega arith

-- the places of either of two sets
pub count_or_le : (n : ℕ) (P Q : ℕ → Bool) → count n (λ i. P i || Q i) ≤ count n P + count n Q
unfolding count
count_or_le zero P Q = omega arith
count_or_le (suc n) P Q = last (P n) (Q n) (count_or_le n P Q)
  where
    last : (p q : Bool) → count n (λ i. P i || Q i) ≤ count n P + count n Q
        → count n (λ i. P i || Q i) + (when p || q then 1 else 0) ≤ (count n P + (when p then 1 else 0)) + (count n Q + (when q then 1 else 0))
    last true true l = omega arith
    last true false l = omega arith
    last false true l = omega arith
    last false false l = omega arith

one_more : (t : Bool) {x k : ℕ} → (t ≡ true → x + 1 ≤ k) → x ≤ k → x + (when t then 1 else 0) ≤ k
one_more true h l = h refl
one_more false h l = omega arith

-- places that all lie at or above a
pub count-from : (n a : ℕ) (P : ℕ → Bool) → ((j : ℕ) → j < n → P j ≡ true → a ≤ j) → count n P ≤ n - a
unfolding count
count-from zero a P h = omega arith
count-from (suc n) a P h =
    let r : count n P ≤ n - a = count-from n a P (λ j l e. h j (omega arith) e) in
    one_more (P n) (λ e. let l : a ≤ n = h n (omega arith) e in omega arith) (omega arith)

pub count_le : (n : ℕ) (P : ℕ → Bool) → count n P ≤ n
count_le n P = let h = count-from n 0 P (λ j l e. omega arith) in omega arith

-- any two places are less than k apart: at most k
pub count_window : (n k : ℕ) (P : ℕ → Bool) → ((i j : ℕ) → i < n → j < n → P i ≡ true → P j ≡ true → j < i + k) → count n P ≤ k
unfolding count
count_window zero k P h = omega arith
count_window (suc n) k P h =
    one_more (P n)
    (λ e. let r : count n P ≤ n - (suc n - k) = count-from n (suc n - k) P (λ j l u. let w : n < j + k = h j n (omega arith) (omega arith) u e in omega arith) in
    let z : n < n + k = h n n (omega arith) (omega arith) e e in omega arith)
    (count_window n k P (λ i j l m. h i j (omega arith) (omega arith)))

-- the first a places, and the b after them
pub count-split : (a b : ℕ) (P : ℕ → Bool) → count (a + b) P ≡ count a P + count b (λ c. P (a + c))
unfolding count
count-split a zero P = rw (add-zero a) (sym (add-zero _))
count-split a (suc b) P = rw (add-suc a b) (omega (arith, count-split a b P))

-- a grid of n rows of b places: at most m in each row that Q names, and none in the others
pub count_grid : (n b m : ℕ) (P Q : ℕ → Bool)
    → ((r : ℕ) → r < n → Q r ≡ true → count b (λ c. P (r * b + c)) ≤ m)
    → ((r : ℕ) → r < n → Q r ≡ false → count b (λ c. P (r * b + c)) ≡ 0)
    → count (n * b) P ≤ m * count n Q
unfolding count
count_grid zero b m P Q h k = rw (zero-mul b) (omega arith)
count_grid (suc n) b m P Q h k =
    rw (suc-mul n b, count-split (n * b) b P)
    (row (Q n) (h n (omega arith)) (k n (omega arith)) (count_grid n b m P Q (λ r l. h r (omega arith)) (λ r l. k r (omega arith))))
  where
    row : (q : Bool) → (q ≡ true → count b (λ c. P (n * b + c)) ≤ m) → (q ≡ false → count b (λ c. P (n * b + c)) ≡ 0)
        → count (n * b) P ≤ m * count n Q → count (n * b) P + count b (λ c. P (n * b + c)) ≤ m * (count n Q + (when q then 1 else 0))
    row true x y l = omega (arith, x refl)
    row false x y l = omega (arith, y refl)

-- a grid with at most one place in each row
pub count-rows : (n b : ℕ) (P : ℕ → Bool)
    → ((r i j : ℕ) → r < n → i < b → j < b → P (r * b + i) ≡ true → P (r * b + j) ≡ true → j < i + 1) → count (n * b) P ≤ n
count-rows n b P h =
    let g : count (n * b) P ≤ 1 * count n (λ r. true) = count_grid n b 1 P (λ r. true) (λ r l e. count_window b 1 (λ c. P (r * b + c)) (λ i j. h r i j l)) (λ r l e. absurd (true≢false e)) in
    let a = count_le n (λ r. true) in
    omega arith
