-- A frame agrees with the wide one through its places, byte for byte: drawn afresh, repainted and counted; on any glass that is one to one.
use Prim.Native.Nat.{ℕ, zero, suc, ◌+◌, ◌*◌, ◌/◌, ◌%◌, ◌<◌, ◌≤◌}
use mathlib.Core.Path.{◌≡◌, refl, sym, ap, ap₂, ◌∙◌, subst}
use mathlib.Core.Bool.{Bool, true, false, not, ◌&&◌, ◌||◌}
use mathlib.Core.List.{List}
use native.Mathlib.Omega.{arith}
use native.Mathlib.Nat.{le_antisymm}
use lib.ListN.{length, get_or}
use lib.Dec.{eqb}
use borrow.Author.Tests.{eqb-true, ne_eqb}
use Rattle.base.specs.Choice.{when◌then◌else◌}
use Rattle.base.specs.Lists.{upto}
use Rattle.base.specs.Painting.{painted, count}
use Rattle.base.specs.Layout.{Layout, on, whole_on, painted_on, count_on}
use Rattle.base.proofs.Lists.{length-upto, get_or-upto, upto_cong}
use Rattle.base.proofs.Painting.{painted_cong}
use Rattle.base.proofs.Counting.{count_cong, count-one, count_none, count_disjoint}
use Rattle.glass.specs.Frames.{wide, wide_place, through, OneToOne, Onto}

-- a map that is one to one finds no more places than there are
without : (n a : ℕ) (P : ℕ → Bool) → a < n → count n P ≡ count n (λ i. P i && not (eqb i a)) + (when P a then 1 else 0)
without n a P h =
    count_cong n P (λ i. (P i && not (eqb i a)) || (P a && eqb i a)) (λ i l. split i (eqb i a) refl)
    ∙ count_disjoint n (λ i. P i && not (eqb i a)) (λ i. P a && eqb i a) (λ i l. apart (P i) (P a) (eqb i a))
    ∙ ap (λ (k : ℕ). count n (λ i. P i && not (eqb i a)) + k) (alone (P a))
  where
    split : (i : ℕ) (t : Bool) → eqb i a ≡ t → P i ≡ ((P i && not t) || (P a && t))
    split i true e = ap P (eqb-true i a e) ∙ last (P i) (P a)
      where
        last : (p q : Bool) → q ≡ ((p && false) || (q && true))
        last true true = refl
        last true false = refl
        last false true = refl
        last false false = refl
    split i false e = last (P i) (P a)
      where
        last : (p q : Bool) → p ≡ ((p && true) || (q && false))
        last true q = refl
        last false true = refl
        last false false = refl

    apart : (p q t : Bool) → ((p && not t) && (q && t)) ≡ false
    apart true true true = refl
    apart true true false = refl
    apart true false true = refl
    apart true false false = refl
    apart false q t = refl

    alone : (q : Bool) → count n (λ i. q && eqb i a) ≡ (when q then 1 else 0)
    alone true = count-one n a h
    alone false = count_none n _ (λ i l. refl)

pub count-one-to-one : (n k : ℕ) (m : ℕ → ℕ) (P : ℕ → Bool) → ((i : ℕ) → i < n → m i < k)
    → ((i j : ℕ) → i < n → j < n → m i ≡ m j → i ≡ j) → count n (λ i. P (m i)) ≤ count k P
unfolding count
count-one-to-one zero k m P inside one = omega arith
count-one-to-one (suc n) k m P inside one =
    let rest = count-one-to-one n k m (λ i. P i && not (eqb i (m n))) (λ i h. inside i (omega arith)) (λ i j h l. one i j (omega arith) (omega arith)) in
    let same : count n (λ i. P (m i) && not (eqb (m i) (m n))) ≡ count n (λ i. P (m i)) =
    count_cong n _ _ (λ i h. rw (ne_eqb (m i) (m n) (λ e. let z : i ≡ n = one i n (omega arith) (omega arith) e in omega arith)) (keep (P (m i)))) in
    let all = without k (m n) P (inside n (omega arith)) in
    omega (arith, rest, same, all)
  where
    keep : (p : Bool) → (p && true) ≡ p
    keep true = refl
    keep false = refl

-- painting what was moved is moving what was painted
painted-moved : (m : ℕ → ℕ) (n : ℕ) (P : ℕ → Bool) (b : ℕ → ℕ) (f : List ℕ) → ((i : ℕ) → i < n → m i < length f)
    → painted (λ i. P (m i)) (λ i. b (m i)) (upto n (λ i. get_or f (m i) 0)) ≡ upto n (λ i. get_or (painted P b f) (m i) 0)
unfolding painted
painted-moved m n P b f inside =
    ap (λ (k : ℕ). upto k (λ i. when P (m i) then b (m i) else get_or (upto n (λ i. get_or f (m i) 0)) i 0)) (length-upto n (λ i. get_or f (m i) 0))
    ∙ upto_cong n _ _
    (λ i h. ap (λ (k : ℕ). when P (m i) then b (m i) else k) (get_or-upto n (λ i. get_or f (m i) 0) i h)
    ∙ sym (get_or-upto (length f) (λ i. when P i then b i else get_or f i 0) (m i) (inside i h)))

module _ (l : Layout) (o : OneToOne l) where
  pub wide-inside : (i : ℕ) → i < l.size → wide_place l i < 1024
  wide-inside i h = let r = o.rows i h in let c = o.columns i h in omega arith

  pub at_wide : {A : Type 0} (f : ℕ → ℕ → A) (i : ℕ) → i < l.size → on wide f (wide_place l i) ≡ on l f i
  at_wide f i h =
      let c = o.columns i h in
      let a : (32 * l.row i + l.column i) / 32 ≡ l.row i = omega arith in
      let b : (32 * l.row i + l.column i) % 32 ≡ l.column i = omega arith in
      ap₂ f a b

  -- drawn afresh
  pub whole-through : (b : ℕ → ℕ → ℕ) → whole_on l b ≡ through l (whole_on wide b)
  unfolding through
  whole-through b =
      upto_cong l.size _ _ (λ i h. sym (get_or-upto 1024 (on wide b) (wide_place l i) (wide-inside i h) ∙ at_wide b i h))

  -- repainted
  pub painted-through : (P : ℕ → ℕ → Bool) (b : ℕ → ℕ → ℕ) (f : List ℕ) → length f ≡ 1024
      → painted_on l P b (through l f) ≡ through l (painted_on wide P b f)
  unfolding through
  painted-through P b f size =
      let m : ℕ → ℕ = λ i. wide_place l i in
      painted_cong (on l P) (λ i. on wide P (m i)) (on l b) (λ i. on wide b (m i)) (upto l.size (λ i. get_or f (m i) 0))
      (λ i h. sym (at_wide P i (rw (length-upto l.size (λ i. get_or f (m i) 0)) at h)))
      (λ i h t. sym (at_wide b i (rw (length-upto l.size (λ i. get_or f (m i) 0)) at h)))
      ∙ painted-moved m l.size (on wide P) (on wide b) f (λ i h. let w = wide-inside i h in omega arith)

  wide-once : (i j : ℕ) → i < l.size → j < l.size → wide_place l i ≡ wide_place l j → i ≡ j
  wide-once i j h k e =
      let a = o.columns i h in
      let b = o.columns j k in
      o.once i j h k (omega arith) (omega arith)

  -- never more than on the wide glass
  pub count-through : (P : ℕ → ℕ → Bool) → count_on l P ≤ count_on wide P
  count-through P =
      subst (λ (n : ℕ). n ≤ count 1024 (on wide P)) (count_cong l.size _ _ (λ i h. at_wide P i h))
      (count-one-to-one l.size 1024 (wide_place l) (on wide P) wide-inside wide-once)

  -- and just as many where every byte has its place
  pub count_same : Onto l → (P : ℕ → ℕ → Bool) → count_on l P ≡ count_on wide P
  count_same onto P =
      le_antisymm (count-through P)
      (subst (λ (n : ℕ). n ≤ count_on l P) (count_cong 1024 (λ i. on l P (from i)) (on wide P) (λ i h. ap₂ P (row_there i h) (column_there i h)))
      (count-one-to-one 1024 l.size from (on l P) (λ i h. onto.inside (i / 32) (i % 32) (omega arith) (omega arith)) from-once))
    where
      from : ℕ → ℕ
      from i = onto.place (i / 32) (i % 32)

      row_there : (i : ℕ) → i < 1024 → l.row (from i) ≡ i / 32
      row_there i h = onto.row_at (i / 32) (i % 32) (omega arith) (omega arith)

      column_there : (i : ℕ) → i < 1024 → l.column (from i) ≡ i % 32
      column_there i h = onto.column_at (i / 32) (i % 32) (omega arith) (omega arith)

      same_number : (i j : ℕ) → i / 32 ≡ j / 32 → i % 32 ≡ j % 32 → i ≡ j
      same_number i j r s = omega arith

      from-once : (i j : ℕ) → i < 1024 → j < 1024 → from i ≡ from j → i ≡ j
      from-once i j h k e =
          same_number i j
          (sym (row_there i h) ∙ ap l.row e ∙ row_there j k)
          (sym (column_there i h) ∙ ap l.column e ∙ column_there j k)
