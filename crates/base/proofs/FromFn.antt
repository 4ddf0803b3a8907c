-- What `array::from_fn` makes, with a closure that its calls leave as it is: the list given by what each call answers.
use Prim.Native.Nat.{ℕ, zero, suc, ◌+◌, ◌<◌}
use mathlib.Core.Path.{◌≡◌, refl, ◌∙◌, subst}
use mathlib.Core.List.{List}
use native.Mathlib.Omega.{arith}
use lib.ListN.{get_or}
use denote.Param.Members.{Mut, Called}
use Rattle.std.specs.Array.{IsFromFnResult, IsFromFnResultFrom}
use Rattle.base.specs.Lists.{upto}
use Rattle.base.proofs.Lists.{is-upto}

module _ {F : Type 0} (g : Mut F (ℕ × Unit {0}) ℕ) (f : F) (n : ℕ) (b : ℕ → ℕ)
    (each : (i y : ℕ) (q : F) → i < n → Called g f (i, tt) y q → (y ≡ b i) × (q ≡ f)) where
  -- the m answers from place i on
  answers : (ys : List ℕ) (m i : ℕ) (p : F) → p ≡ f → i + m ≡ n → IsFromFnResultFrom g p ys i m → (k : ℕ) → k < m → get_or ys (i + k) 0 ≡ b (i + k)
  answers ys zero i p e l r k h = absurd (omega arith)
  answers ys (suc m) i p e l r zero h =
      let called : Called g f (i, tt) r.1 r.0 = subst (λ (s : F). Called g s (i, tt) r.1 r.0) e r.3 in
      let at : i ≡ i + 0 = omega arith in
      subst (λ (j : ℕ). get_or ys j 0 ≡ b j) at (r.2.1 0 ∙ (each i r.1 r.0 (omega arith) called).0)
  answers ys (suc m) i p e l r (suc k) h =
      let called : Called g f (i, tt) r.1 r.0 = subst (λ (s : F). Called g s (i, tt) r.1 r.0) e r.3 in
      let at : i + 1 + k ≡ i + suc k = omega arith in
      subst (λ (j : ℕ). get_or ys j 0 ≡ b j) at
      (answers ys m (i + 1) r.0 (each i r.1 r.0 (omega arith) called).1 (omega arith) r.4 k (omega arith))

  pub from_fn_upto : (ys : List ℕ) → IsFromFnResult g f ys n → ys ≡ upto n b
  from_fn_upto ys r =
      is-upto n b ys r.long
      (λ k h. let at : 0 + k ≡ k = omega arith in subst (λ (j : ℕ). get_or ys j 0 ≡ b j) at (answers ys n 0 f refl (omega arith) r.each k h))
