-- Laws of tests, by their outcomes.
use mathlib.Core.Bool.{Bool, true, false, ◌&&◌, ◌||◌, true≢false}
use mathlib.Core.Logic.{◌⊎◌, inl, inr}
use mathlib.Core.Path.{◌≡◌, refl, sym}

-- two tests that pass alike are equal
pub alike : (p q : Bool) → (p ≡ true → q ≡ true) → (q ≡ true → p ≡ true) → p ≡ q
alike true q f g = sym (f refl)
alike false true f g = g refl
alike false false f g = refl

-- a test that never passes fails
pub never : (p : Bool) → (p ≡ true → ⊥) → p ≡ false
never true h = absurd (h refl)
never false h = refl

pub and_both : (p q : Bool) → (p && q) ≡ true → (p ≡ true) × (q ≡ true)
and_both true q e = (refl, e)
and_both false q e = absurd (true≢false (sym e))

pub or_either : (p q : Bool) → (p || q) ≡ true → (p ≡ true) ⊎ (q ≡ true)
or_either true q e = inl refl
or_either false q e = inr e

pub or_neither : (p q : Bool) → (p || q) ≡ false → (p ≡ false) × (q ≡ false)
or_neither true q e = absurd (true≢false e)
or_neither false q e = (refl, e)

-- one of two passes if the second does wherever the first fails
pub or_else : (p q : Bool) → (p ≡ false → q ≡ true) → (p || q) ≡ true
or_else true q h = refl
or_else false q h = h refl
