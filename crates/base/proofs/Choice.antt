-- Laws of a choice by a test.
use mathlib.Core.Bool.{Bool, true, false}
use mathlib.Core.Path.{◌≡◌, refl}
use Rattle.base.specs.Choice.{when◌then◌else◌}

-- what holds of both answers holds of the one that the test picks
pub either : {A : Type 0} (P : A → Type 0) (t : Bool) {a b : A} → P a → P b → P (when t then a else b)
either P true p q = p
either P false p q = q

-- the same, where each answer is asked about only under its own outcome of the test
pub either-told : {A : Type 0} (P : A → Type 0) (t : Bool) {a b : A} → (t ≡ true → P a) → (t ≡ false → P b) → P (when t then a else b)
either-told P true p q = p refl
either-told P false p q = q refl

-- by the two outcomes of a test
pub by_test : {P : Type 0} (t : Bool) → (t ≡ true → P) → (t ≡ false → P) → P
by_test true p q = p refl
by_test false p q = q refl
