-- Laws of the kinds, by their numbers.
use Prim.Native.Nat.{ℕ, zero, suc, ◌≤◌, ◌<◌}
use mathlib.Core.Path.{◌≡◌, refl, sym}
use native.Mathlib.Omega.{arith}
use Rattle.capture.specs.declared.kind.Kind.{Kind}
use Rattle.capture.specs.declared.kind.Kind.TheVariants.{InstructionWrite, DataWrite, StatusRead, DataRead, EightBits, ChipSelectLow, Reset, TimePasses}
use Rattle.capture.specs.Kinds.{kind_of, kind_number}

-- what holds of each kind under its own number holds of the kind that a number has
pub by_kind :
    (P : Kind → Type 0) (n : ℕ)
    → (n ≡ 0 → P InstructionWrite)
    → (n ≡ 1 → P DataWrite)
    → (n ≡ 2 → P StatusRead)
    → (n ≡ 3 → P DataRead)
    → (n ≡ 4 → P EightBits)
    → (n ≡ 5 → P ChipSelectLow)
    → (n ≡ 6 → P Reset)
    → (6 < n → P TimePasses)
    → P (kind_of n)
unfolding kind_of
by_kind P zero k0 k1 k2 k3 k4 k5 k6 k7 = k0 refl
by_kind P (suc zero) k0 k1 k2 k3 k4 k5 k6 k7 = k1 refl
by_kind P (suc (suc zero)) k0 k1 k2 k3 k4 k5 k6 k7 = k2 refl
by_kind P (suc (suc (suc zero))) k0 k1 k2 k3 k4 k5 k6 k7 = k3 refl
by_kind P (suc (suc (suc (suc zero)))) k0 k1 k2 k3 k4 k5 k6 k7 = k4 refl
by_kind P (suc (suc (suc (suc (suc zero))))) k0 k1 k2 k3 k4 k5 k6 k7 = k5 refl
by_kind P (suc (suc (suc (suc (suc (suc zero)))))) k0 k1 k2 k3 k4 k5 k6 k7 = k6 refl
by_kind P (suc (suc (suc (suc (suc (suc (suc zero))))))) k0 k1 k2 k3 k4 k5 k6 k7 = k7 (omega arith)
by_kind P (suc (suc (suc (suc (suc (suc (suc (suc n)))))))) k0 k1 k2 k3 k4 k5 k6 k7 = k7 (omega arith)

-- a kind and its number stand for one another
pub kind_again : (k : Kind) → kind_of (kind_number k) ≡ k
unfolding kind_of
kind_again InstructionWrite = refl
kind_again DataWrite = refl
kind_again StatusRead = refl
kind_again DataRead = refl
kind_again EightBits = refl
kind_again ChipSelectLow = refl
kind_again Reset = refl
kind_again TimePasses = refl

pub number_again : (n : ℕ) → n ≤ 7 → kind_number (kind_of n) ≡ n
number_again n h = by_kind (λ (k : Kind). kind_number k ≡ n) n sym sym sym sym sym sym sym (λ more. omega arith)
