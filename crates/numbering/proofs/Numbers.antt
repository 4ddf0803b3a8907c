-- The numberings: a numbered code is read back from its number, so no two codes share one; and each number is a code's.
use Rattle.std.proofs.Common.{None, Option, Some}
use Prim.Native.Nat.{ℕ, ◌+◌, ◌*◌, ◌-◌, ◌/◌, ◌%◌, ◌≤◌, ◌<◌}
use mathlib.Core.Bool.{not, ◌&&◌, true≢false}
use mathlib.Core.Path.{◌≡◌, ap}
use native.Mathlib.Omega.{arith}
use lib.Dec.{leb, ltb}
use borrow.Author.Tests.{leb-true, leb-false, le-leb, lt-leb, ltb-true, ltb-false, not-false}
use Rattle.base.specs.Choice.{when◌then◌else◌}
use Rattle.base.proofs.Choice.{either, either-told, by_test}
use Rattle.base.proofs.Tests.{and_both}
use Rattle.events.specs.declared.Numbering.{Numbering}
use Rattle.events.specs.declared.Numbering.TheVariants.{By96, By160}
use Rattle.numbering.specs.Numbering.{number_of, number_count}

-- the code of a number
abbrev pub lead_of : Numbering → ℕ → ℕ
lead_of By96 i = 0xA1 + i / 96
lead_of By160 i = 0xA1 + i / 160

abbrev pub trail_of : Numbering → ℕ → ℕ
trail_of By96 i = 0xA0 + i % 96
trail_of By160 i = when ltb (i % 160) 64 then 0x40 + i % 160 else 0xA0 + (i % 160 - 64)

-- the code that has a number is that one, and the number is none beyond the last
pub record ReadBack (n : Numbering) (lead trail i : ℕ) : Type 0 where
  pub lead_is : lead ≡ lead_of n i
  pub trail_is : trail ≡ trail_of n i
  pub below : i < number_count n

same_number : {i j : ℕ} → Some i ≡ Some j → i ≡ j
same_number e = cc

-- leads below A1h have no page
pub unpaged : (n : Numbering) (lead trail : ℕ) → lead < 0xA1 → number_of n lead trail ≡ None
unfolding number_of
unpaged By96 lead trail h = simp (lt-leb 0xA1 lead h)
unpaged By160 lead trail h = simp (lt-leb 0xA1 lead h)

-- the old numbering
old_read_back : (lead trail i : ℕ) → trail < 256 → number_of By96 lead trail ≡ Some i → ReadBack By96 lead trail i
unfolding number_of
old_read_back lead trail i h =
    either-told (λ (c : Option ℕ). c ≡ Some i → ReadBack By96 lead trail i) (leb 0xA1 lead && (leb lead 0xF7 && leb 0xA0 trail))
    (λ t e. let q = and_both (leb 0xA1 lead) (leb lead 0xF7 && leb 0xA0 trail) t in
    let r = and_both (leb lead 0xF7) (leb 0xA0 trail) q.1 in
    let a : 0xA1 ≤ lead = leb-true 0xA1 lead q.0 in
    let b : lead ≤ 0xF7 = leb-true lead 0xF7 r.0 in
    let d : 0xA0 ≤ trail = leb-true 0xA0 trail r.1 in
    let k : (lead - 0xA1) * 96 + (trail - 0xA0) ≡ i = same_number e in
    record { lead_is = omega arith; trail_is = omega arith; below = omega arith })
    (λ t e. absurd (true≢false cc))

-- the new one: a trail of the low range, or of the high
low_place : (lead trail i : ℕ) → 0xA1 ≤ lead → lead ≤ 0xD7 → 0x40 ≤ trail → trail ≤ 0x7F → (lead - 0xA1) * 160 + (trail - 0x40) ≡ i → ReadBack By160 lead trail i
low_place lead trail i a b d f k =
    record {
      lead_is = omega arith;
      trail_is = by_test (ltb (i % 160) 64) (λ t. let u : trail ≡ 0x40 + i % 160 = omega arith in rw t u) (λ t. let m = ltb-false (i % 160) 64 t in absurd (omega arith));
      below = omega arith;
    }

high_place : (lead trail i : ℕ) → trail < 256 → 0xA1 ≤ lead → lead ≤ 0xD7 → 0xA0 ≤ trail → (lead - 0xA1) * 160 + (64 + (trail - 0xA0)) ≡ i → ReadBack By160 lead trail i
high_place lead trail i h a b d k =
    record {
      lead_is = omega arith;
      trail_is = by_test (ltb (i % 160) 64) (λ t. let m = ltb-true (i % 160) 64 t in absurd (omega arith)) (λ t. let u : trail ≡ 0xA0 + (i % 160 - 64) = omega arith in rw t u);
      below = omega arith;
    }

new_read_back : (lead trail i : ℕ) → trail < 256 → number_of By160 lead trail ≡ Some i → ReadBack By160 lead trail i
unfolding number_of
new_read_back lead trail i h =
    let Told : Option ℕ → Type 0 = λ c. c ≡ Some i → ReadBack By160 lead trail i in
    either-told Told (not (leb 0xA1 lead && leb lead 0xD7)) (λ t e. absurd (true≢false cc))
    (λ t. let q = and_both (leb 0xA1 lead) (leb lead 0xD7) (not-false (leb 0xA1 lead && leb lead 0xD7) t) in
    let a : 0xA1 ≤ lead = leb-true 0xA1 lead q.0 in
    let b : lead ≤ 0xD7 = leb-true lead 0xD7 q.1 in
    either-told Told (leb 0x40 trail && leb trail 0x7F)
    (λ u e. let r = and_both (leb 0x40 trail) (leb trail 0x7F) u in
    low_place lead trail i a b (leb-true 0x40 trail r.0) (leb-true trail 0x7F r.1) (same_number e))
    (λ u. either-told Told (leb 0xA0 trail)
    (λ v e. high_place lead trail i h a b (leb-true 0xA0 trail v) (same_number e))
    (λ v e. absurd (true≢false cc))))

pub read_back : (n : Numbering) (lead trail i : ℕ) → trail < 256 → number_of n lead trail ≡ Some i → ReadBack n lead trail i
read_back By96 lead trail i h e = old_read_back lead trail i h e
read_back By160 lead trail i h e = new_read_back lead trail i h e

-- each number's code has that number
low_numbered : (i : ℕ) → i < 8800 → i % 160 < 64 → number_of By160 (0xA1 + i / 160) (0x40 + i % 160) ≡ Some i
unfolding number_of
low_numbered i h l =
    let k : (0xA1 + i / 160 - 0xA1) * 160 + (0x40 + i % 160 - 0x40) ≡ i = omega arith in
    simp (
      le-leb 0xA1 (0xA1 + i / 160) (omega arith),
      le-leb (0xA1 + i / 160) 0xD7 (omega arith),
      le-leb 0x40 (0x40 + i % 160) (omega arith),
      le-leb (0x40 + i % 160) 0x7F (omega arith),
    ) (ap Some k)

high_numbered : (i : ℕ) → i < 8800 → 64 ≤ i % 160 → number_of By160 (0xA1 + i / 160) (0xA0 + (i % 160 - 64)) ≡ Some i
unfolding number_of
high_numbered i h l =
    let k : (0xA1 + i / 160 - 0xA1) * 160 + (64 + (0xA0 + (i % 160 - 64) - 0xA0)) ≡ i = omega arith in
    simp (
      le-leb 0xA1 (0xA1 + i / 160) (omega arith),
      le-leb (0xA1 + i / 160) 0xD7 (omega arith),
      le-leb 0x40 (0xA0 + (i % 160 - 64)) (omega arith),
      lt-leb (0xA0 + (i % 160 - 64)) 0x7F (omega arith),
      le-leb 0xA0 (0xA0 + (i % 160 - 64)) (omega arith),
    ) (ap Some k)

pub lead-byte : (n : Numbering) (i : ℕ) → i < number_count n → lead_of n i < 256
lead-byte By96 i h = omega arith
lead-byte By160 i h = omega arith

pub trail-byte : (n : Numbering) (i : ℕ) → trail_of n i < 256
trail-byte By96 i = omega arith
trail-byte By160 i = either (λ (t : ℕ). t < 256) (ltb (i % 160) 64) (omega arith) (omega arith)

pub numbered : (n : Numbering) (i : ℕ) → i < number_count n → number_of n (lead_of n i) (trail_of n i) ≡ Some i
unfolding number_of
numbered By96 i h =
    let k : (0xA1 + i / 96 - 0xA1) * 96 + (0xA0 + i % 96 - 0xA0) ≡ i = omega arith in
    simp (
      le-leb 0xA1 (0xA1 + i / 96) (omega arith),
      le-leb (0xA1 + i / 96) 0xF7 (omega arith),
      le-leb 0xA0 (0xA0 + i % 96) (omega arith),
    ) (ap Some k)
numbered By160 i h =
    either-told (λ (t : ℕ). number_of By160 (0xA1 + i / 160) t ≡ Some i) (ltb (i % 160) 64)
    (λ t. low_numbered i h (ltb-true (i % 160) 64 t))
    (λ t. high_numbered i h (ltb-false (i % 160) 64 t))

-- a code that has a number is none of the half glyphs
pub numbered-lead : (n : Numbering) (lead trail i : ℕ) → number_of n lead trail ≡ Some i → 0xA1 ≤ lead
numbered-lead n lead trail i e =
    by_test (leb 0xA1 lead) (leb-true 0xA1 lead)
    (λ t. let none = unpaged n lead trail (leb-false 0xA1 lead t) in absurd (true≢false cc))
