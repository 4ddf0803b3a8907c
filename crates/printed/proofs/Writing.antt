-- Laws of writing into a buffer: one text after another is both, and how long each can be.
use Prim.Native.Nat.{ℕ, zero, suc, ◌+◌, ◌-◌, ◌*◌, ◌/◌, ◌%◌, ◌^◌, ◌≤◌, ◌<◌}
use mathlib.Core.Bool.{Bool, true, false}
use mathlib.Core.List.{List, [], ◌∷◌, ◌++◌, append_assoc}
use mathlib.Core.Path.{◌≡◌, refl, sym, ap, ◌∙◌}
use native.Mathlib.Omega.{arith}
use Rattle.std.proofs.Math.Nat.{pow-suc, one-le-pow}
use borrow.Author.Tests.{lt-ltb, le-ltb}
use lib.Dec.{ltb}
use lib.ListN.{length, set, take, drop, length-append}
use lib.Seq.{sets, length-sets, length-take-le, drop-drop}
use Rattle.std.proofs.lemmas.List.Edits.{sets-eq}
use borrow.Rule.Slice.PartMut.{put_mid}
use Rattle.base.specs.Choice.{when◌then◌else◌}
use Rattle.base.proofs.Lists.{sets_append}
use Rattle.printed.specs.declared.answer.RecordAnswer.{RecordAnswer}
use Rattle.printed.specs.Text.{decimal, middle, line, end_line, stop_line, Put, Counts}

module _ {l m : List ℕ} {i j : ℕ} {a : List ℕ} (p : Put l i a m j) where
  pub put_length : length m ≡ length l
  put_length = ap length p.stands ∙ length-sets l i a

  pub put_then : {r : List ℕ} {k : ℕ} {b : List ℕ} → Put m j b r k → Put l i (a ++ b) r k
  put_then {r} {k} {b} q = record {
    stands =
        q.stands
        ∙ ap (λ (x : List ℕ). sets x j b) p.stands
        ∙ ap (λ (n : ℕ). sets (sets l i a) n b) p.follows
        ∙ sym (sets_append l i a b);
    follows = omega (arith, p.follows, q.follows, length-append a b);
  }

-- a text copied into a part of a buffer that is as long
pub put_copied : (l : List ℕ) (i : ℕ) (a : List ℕ) → i + length a ≤ length l → Put l i a (put_mid i (i + length a - i) l a) (i + length a)
put_copied l i a h = record {
  stands =
      let own : i + length a - i ≡ length a = omega arith in
      ap (λ (n : ℕ). take i l ++ (a ++ drop n (drop i l))) own
      ∙ ap (λ (rest : List ℕ). take i l ++ (a ++ rest)) (drop-drop (length a) i l)
      ∙ sym (sets-eq a l i h ∙ append_assoc (take i l) a (drop (i + length a) l));
  follows = refl;
}

pub put_byte : (l : List ℕ) (i b : ℕ) → Put l i (b ∷ []) (set l i b) (i + 1)
put_byte l i b = record { stands = refl; follows = refl }

-- the digits of a number, by the code's tests
pub decimal-small : (most n : ℕ) → (most ≡ 0 → ⊥) → n < 10 → decimal most n ≡ (0x30 + n % 10) ∷ []
unfolding decimal
decimal-small zero n h l = absurd (h refl)
decimal-small (suc most) n h l = rw (lt-ltb n 10 l)

-- one digit more than those before it
one-more-digit : (most n k : ℕ) → length (decimal most (n / 10)) ≤ k → length (decimal (suc most) n) ≤ suc k
unfolding decimal
one-more-digit most n k h = behind (ltb n 10) (decimal most (n / 10)) h
  where
    behind : (t : Bool) (l : List ℕ) → length l ≤ k → length ((when t then [] else l) ++ ((0x30 + n % 10) ∷ [])) ≤ suc k
    behind true l h = omega arith
    behind false l h = omega (arith, length-append l ((0x30 + n % 10) ∷ []))

pub decimal-length : (most n : ℕ) → length (decimal most n) ≤ most
unfolding decimal
decimal-length zero n = omega arith
decimal-length (suc most) n = one-more-digit most n most (decimal-length most (n / 10))

-- a count of at most 1,024 has at most four digits
pub count_digits : (n : ℕ) → n ≤ 1024 → length (decimal 20 n) ≤ 4
count_digits n h =
    let few : n / 10 / 10 / 10 < 10 = omega arith in
    one-more-digit 19 n 3
    (one-more-digit 18 (n / 10) 2 (one-more-digit 17 (n / 10 / 10) 1 (omega (arith, ap length (decimal-small 17 (n / 10 / 10 / 10) (λ z. omega arith) few)))))

-- a number from a power of ten on, and below the next, has a digit more than the power
pub digits_by_power : (most n k : ℕ) → k < most → 10 ^ k ≤ n → n < 10 * 10 ^ k → k + 1 ≡ length (decimal most n)
unfolding decimal
digits_by_power zero n k small low high = absurd (omega arith)
digits_by_power (suc most) n zero small low high = rw (lt-ltb n 10 (omega arith))
digits_by_power (suc most) n (suc k) small low high =
    let power = pow-suc 10 k in
    rw (le-ltb n 10 (omega (arith, one-le-pow k 10 (omega arith))))
    (omega (
      arith,
      length-append (decimal most (n / 10)) ((0x30 + n % 10) ∷ []),
      digits_by_power most (n / 10) k (omega arith) (omega arith) (omega arith),
    ))

-- the last digit of a number behind those before it
pub put_last_digit :
    {l m : List ℕ} {i j : ℕ} (most n : ℕ)
    → (most ≡ 0 → ⊥)
    → Put l i (when ltb n 10 then [] else decimal (most - 1) (n / 10)) m j
    → Put l i (decimal most n) (set m j (0x30 + n % 10)) (j + 1)
unfolding decimal
put_last_digit zero n some p = absurd (some refl)
put_last_digit {l} {m} {i} {j} (suc most) n some p =
    let e : suc most - 1 ≡ most = omega arith in
    put_then (rw (← e) p) (put_byte m j (0x30 + n % 10))

pub line-length : (place : ℕ) (a : RecordAnswer) → length (line place a) ≡ length (decimal 20 place) + 4 + length (decimal 20 a.count) + 1
unfolding line
line-length place a =
    length-append (decimal 20 place ++ middle a.kind a.reply ++ decimal 20 a.count) (0x0A ∷ [])
    ∙ ap (λ (n : ℕ). n + 1) (length-append (decimal 20 place ++ middle a.kind a.reply) (decimal 20 a.count))
    ∙ ap (λ (n : ℕ). n + length (decimal 20 a.count) + 1) (length-append (decimal 20 place) (middle a.kind a.reply))

pub end_length : (place : ℕ) → length (end_line place) ≤ 48
unfolding end_line
end_length place = simp length-append (omega (arith, decimal-length 20 place))

pub stop_length : (place number : ℕ) → length (stop_line place number) ≤ 48
unfolding stop_line
stop_length place number = simp length-append (omega (arith, decimal-length 20 place, decimal-length 20 number))

-- a text from the beginning of a buffer, as a slice up to its end wants it
pub put_counts : {l m : List ℕ} {j : ℕ} {a : List ℕ} → Put l 0 a m j → length a ≤ length l → Counts j m
put_counts {l} {m} {j} {a} p h = let n : j ≤ length m = omega (arith, p.follows, put_length p) in (n, sym (length-take-le j m n))
