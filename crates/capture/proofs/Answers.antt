-- Laws of the answer: its first four bytes decide it, and a record has them all.
use Prim.Native.Nat.{ℕ, ◌≤◌, ◌<◌}
use mathlib.Core.Bool.{Bool, true, false, not}
use mathlib.Core.List.{List, [], ◌∷◌, ◌++◌}
use mathlib.Core.Path.{◌≡◌, refl, sym, ap, ◌∙◌}
use native.Mathlib.Omega.{arith}
use borrow.Author.Tests.{eq-eqb, ne_eqb, le-leb, lt-leb}
use lib.ListN.{length, get_or}
use Rattle.base.specs.Choice.{when◌then◌else◌}
use Rattle.std.proofs.Common.{eqb, Some, None, Ok, Err}
use Rattle.refusals.specs.declared.Refusal.{Refusal}
use Rattle.refusals.specs.declared.Refusal.TheVariants.{Frame, HalfFont, FullFont, Buffer, OtherLink, Cut, Mark, Kind, Value}
use Rattle.refusals.specs.Numbers.{refusal_number, answer_number}
use Rattle.capture.specs.declared.record.Record.{Record}
use Rattle.capture.specs.Kinds.{known, kind_of, allowed}
use Rattle.capture.specs.Record.{Answer, marked, record_of, read_first, values, passed}
use Rattle.capture.proofs.ByKind.{kind_again}

pub nothing_left : (c : List ℕ) → length c ≡ 0 → read_first c ≡ Ok None
unfolding read_first
nothing_left c h = simp (eq-eqb (length c) 0 h)

pub one_to_three_left : (c : List ℕ) → (length c ≡ 0 → ⊥) → length c ≤ 3 → read_first c ≡ Err Cut
unfolding read_first
one_to_three_left c h l = simp (ne_eqb (length c) 0 h, le-leb (length c) 3 l)

-- the tests of four bytes
abbrev pub judged : ℕ → ℕ → ℕ → ℕ → Answer
judged first second kind value =
    when not (marked first second) then Err Mark
    else when not (known kind) then Err Kind
    else when not (allowed (kind_of kind) value) then Err Value
    else Ok (Some (record_of kind value))

pub four_left : (c : List ℕ) → 3 < length c → read_first c ≡ judged (get_or c 0 0) (get_or c 1 0) (get_or c 2 0) (get_or c 3 0)
unfolding read_first
four_left c l = simp (ne_eqb (length c) 0 (λ z. omega arith), lt-leb (length c) 3 l)

-- what comes after the first four bytes does not matter
pub first_four_decide : (a b d e : ℕ) (c : List ℕ) → read_first (a ∷ b ∷ d ∷ e ∷ c) ≡ judged a b d e
first_four_decide a b d e c = four_left (a ∷ b ∷ d ∷ e ∷ c) (omega arith)

pub answer_of_front : (s t : List ℕ) → 4 ≤ length s → read_first (s ++ t) ≡ read_first s
answer_of_front [] t h = absurd (omega arith)
answer_of_front (a ∷ []) t h = absurd (omega arith)
answer_of_front (a ∷ b ∷ []) t h = absurd (omega arith)
answer_of_front (a ∷ b ∷ d ∷ []) t h = absurd (omega arith)
answer_of_front (a ∷ b ∷ d ∷ e ∷ s) t h = first_four_decide a b d e (s ++ t) ∙ sym (first_four_decide a b d e s)

judged_no_end :
    (t₁ t₂ t₃ : Bool) (kind value : ℕ)
    → (when not t₁ then Err Mark else when not t₂ then Err Kind else when not t₃ then Err Value else Ok (Some (record_of kind value))) ≡ Ok None
    → ⊥
judged_no_end false t₂ t₃ kind value h = let z : ◌≡◌ {A = ℕ} 0 1 = cc in omega arith
judged_no_end true false t₃ kind value h = let z : ◌≡◌ {A = ℕ} 0 1 = cc in omega arith
judged_no_end true true false kind value h = let z : ◌≡◌ {A = ℕ} 0 1 = cc in omega arith
judged_no_end true true true kind value h = let z : ◌≡◌ {A = ℕ} 0 1 = cc in omega arith

pub four_are_no_end : (a b d e : ℕ) (c : List ℕ) → read_first (a ∷ b ∷ d ∷ e ∷ c) ≡ Ok None → ⊥
four_are_no_end a b d e c h =
    judged_no_end (marked a b) (known d) (allowed (kind_of d) e) d e (sym (first_four_decide a b d e c) ∙ h)

passed_at_most_four : (a : Answer) → passed a ≤ 4
passed_at_most_four (Ok (Some r)) = omega arith
passed_at_most_four (Ok None) = omega arith
passed_at_most_four (Err refusal) = omega arith

pub passed-within : (c : List ℕ) → passed (read_first c) ≤ length c
unfolding read_first
passed-within [] = omega arith
passed-within (a ∷ []) = omega arith
passed-within (a ∷ b ∷ []) = omega arith
passed-within (a ∷ b ∷ d ∷ []) = omega arith
passed-within (a ∷ b ∷ d ∷ e ∷ c) = omega (arith, passed_at_most_four (read_first (a ∷ b ∷ d ∷ e ∷ c)))

pub record_within : (c : List ℕ) {r : Record} → read_first c ≡ Ok (Some r) → 4 ≤ length c
record_within c h = omega (arith, passed-within c, ap passed h)

-- where there is no record none is passed
pub no_record_in_else : (a : Answer) → ((r : Record) → a ≡ Ok (Some r) → ⊥) → passed a ≡ 0
no_record_in_else (Ok (Some r)) none = absurd (none r refl)
no_record_in_else (Ok None) none = refl
no_record_in_else (Err refusal) none = refl

-- no refusal has the number 0
pub refusal_numbered : (refusal : Refusal) → eqb (refusal_number refusal) 0 ≡ false
refusal_numbered Frame = refl
refusal_numbered HalfFont = refl
refusal_numbered FullFont = refl
refusal_numbered Buffer = refl
refusal_numbered OtherLink = refl
refusal_numbered Cut = refl
refusal_numbered Mark = refl
refusal_numbered Kind = refl
refusal_numbered Value = refl

-- the answer that has a number and values
by_number : List Answer
by_number =
    Ok None ∷ Err Frame ∷ Err HalfFont ∷ Err FullFont ∷ Err Buffer ∷ Err OtherLink ∷ Err Cut ∷ Err Mark ∷ Err Kind ∷ Err Value ∷ []

told : ℕ → List ℕ → Answer
told n (kind ∷ value ∷ []) = Ok (Some (record_of kind value))
told n l = get_or by_number n (Ok None)

told_again : (a : Answer) → told (answer_number a) (values a) ≡ a
unfolding told by_number
told_again (Ok (Some r)) = ap (λ k. Ok (Some (record { kind = k; value = r.value }))) (kind_again r.kind)
told_again (Ok None) = refl
told_again (Err Frame) = refl
told_again (Err HalfFont) = refl
told_again (Err FullFont) = refl
told_again (Err Buffer) = refl
told_again (Err OtherLink) = refl
told_again (Err Cut) = refl
told_again (Err Mark) = refl
told_again (Err Kind) = refl
told_again (Err Value) = refl

-- document 01's number and values tell any two answers apart
pub number_and_values_tell : (a b : Answer) → answer_number a ≡ answer_number b → values a ≡ values b → a ≡ b
number_and_values_tell a b n v = sym (told_again a) ∙ ap (λ (m : ℕ). told m (values a)) n ∙ ap (told (answer_number b)) v ∙ told_again b
