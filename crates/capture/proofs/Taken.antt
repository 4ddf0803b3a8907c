-- Laws of what an answer is to a panel with or without time: with time it stays what it is; without, a record of kind 7 is refused, and
-- everything else stays.
use Prim.Native.Nat.{ℕ, ◌<◌}
use mathlib.Core.Bool.{Bool, true, false, not, ◌&&◌}
use mathlib.Core.List.{List, ◌∷◌}
use mathlib.Core.Path.{◌≡◌, refl, ap, ◌∙◌}
use native.Mathlib.Omega.{arith}
use borrow.Author.Tests.{ne_eqb, le-leb, leb-true, leb-false}
use lib.Dec.{eqb, leb}
use lib.ListN.{length, get_or}
use Rattle.base.specs.Choice.{when◌then◌else◌}
use Rattle.base.proofs.Choice.{either, by_test}
use Rattle.std.proofs.Common.{Option, Some, None, Ok, Err}
use Rattle.refusals.specs.declared.Refusal.{Refusal}
use Rattle.refusals.specs.declared.Refusal.TheVariants.{Mark, Kind, Value}
use Rattle.capture.specs.declared.record.Record.{Record}
use Rattle.capture.specs.Kinds.{last_kind, kind_of, kind_number, allowed}
use Rattle.capture.specs.Record.{Answer, marked, kind_byte, value_byte, record_of, read_first, taken_with}
use Rattle.capture.proofs.ByKind.{number_again}
use Rattle.capture.proofs.Answers.{judged, four_left, four_are_no_end}

pub taken-with-time : (a : Answer) → taken_with true a ≡ a
taken-with-time (Ok (Some r)) = refl
taken-with-time (Ok None) = refl
taken-with-time (Err refusal) = refl

refused_no_answer : {refusal : Refusal} {r : Option Record} → Err refusal ≡ Ok r → ⊥
refused_no_answer h = let z : ◌≡◌ {A = ℕ} 0 1 = cc in omega arith

module _ (time : Bool) where
  -- a record that is taken was that record, and the end is the end
  pub taken_record : (a : Answer) {r : Option Record} → taken_with time a ≡ Ok r → a ≡ Ok r
  taken_record (Ok (Some q)) {r} h =
      either (λ (a : Answer). a ≡ Ok r → ◌≡◌ {A = Answer} (Ok (Some q)) (Ok r)) (not time && eqb (kind_number q.kind) 7) (λ e. absurd (refused_no_answer e)) (λ e. e) h
  taken_record (Ok None) h = h
  taken_record (Err refusal) h = h

  pub four_taken_no_end : (a b d e : ℕ) (c : List ℕ) → taken_with time (read_first (a ∷ b ∷ d ∷ e ∷ c)) ≡ Ok None → ⊥
  four_taken_no_end a b d e c h = four_are_no_end a b d e c (taken_record (read_first (a ∷ b ∷ d ∷ e ∷ c)) h)

-- the tests of four bytes, by a panel with or without time: 8 is given above its last kind, and before 9
abbrev pub judged_with : Bool → ℕ → ℕ → ℕ → ℕ → Answer
judged_with time first second kind value =
    when not (marked first second) then Err Mark
    else when not (leb kind (last_kind time)) then Err Kind
    else when not (allowed (kind_of kind) value) then Err Value
    else Ok (Some (record_of kind value))

below_seven :
    (t : Bool) (kind value : ℕ)
    → kind < 7
    → taken_with false (when not t then Err Value else Ok (Some (record_of kind value))) ≡ (when not t then Err Value else Ok (Some (record_of kind value)))
below_seven false kind value h = refl
below_seven true kind value h = rw (number_again kind (omega arith), ne_eqb kind 7 (λ e. omega arith))

-- 7 takes every value
seven_itself :
    (kind value : ℕ) → kind ≡ 7 → taken_with false (when not (allowed (kind_of kind) value) then Err Value else Ok (Some (record_of kind value))) ≡ Err Kind
unfolding kind_of
seven_itself kind value h = rw h

judged-without-time :
    (first second kind value : ℕ) → taken_with false (judged first second kind value) ≡ judged_with false first second kind value
judged-without-time first second kind value =
    by_test (marked first second)
    (λ m. by_test (leb kind 6)
    (λ t. let few = leb-true kind 6 t in
    rw (m, t, le-leb kind 7 (omega arith)) (below_seven (allowed (kind_of kind) value) kind value (omega arith)))
    (λ f. let many = leb-false kind 6 f in
    by_test (leb kind 7) (λ t. let few = leb-true kind 7 t in rw (m, f, t) (seven_itself kind value (omega arith))) (λ g. rw (m, f, g))))
    (λ n. rw n)

pub taken_four_left :
    (time : Bool) (c : List ℕ)
    → 3 < length c
    → taken_with time (read_first c) ≡ judged_with time (get_or c 0 0) (get_or c 1 0) (kind_byte c) (value_byte c)
taken_four_left true c l = taken-with-time (read_first c) ∙ four_left c l
taken_four_left false c l =
    ap (taken_with false) (four_left c l) ∙ judged-without-time (get_or c 0 0) (get_or c 1 0) (kind_byte c) (value_byte c)
