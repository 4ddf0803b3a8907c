-- Laws of a capture read through: a record, then what comes after it; a part of whole records, then the next part.
use Prim.Native.Nat.{ℕ, ◌+◌, ◌%◌, ◌≤◌}
use mathlib.Core.Bool.{Bool}
use mathlib.Core.List.{List, [], ◌∷◌, ◌++◌}
use mathlib.Core.Path.{◌≡◌, refl, ap, ◌∙◌}
use native.Mathlib.Nat.{min-eq_left}
use native.Mathlib.Omega.{arith}
use lib.ListN.{length, drop, length-drop}
use lib.Seq.{drop-drop}
use denote.Ref.{Bor}
use Rattle.std.proofs.Common.{Some, None, Ok, Err}
use Rattle.capture.specs.declared.record.Record.{Record}
use Rattle.capture.specs.Record.{Answer, read_first, passed, taken_with}
use Rattle.reader.specs.Part.{from}
use Rattle.reader.specs.Capture.{read_at, part_from, step_at, Contents, no_more, read_on, contents}
use Rattle.capture.proofs.Answers.{answer_of_front, record_within}
use Rattle.capture.proofs.Taken.{four_taken_no_end}

-- a record read leaves the rest of the caller's own capture, beginning after it
pub rest_after_record :
    (s : Bor (List ℕ)) (at : ℕ) {r : Record}
    → read_at s.now at ≡ Ok (Some r)
    → part_from s (step_at s.now at).next ≡ from (at + 4) s
rest_after_record s at h =
    let long : at + 4 ≤ length s.now = omega (arith, record_within (drop at s.now) h, length-drop at s.now) in
    ap (λ (a : Answer). part_from s (at + passed a)) h ∙ ap (λ (k : ℕ). from k s) (min-eq_left long)

stops : (a : Answer) (on : Contents) → passed a ≡ 0 → read_on a on ≡ no_more a
stops (Ok (Some r)) on h = absurd (omega arith)
stops (Ok None) on h = refl
stops (Err refusal) on h = refl

-- where reading stops: at no record
abbrev pub Stops : Answer → Type 0
Stops (Ok (Some r)) = ⊥
Stops (Ok None) = Unit {0}
Stops (Err refusal) = Unit {0}

goes-on-to-stop : (a : Answer) (on : Contents) → Stops on.stop → Stops (read_on a on).stop
goes-on-to-stop (Ok (Some r)) on h = h
goes-on-to-stop (Ok None) on h = tt
goes-on-to-stop (Err refusal) on h = tt

-- the contents of one part, then those of the next where the first was read to its end
abbrev pub joined_at : Answer → Contents → Contents → Contents
joined_at (Ok None) x y = record { records = x.records ++ y.records; stop = y.stop }
joined_at (Ok (Some r)) x y = x
joined_at (Err refusal) x y = x

abbrev pub joined : Contents → Contents → Contents
joined x y = joined_at x.stop x y

record_joined :
    (a : Answer) (r : Record) (x y : Contents) → read_on (Ok (Some r)) (joined_at a x y) ≡ joined_at a (read_on (Ok (Some r)) x) y
record_joined (Ok None) r x y = refl
record_joined (Ok (Some q)) r x y = refl
record_joined (Err refusal) r x y = refl

goes-on-joined : (a : Answer) (x y : Contents) → (a ≡ Ok None → ⊥) → read_on a (joined x y) ≡ joined (read_on a x) y
goes-on-joined (Ok (Some r)) x y never = record_joined x.stop r x y
goes-on-joined (Ok None) x y never = absurd (never refl)
goes-on-joined (Err refusal) x y never = refl

module _ (time : Bool) where
  -- one turn of a loop over the records
  pub contents-turn : (c : List ℕ) → contents time c ≡ read_on (taken_with time (read_first c)) (contents time (drop 4 c))
  unfolding contents read_first
  contents-turn [] = refl
  contents-turn (a ∷ []) = refl
  contents-turn (a ∷ b ∷ []) = refl
  contents-turn (a ∷ b ∷ d ∷ []) = refl
  contents-turn (a ∷ b ∷ d ∷ e ∷ c) = refl

  pub contents_at_record :
      (c : List ℕ) (at : ℕ) {r : Record}
      → taken_with time (read_at c at) ≡ Ok (Some r)
      → contents time (drop at c) ≡ read_on (Ok (Some r)) (contents time (drop (at + 4) c))
  contents_at_record c at {r} h =
      contents-turn (drop at c)
      ∙ ap (λ (a : Answer). read_on a (contents time (drop 4 (drop at c)))) h
      ∙ ap (λ (s : List ℕ). read_on (Ok (Some r)) (contents time s)) (drop-drop 4 at c)

  pub contents-at-stop :
      (c : List ℕ) (at : ℕ) → passed (taken_with time (read_at c at)) ≡ 0 → contents time (drop at c) ≡ no_more (taken_with time (read_at c at))
  contents-at-stop c at h = contents-turn (drop at c) ∙ stops (taken_with time (read_at c at)) _ h

  pub contents-stop : (c : List ℕ) → Stops (contents time c).stop
  unfolding contents read_first
  contents-stop [] = tt
  contents-stop (a ∷ []) = tt
  contents-stop (a ∷ b ∷ []) = tt
  contents-stop (a ∷ b ∷ d ∷ []) = tt
  contents-stop (a ∷ b ∷ d ∷ e ∷ c) =
      goes-on-to-stop (taken_with time (read_first (a ∷ b ∷ d ∷ e ∷ c))) (contents time c) (contents-stop c)

  -- a capture cut into parts of whole records has the records of its parts
  pub contents-of-parts : (s t : List ℕ) → length s % 4 ≡ 0 → contents time (s ++ t) ≡ joined (contents time s) (contents time t)
  unfolding contents read_first
  contents-of-parts [] t h = refl
  contents-of-parts (a ∷ []) t h = absurd (omega arith)
  contents-of-parts (a ∷ b ∷ []) t h = absurd (omega arith)
  contents-of-parts (a ∷ b ∷ d ∷ []) t h = absurd (omega arith)
  contents-of-parts (a ∷ b ∷ d ∷ e ∷ s) t h =
      ap (λ (x : Contents). read_on (taken_with time (read_first (a ∷ b ∷ d ∷ e ∷ (s ++ t)))) x) (contents-of-parts s t (omega arith))
      ∙ ap (λ (x : Answer). read_on (taken_with time x) (joined (contents time s) (contents time t))) (answer_of_front (a ∷ b ∷ d ∷ e ∷ s) t (omega arith))
      ∙ goes-on-joined (taken_with time (read_first (a ∷ b ∷ d ∷ e ∷ s))) (contents time s) (contents time t) (four_taken_no_end time a b d e s)
