-- The number of a pair's call is the table's, and a refusal touches neither side.
use Prim.Native.Nat.{ℕ, ◌<◌}
use mathlib.Core.Bool.{Bool, true, false, not, ◌&&◌, true≢false}
use mathlib.Core.List.{List}
use mathlib.Core.Path.{◌≡◌, refl, sym, ap, subst, ◌∙◌}
use native.Mathlib.Omega.{arith}
use lib.Dec.{eqb}
use borrow.Author.Tests.{eqb-true, eqb-false, ne_eqb, not-true, not-false}
use Rattle.base.proofs.Choice.{either-told, by_test}
use Rattle.base.proofs.Tests.{and_both}
use Rattle.links.specs.Idle.{is_serial}
use Rattle.picture.specs.Picture.{Seen}
use Rattle.picture.specs.Refusals.{lent_refusal}
use Rattle.lent_pair.specs.declared.Clock.{Clock}
use Rattle.lent_pair.specs.Pair.{Side, refused_side, pair_refusal}
use Rattle.lent_pair.proofs.Both.{refused-clock, pair-numbers, pair_unmoved}
use Rattle.pair_bytes.specs.Report.{spelled_side, pair_report, pair_reported}
use Rattle.pair_bytes.proofs.Told.{number-alone}
use Rattle.demands.specs.Demand1.{TableSays, frame_length, half_font_length, full_font_length, want_of_time, other_link, all_good, BuffersSay, OneNumber, PairSays, left_buffers, right_buffers, not_both_serial, both_good, PairRefuses, ExportedPairRefuses}
use Rattle.demands.proofs.Tables.{or_wants, table-says, table-number}

-- the number of the buffers alone
buffers-alone : (n : ℕ) → or_wants false false n ≡ n
buffers-alone n = by_test (eqb n 0) (λ t. rw t (sym (eqb-true n 0 t))) (λ t. rw t)

module _ (e : Seen) (frame : List ℕ) where
  buffers_say : BuffersSay e frame (lent_refusal e frame)
  buffers_say = subst (TableSays e frame false false) (buffers-alone (lent_refusal e frame)) (table-says e frame false false)

  buffers-number : (n : ℕ) → BuffersSay e frame n → n ≡ lent_refusal e frame
  buffers-number n h = table-number e frame false false n h ∙ buffers-alone (lent_refusal e frame)

  good-buffers : eqb (lent_refusal e frame) 0 ≡ true → BuffersSay e frame 0
  good-buffers t = subst (BuffersSay e frame) (eqb-true _ 0 t) buffers_say

not-both : (p q : Bool) → not (p && q) ≡ true → (p ≡ true) × (q ≡ true) → ⊥
not-both true true h both = true≢false (sym h)
not-both true false h both = true≢false (sym both.1)
not-both false q h both = true≢false (sym both.0)

never_both : (p q : Bool) → ((p ≡ true) × (q ≡ true) → ⊥) → (p && q) ≡ false
never_both true true h = absurd (h (refl, refl))
never_both true false h = refl
never_both false q h = refl

-- refusal numbers have a byte
table-small : (e : Seen) (frame : List ℕ) (n : ℕ) → BuffersSay e frame n → n < 256
table-small e frame n (frame_length g) = omega arith
table-small e frame n (half_font_length f g) = omega arith
table-small e frame n (full_font_length f h g) = omega arith
table-small e frame n (want_of_time f h g w) = omega arith
table-small e frame n (other_link f h g w o) = omega arith
table-small e frame n (all_good f h g w o) = omega arith

module _ (l r : Side) where
  pair-says : PairSays l r (pair_refusal l r)
  unfolding pair_refusal
  pair-says =
      let a = lent_refusal l.seen l.frame in
      let b = lent_refusal r.seen r.frame in
      either-told (PairSays l r) (not (eqb a 0))
      (λ t. left_buffers a (buffers_say l.seen l.frame) (eqb-false a 0 (not-true (eqb a 0) t)))
      (λ t. let left-good = good-buffers l.seen l.frame (not-false (eqb a 0) t) in
      either-told (PairSays l r) (not (eqb b 0))
      (λ u. right_buffers b left-good (buffers_say r.seen r.frame) (eqb-false b 0 (not-true (eqb b 0) u)))
      (λ u. let right-good = good-buffers r.seen r.frame (not-false (eqb b 0) u) in
      either-told (PairSays l r) (not (is_serial l.state.link && is_serial r.state.link))
      (λ v. not_both_serial left-good right-good (not-both (is_serial l.state.link) (is_serial r.state.link) v))
      (λ v. let both = and_both (is_serial l.state.link) (is_serial r.state.link) (not-false _ v) in both_good left-good right-good both.0 both.1)))

  pair-number : (n : ℕ) → PairSays l r n → n ≡ pair_refusal l r
  unfolding pair_refusal
  pair-number n (left_buffers _ h z) = rw (← buffers-number l.seen l.frame n h, ne_eqb n 0 z)
  pair-number n (right_buffers _ g h z) =
      rw (← buffers-number l.seen l.frame 0 g, ← buffers-number r.seen r.frame n h, ne_eqb n 0 z)
  pair-number n (not_both_serial g h s) =
      rw (← buffers-number l.seen l.frame 0 g, ← buffers-number r.seen r.frame 0 h, never_both (is_serial l.state.link) (is_serial r.state.link) s)
  pair-number n (both_good g h p q) = rw (← buffers-number l.seen l.frame 0 g, ← buffers-number r.seen r.frame 0 h, p, q)

  pub pair-once : OneNumber (PairSays l r)
  pair-once m n x y = pair-number m x ∙ sym (pair-number n y)

  pair_small : (n : ℕ) → PairSays l r n → n < 256
  pair_small n (left_buffers _ h z) = table-small l.seen l.frame n h
  pair_small n (right_buffers _ g h z) = table-small r.seen r.frame n h
  pair_small n (not_both_serial g h s) = omega arith
  pair_small n (both_good g h p q) = omega arith

  pub refusal_small : pair_refusal l r < 256
  refusal_small = pair_small (pair_refusal l r) pair-says

  module _ (clock : Clock) where
    pub pair-refuses : PairRefuses l r clock
    pair-refuses =
        record {
          says = rw (pair-numbers l r clock).0 pair-says;
          says_both = (pair-numbers l r clock).1 ∙ sym (pair-numbers l r clock).0;
          keeps = λ h. pair_unmoved l r clock h ∙ ap (λ (n : ℕ). record { left = refused_side l n; right = refused_side r n }) (sym (pair-numbers l r clock).0);
        }

pub exported_pair_refuses : ExportedPairRefuses
unfolding pair_reported
exported_pair_refuses el er l r clock n says z =
    let left = spelled_side el l in
    let right = spelled_side er r in
    rw (
      refused-clock left right clock (λ h. z (pair-number left right n says ∙ h)),
      ← pair-number left right n says,
      ne_eqb n 0 z,
    )
    (ap (λ (a : ℕ). pair_report a l r) (sym (number-alone n)))
