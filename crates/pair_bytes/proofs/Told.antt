-- What two panels kept as bytes, a clock's call on them and the two writers give, put together.
use Prim.Native.Nat.{ℕ, ◌≤◌}
use mathlib.Core.List.{List}
use mathlib.Core.Logic.{◌≢◌}
use mathlib.Core.Path.{◌≡◌, ap, refl, sym, subst, ◌∙◌}
use native.Mathlib.Omega.{arith}
use borrow.Author.Tests.{ne_eqb, eqb-false}
use Rattle.std.proofs.Common.{Ok, Err}
use Rattle.controller.specs.declared.Control.{Control}
use Rattle.controller.specs.Memories.{Memories}
use Rattle.controller.specs.State.{InRange}
use Rattle.links.specs.declared.Link.{Link}
use Rattle.picture.specs.Picture.{Seen}
use Rattle.lent_pair.specs.declared.Clock.{Clock}
use Rattle.calls.specs.declared.Kept.{Kept}
use Rattle.lent_pair.specs.declared.LentPairOutcome.{LentPairOutcome}
use Rattle.lent_pair.specs.Pair.{side, PairCalled, pair_called}
use Rattle.lent_pair.specs.Lent.{pair_lent}
use Rattle.calls.specs.State.{kept_state}
use Rattle.calls.proofs.Doors.{numbered}
use Rattle.refusals.specs.declared.Refusal.{Refusal}
use Rattle.refusals.specs.Numbers.{refusal_number}
use Rattle.lent_pair.proofs.Both.{counts-most, pair_unmoved}
use Rattle.state_bytes.specs.Packed.{unpacked, packed}
use Rattle.state_bytes.specs.LinkPacked.{link_packed, unpacked_link}
use Rattle.pair_bytes.specs.Report.{SideBytes, side_bytes, spelled_side, pair_answer, pair_report, pair_reported}

abbrev spelled_kept : List ℕ → List ℕ → Kept
spelled_kept control link = record { control = unpacked control; link = unpacked_link link }

pub spelled_in_range : {c : Control} {l : Link} {j : Kept} → j ≡ record { control = c; link = l } → InRange c → InRange j.control
spelled_in_range h v = rw h v

-- counts of 0 leave the number alone
pub number-alone : (n : ℕ) → n ≡ pair_answer n 0 0
number-alone n = omega arith

-- what the call is told to leave is of the panels that the bytes spell
spelled : (el er : Seen) (l r : SideBytes) (clock : Clock) {j k : Kept} (hj : j ≡ spelled_kept l.control l.link) (hk : k ≡ spelled_kept r.control r.link) → pair_called (side el (kept_state l.memories j) l.frame) (side er (kept_state r.memories k) r.frame) clock ≡ pair_called (spelled_side el l) (spelled_side er r) clock
spelled el er l r clock hj hk = rw (hj, hk) refl

-- a refusal leaves the bytes, and has no counts
module _ (el er : Seen) (l r : SideBytes) (clock : Clock) {j k : Kept} (hj : j ≡ spelled_kept l.control l.link) (hk : k ≡ spelled_kept r.control r.link) (why : Refusal) {lm rm : Memories} {lf rf : List ℕ} (is : pair_lent j k (Err why) lm rm lf rf ≡ pair_called (side el (kept_state l.memories j) l.frame) (side er (kept_state r.memories k) r.frame) clock) where
  pub turned_away : pair_report (refusal_number why) (side_bytes lm l.control l.link lf) (side_bytes rm r.control r.link rf) ≡ pair_reported el l er r clock
  unfolding pair_reported
  turned_away =
      let h : refusal_number why ≢ 0 = eqb-false _ 0 (numbered why) in
      let told = is ∙ spelled el er l r clock hj hk in
      let so = told ∙ pair_unmoved _ _ clock (subst (λ (x : PairCalled). x.left.number ≢ 0) told h) in
      rw (
        ← told,
        ne_eqb _ 0 h,
        ap (λ (x : PairCalled). x.left.state.memories) so,
        ap (λ (x : PairCalled). x.right.state.memories) so,
        ap (λ (x : PairCalled). x.left.frame) so,
        ap (λ (x : PairCalled). x.right.frame) so,
      )
      (ap (λ (a : ℕ). pair_report a l r) (number-alone (refusal_number why)))

-- else they are those of what the call left
module _ (el er : Seen) (l r : SideBytes) (clock : Clock) {j k : Kept} (hj : j ≡ spelled_kept l.control l.link) (hk : k ≡ spelled_kept r.control r.link) (o : LentPairOutcome) {lm rm : Memories} {lf rf : List ℕ} (is : pair_lent j k (Ok o) lm rm lf rf ≡ pair_called (side el (kept_state l.memories j) l.frame) (side er (kept_state r.memories k) r.frame) clock) where
  pub counts-within : (o.counts.left ≤ 1024) × (o.counts.right ≤ 1024)
  counts-within = subst (λ (x : PairCalled). (x.left.count ≤ 1024) × (x.right.count ≤ 1024)) (sym is) (counts-most _ _ clock)

  pub told :
      {lc ll rc rl : List ℕ}
      → lc ≡ packed o.kept.left.control
      → ll ≡ link_packed o.kept.left.link
      → rc ≡ packed o.kept.right.control
      → rl ≡ link_packed o.kept.right.link
      → {a : ℕ}
      → a ≡ pair_answer 0 o.counts.left o.counts.right
      → pair_report a (side_bytes lm lc ll lf) (side_bytes rm rc rl rf) ≡ pair_reported el l er r clock
  unfolding pair_reported
  told hlc hll hrc hrl ha = rw (← (is ∙ spelled el er l r clock hj hk), hlc, hll, hrc, hrl, ha)
