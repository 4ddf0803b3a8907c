-- What an accepted call was lent, by the tests of the refusals; and what a drawing leaves, accepted or refused.
use Prim.Native.Nat.{ℕ, ◌%◌, ◌≤◌}
use mathlib.Core.Path.{◌≡◌}
use mathlib.Core.Bool.{not, ◌||◌}
use mathlib.Core.List.{List}
use native.Mathlib.Omega.{arith}
use lib.Dec.{eqb, ltb}
use borrow.Author.Tests.{eqb-true, ltb-false, not-false, eq-eqb}
use Rattle.base.proofs.Choice.{either-told}
use Rattle.base.proofs.Tests.{or_neither}
use Rattle.controller.specs.declared.Control.{Control}
use Rattle.controller.specs.Memories.{Memories}
use Rattle.picture.specs.Picture.{Seen, pictured}
use Rattle.picture.specs.Refusals.{refusal_of, lent_refusal, Fits, drawing, drawn}

pub record Accepted (f h n : ℕ) : Type 0 where
  pub frame : f ≡ 1024
  pub half : h ≡ 2048
  pub whole : n % 32 ≡ 0
  pub inside : n ≤ 281600

pub accepted : (frame half full : ℕ) → refusal_of frame half full ≡ 0 → Accepted frame half full
unfolding refusal_of
accepted frame half full =
    either-told (λ (n : ℕ). n ≡ 0 → Accepted frame half full) (not (eqb frame 1024)) (λ t z. absurd (omega arith))
    (λ a. either-told (λ (n : ℕ). n ≡ 0 → Accepted frame half full) (not (eqb half 2048)) (λ t z. absurd (omega arith))
    (λ b. either-told (λ (n : ℕ). n ≡ 0 → Accepted frame half full) (not (eqb (full % 32) 0) || ltb 281600 full) (λ t z. absurd (omega arith))
    (λ d z. let q = or_neither (not (eqb (full % 32) 0)) (ltb 281600 full) d in
    record {
      frame = eqb-true frame 1024 (not-false (eqb frame 1024) a);
      half = eqb-true half 2048 (not-false (eqb half 2048) b);
      whole = eqb-true (full % 32) 0 (not-false (eqb (full % 32) 0) q.0);
      inside = ltb-false 281600 full q.1;
    })))

module _ (e : Seen) (m : Memories) (c : Control) (frame : List ℕ) where
  pub draws : Fits e frame → drawn e m c frame ≡ drawing 0 (pictured e m c)
  unfolding drawn
  draws h = rw (eq-eqb (lent_refusal e frame) 0 h)
