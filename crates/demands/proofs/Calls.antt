-- A call's number is the table's.
use Rattle.std.proofs.Common.{None, Option, Some}
use Rattle.links.specs.declared.Carried.{Carried}
use Prim.Native.Nat.{ℕ}
use mathlib.Core.Bool.{Bool, true, false}
use mathlib.Core.List.{List}
use mathlib.Core.Path.{◌≡◌, refl, ap, subst, sym, ◌∙◌}
use lib.ListN.{length}
use lib.Dec.{eqb}
use Rattle.base.specs.Choice.{when◌then◌else◌}
use Rattle.base.proofs.Choice.{by_test}
use Rattle.controller.specs.declared.Control.{Control}
use Rattle.controller.specs.Memories.{Memories}
use Rattle.events.specs.declared.Event.{Event}
use Rattle.events.specs.declared.Event.TheVariants.{Transfer, Bit, SelectLow, Reset, Pass}
use Rattle.links.specs.declared.Link.{Link}
use Rattle.links.specs.declared.Link.TheVariants.{Parallel, Serial}
use Rattle.links.specs.Taken.{taken_by}
use Rattle.picture.specs.Picture.{Seen}
use Rattle.picture.specs.Refusals.{refusal_of, drawn}
use Rattle.calls.specs.State.{State}
use Rattle.calls.specs.Calls.{unless_other, taken_on, timeless, called}
use Rattle.calls.proofs.StaysInRange.{called_unmoved}
use Rattle.demands.specs.Demand1.{TableSays, of_other_link, CallRefuses, DrawRefuses}
use Rattle.demands.proofs.Tables.{or_wants, table-says}

abbrev is_other : Option Carried → Bool
is_other None = true
is_other (Some c) = false

other-taken : (dl : Bool) (l : Link) (call : Event) → is_other (taken_by dl l call) ≡ of_other_link l call
unfolding taken_by
other-taken dl (Parallel pairing) (Transfer t) = refl
other-taken dl (Serial receiver) (Transfer t) = refl
other-taken dl (Parallel pairing) (Bit b) = refl
other-taken dl (Serial receiver) (Bit b) = refl
other-taken dl (Parallel pairing) SelectLow = refl
other-taken dl (Serial receiver) SelectLow = refl
other-taken dl l (Reset pin) = refl
other-taken dl l (Pass eights) = refl

other-number : (e : Seen) (s : State) (frame : List ℕ) (t : Option Carried) → (unless_other e s frame t).number ≡ (when is_other t then 5 else 0)
other-number e s frame None = refl
other-number e s frame (Some c) = refl

module _ (e : Seen) (s : State) (frame : List ℕ) (call : Event) where
  pub call-number :
      (called e s frame call).number
      ≡ or_wants (timeless s.control call) (of_other_link s.link call) (refusal_of (length frame) (length e.fonts.half) (length e.fonts.full))
  unfolding called
  call-number =
      by_test (eqb (refusal_of (length frame) (length e.fonts.half) (length e.fonts.full)) 0)
      (λ t. rw t
      (by_test (timeless s.control call) (λ w. rw w)
      (λ w. rw w
      (other-number e s frame (taken_on s call)
      ∙ ap (λ (b : Bool). when b then 5 else 0) (other-taken s.control.function.dl s.link call)))))
      (λ t. rw t)

  pub call-refuses : CallRefuses e s frame call
  call-refuses =
      record {
        says =
            subst (TableSays e frame (timeless s.control call) (of_other_link s.link call)) (sym call-number)
            (table-says e frame (timeless s.control call) (of_other_link s.link call));
        keeps = called_unmoved e s frame call;
      }

module _ (e : Seen) (m : Memories) (c : Control) (frame : List ℕ) where
  draw-number :
      (drawn e m c frame).number ≡ or_wants false false (refusal_of (length frame) (length e.fonts.half) (length e.fonts.full))
  unfolding drawn
  draw-number =
      by_test (eqb (refusal_of (length frame) (length e.fonts.half) (length e.fonts.full)) 0) (λ t. rw t) (λ t. rw t)

  pub draw-refuses : DrawRefuses e m c frame
  unfolding drawn
  draw-refuses =
      record {
        says = subst (TableSays e frame false false) (sym draw-number) (table-says e frame false false);
        keeps =
            by_test (eqb (refusal_of (length frame) (length e.fonts.half) (length e.fonts.full)) 0)
            (λ t. rw t (λ h. absurd (h refl)))
            (λ t. rw t (λ h. refl));
      }
