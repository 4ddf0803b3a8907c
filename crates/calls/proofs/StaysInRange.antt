-- What holds of every call: it hands on a valid state, with or without time as it was; a refused one changes nothing, the frame keeps its
-- length, and no count passes that of its bytes. An accepted one by what each deed keeps, a refused one as it was.
use Rattle.std.proofs.Common.{None, Option, Some}
use Prim.Native.Nat.{ℕ, ◌≤◌}
use mathlib.Core.List.{List}
use mathlib.Core.Path.{◌≡◌, refl}
use native.Mathlib.Omega.{arith}
use lib.ListN.{length}
use lib.Dec.{eqb}
use Rattle.base.proofs.Choice.{either}
use Rattle.base.proofs.Counting.{count_le}
use Rattle.base.proofs.Painting.{painted-length}
use Rattle.controller.specs.State as controls
use Rattle.deeds.specs.Transfers.{performed}
use Rattle.deeds.proofs.Kept.{fresh-valid, performed-valid}
use Rattle.deeds.proofs.Untimed.{performed_timed}
use Rattle.events.specs.declared.Event.{Event}
use Rattle.events.specs.declared.Event.TheVariants.{Reset}
use Rattle.events.specs.declared.Made.{Made}
use Rattle.events.specs.declared.Pin.{Pin}
use Rattle.links.specs.declared.Carried.{Carried}
use Rattle.links.specs.Taken.{taken_by}
use Rattle.picture.specs.Picture.{Seen}
use Rattle.picture.specs.Refusals.{refusal_of}
use Rattle.repaint.specs.Repaint.{repainted, count_named}
use Rattle.calls.specs.State.{State, fresh_state, Valid}
use Rattle.calls.specs.Calls.{Called, refused, accepted, unless_other, taken_on, timeless, unless_timeless, Fits, called}

pub fresh-state-valid : (made : Made) → Valid (fresh_state made)
unfolding fresh_state
fresh-state-valid made = fresh-valid made

-- what holds of a refused call, and of every accepted one, holds of every call
pub of-call :
    (P : Called → Type 0) (e : Seen) (s : State) (frame : List ℕ) (event : Event)
    → ((n : ℕ) → P (refused s frame n))
    → ((c : Carried) → P (accepted e frame (performed s.memories s.control c.deed) c.rest))
    → P (called e s frame event)
unfolding called
of-call P e s frame event ref acc =
    either P (eqb (refusal_of (length frame) (length e.fonts.half) (length e.fonts.full)) 0)
    (either P (timeless s.control event) (ref 8) (by (taken_on s event))) (ref _)
  where
    by : (t : Option Carried) → P (unless_other e s frame t)
    by None = ref 5
    by (Some c) = acc c

pub called-valid : (e : Seen) (s : State) (frame : List ℕ) (event : Event) → Valid s → Valid (called e s frame event).state
called-valid e s frame event v =
    of-call (λ (k : Called). Valid k.state) e s frame event (λ n. v) (λ c. performed-valid s.memories s.control v c.deed)

-- so what a call leaves is valid
pub left-valid : (e : Seen) (s : State) (frame : List ℕ) (event : Event) (k : Called) → k ≡ called e s frame event → Valid s → Valid k.state
left-valid e s frame event k is v = rw is (called-valid e s frame event v)

-- a call that is refused leaves what a refusal leaves
abbrev pub Unmoved : State → List ℕ → Called → Type 0
Unmoved s frame k = (k.number ≡ 0 → ⊥) → k ≡ refused s frame k.number

module _ (e : Seen) (s : State) (frame : List ℕ) (event : Event) where
  pub called_unmoved : Unmoved s frame (called e s frame event)
  called_unmoved = of-call (Unmoved s frame) e s frame event (λ n h. refl) (λ c h. absurd (h refl))

  pub called_timed : (called e s frame event).state.control.time.timed ≡ s.control.time.timed
  called_timed =
      of-call (λ (k : Called). k.state.control.time.timed ≡ s.control.time.timed) e s frame event (λ n. refl)
      (λ c. performed_timed s.memories s.control c.deed)

  pub called-count : (called e s frame event).count ≤ 1024
  unfolding count_named
  called-count = of-call (λ (k : Called). k.count ≤ 1024) e s frame event (λ n. omega arith) (λ c. count_le 1024 _)

  pub called-length : length (called e s frame event).frame ≡ length frame
  unfolding repainted
  called-length = of-call (λ (k : Called). length k.frame ≡ length frame) e s frame event (λ n. refl) (λ c. painted-length _ _ frame)

  -- with frame and fonts of the right lengths a call is what its link makes of the event, or that there is no time
  pub admitted : Fits e frame → called e s frame event ≡ unless_timeless e s frame event
  unfolding called
  admitted h = rw h

  -- and they keep these lengths
  pub still_fits : Fits e frame → Fits e (called e s frame event).frame
  still_fits h = rw called-length h

-- reset gives fresh, of what the state keeps and the pin
pub reset-fresh :
    (e : Seen) (s : State) (frame : List ℕ) (pin : Pin)
    → Fits e frame
    → (called e s frame (Reset pin)).state ≡ fresh_state (controls.remade s.control pin)
unfolding taken_by performed fresh_state
reset-fresh e s frame pin h = rw (admitted e s frame (Reset pin) h)
