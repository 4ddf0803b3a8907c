-- Laws of a record: a refused one has no effect, a frame keeps its length, a panel has time or not as before, and one event is a call.
use Prim.Native.Nat.{ℕ}
use mathlib.Core.List.{List, [], ◌∷◌, map}
use mathlib.Core.Path.{◌≡◌, refl, sym, ap, ◌∙◌}
use native.Mathlib.Nat.{add-zero}
use borrow.Author.Tests.{eqb-true, eqb-false, eq-eqb, ne_eqb}
use lib.Dec.{eqb}
use lib.ListN.{length}
use Rattle.base.proofs.Choice.{either, by_test}
use Rattle.events.specs.declared.Event.{Event}
use Rattle.events.specs.declared.Event.TheVariants.{Bit}
use Rattle.sender.specs.Sender.{highest_first}
use Rattle.picture.specs.Picture.{Seen}
use Rattle.capture.specs.declared.kind.Kind.{Kind}
use Rattle.capture.specs.declared.kind.Kind.TheVariants.{InstructionWrite, DataWrite, StatusRead, DataRead, EightBits, ChipSelectLow, Reset, TimePasses}
use Rattle.calls.specs.State.{State}
use Rattle.calls.specs.Calls.{Called, called}
use Rattle.calls.proofs.StaysInRange.{Unmoved, called_unmoved, called_timed, called-length}
use Rattle.records.specs.Records.{asks, called_on, first_number, called_in_turn, record_called}

-- a record asks for one event, or for the bits of its value
pub one_or_bits :
    (P : List Event → Type 0) (kind : Kind) (value : ℕ)
    → ((event : Event) → P (event ∷ []))
    → P (map Bit (highest_first value))
    → P (asks kind value)
one_or_bits P InstructionWrite value one bits = one _
one_or_bits P DataWrite value one bits = one _
one_or_bits P StatusRead value one bits = one _
one_or_bits P DataRead value one bits = one _
one_or_bits P EightBits value one bits = bits
one_or_bits P ChipSelectLow value one bits = one _
one_or_bits P Reset value one bits = one _
one_or_bits P TimePasses value one bits = one _

-- what is called in turn is no refusal
pub called-on-accepted : (e : Seen) (reply : ℕ) (s : State) (frame : List ℕ) (events : List Event) → (called_on e reply s frame events).number ≡ 0
unfolding called_on
called-on-accepted e reply s frame [] = refl
called-on-accepted e reply s frame (event ∷ events) = refl

called-on-length :
    (e : Seen) (reply : ℕ) (s : State) (frame : List ℕ) (events : List Event) → length (called_on e reply s frame events).frame ≡ length frame
unfolding called_on
called-on-length e reply s frame [] = refl
called-on-length e reply s frame (event ∷ events) =
    let k = called e s frame event in called-on-length e k.reply k.state k.frame events ∙ called-length e s frame event

called_on_timed :
    (e : Seen) (reply : ℕ) (s : State) (frame : List ℕ) (events : List Event)
    → (called_on e reply s frame events).state.control.time.timed ≡ s.control.time.timed
unfolding called_on
called_on_timed e reply s frame [] = refl
called_on_timed e reply s frame (event ∷ events) =
    let k = called e s frame event in called_on_timed e k.reply k.state k.frame events ∙ called_timed e s frame event

module _ (e : Seen) (s : State) (frame : List ℕ) where
  in_turn_unmoved : (events : List Event) → Unmoved s frame (called_in_turn e s frame events)
  unfolding called_in_turn
  in_turn_unmoved events =
      either (Unmoved s frame) (eqb (first_number e s frame events) 0) (λ h. absurd (h (called-on-accepted e 0 s frame events))) (λ h. refl)

  in_turn_length : (events : List Event) → length (called_in_turn e s frame events).frame ≡ length frame
  unfolding called_in_turn
  in_turn_length events =
      either (λ (k : Called). length k.frame ≡ length frame) (eqb (first_number e s frame events) 0) (called-on-length e 0 s frame events) refl

  in_turn_timed : (events : List Event) → (called_in_turn e s frame events).state.control.time.timed ≡ s.control.time.timed
  unfolding called_in_turn
  in_turn_timed events =
      either (λ (k : Called). k.state.control.time.timed ≡ s.control.time.timed) (eqb (first_number e s frame events) 0)
      (called_on_timed e 0 s frame events)
      refl

  module _ (event : Event) (events : List Event) where
    -- the first event is accepted, and all are called
    pub in_turn_accepted : (called e s frame event).number ≡ 0 → called_in_turn e s frame (event ∷ events) ≡ called_on e 0 s frame (event ∷ events)
    unfolding called_in_turn
    in_turn_accepted z = rw (eq-eqb (called e s frame event).number 0 z)

    -- or refused, and none is
    pub in_turn_refused : ((called e s frame event).number ≡ 0 → ⊥) → called_in_turn e s frame (event ∷ events) ≡ called e s frame event
    unfolding called_in_turn
    in_turn_refused z = rw (ne_eqb (called e s frame event).number 0 z) (sym (called_unmoved e s frame event z))

  -- an event by itself is a call
  pub one_in_turn : (event : Event) → called_in_turn e s frame (event ∷ []) ≡ called e s frame event
  unfolding called_on
  one_in_turn event =
      let k = called e s frame event in
      by_test (eqb k.number 0)
      (λ t. let z = eqb-true k.number 0 t in
      in_turn_accepted event [] z
      ∙ rw add-zero (ap (λ (n : ℕ). record { state = k.state; number = n; reply = k.reply; count = k.count; frame = k.frame }) (sym z)))
      (λ t. in_turn_refused event [] (eqb-false k.number 0 t))

module _ (e : Seen) (kind : Kind) (value : ℕ) (s : State) (frame : List ℕ) where
  -- earlier records stand, the refused one has no effect
  pub record_unmoved : Unmoved s frame (record_called e kind value s frame)
  unfolding record_called
  record_unmoved = in_turn_unmoved e s frame _

  pub record_length : length (record_called e kind value s frame).frame ≡ length frame
  unfolding record_called
  record_length = in_turn_length e s frame _

  -- whether there is time is fixed when a panel is made, and survives reset
  pub record_timed : (record_called e kind value s frame).state.control.time.timed ≡ s.control.time.timed
  unfolding record_called
  record_timed = in_turn_timed e s frame _

  -- the frame is what it was
  pub record_state : (k : Called) → k ≡ record_called e kind value s frame → (k.number ≡ 0 → ⊥) → k.state ≡ s
  record_state k is z = ap (λ (x : Called). x.state) (is ∙ record_unmoved (λ y. z (ap (λ (x : Called). x.number) is ∙ y)))

  pub record_frame : (k : Called) → k ≡ record_called e kind value s frame → (k.number ≡ 0 → ⊥) → k.frame ≡ frame
  record_frame k is z = ap (λ (x : Called). x.frame) (is ∙ record_unmoved (λ y. z (ap (λ (x : Called). x.number) is ∙ y)))
