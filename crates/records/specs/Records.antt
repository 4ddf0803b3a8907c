-- Document 01, "Captures", and requests K1 and K3: what a record asks of a panel, and what that leaves.
use Rattle.std.specs.Prelude.{ℕ, ◌+◌, List, [], ◌∷◌, map, eqb}
use Rattle.base.specs.Bits.{bit}
use Rattle.base.specs.Choice.{when◌then◌else◌}
use Rattle.events.specs.declared.Pin.{Pin}
use Rattle.events.specs.declared.Event.{Event}
use Rattle.events.specs.declared.Event.TheVariants.{Transfer, Bit, SelectLow, Reset, Pass}
use Rattle.events.specs.declared.Transfer.TheVariants.{Instruct, Write, Status, Read}
use Rattle.controller.specs.State.{numbering_of}
use Rattle.sender.specs.Sender.{highest_first}
use Rattle.picture.specs.Picture.{Seen}
use Rattle.capture.specs.declared.kind.Kind.{Kind}
use Rattle.capture.specs.declared.kind.Kind.TheVariants as kinds
use Rattle.calls.specs.State.{State}
use Rattle.calls.specs.Calls.{Called, refused, called}

-- reset's value: bit 0 is the interface pin, bit 1 chooses the numbering
abbrev pub pin_of : ℕ → Pin
pin_of value = record { parallel = bit 0 value; numbering = numbering_of (bit 1 value) }

-- the events of each kind with its value; serial bits highest first
abbrev pub asks : Kind → ℕ → List Event
asks kinds.InstructionWrite value = Transfer (Instruct value) ∷ []
asks kinds.DataWrite value = Transfer (Write value) ∷ []
asks kinds.StatusRead value = Transfer Status ∷ []
asks kinds.DataRead value = Transfer Read ∷ []
asks kinds.EightBits value = map Bit (highest_first value)
asks kinds.ChipSelectLow value = SelectLow ∷ []
asks kinds.Reset value = Reset (pin_of value) ∷ []
asks kinds.TimePasses value = Pass value ∷ []

-- called in turn, behind a call that replied so: number 0, the last reply, the sum of the counts
unfoldable pub called_on : Seen → ℕ → State → List ℕ → List Event → Called
called_on e reply s frame [] = record { state = s; number = 0; reply = reply; count = 0; frame = frame }
called_on e reply s frame (event ∷ events) =
    let k : Called = called e s frame event in
    let on : Called = called_on e k.reply k.state k.frame events in
    record { state = on.state; number = 0; reply = on.reply; count = k.count + on.count; frame = on.frame }

abbrev pub first_number : Seen → State → List ℕ → List Event → ℕ
first_number e s frame [] = 0
first_number e s frame (event ∷ events) = (called e s frame event).number

-- refused as the first of them is, and then none is heard; else called in turn
unfoldable pub called_in_turn : Seen → State → List ℕ → List Event → Called
called_in_turn e s frame events =
    when eqb (first_number e s frame events) 0 then called_on e 0 s frame events
    else refused s frame (first_number e s frame events)

-- a record: its events in turn
unfoldable pub record_called : Seen → Kind → ℕ → State → List ℕ → Called
record_called e kind value s frame = called_in_turn e s frame (asks kind value)
