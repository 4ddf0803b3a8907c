-- Document 01, "Links": what a link makes of an event: what of it reaches the controller, and how the controller's answer goes back.
use Rattle.std.specs.Prelude.{ℕ, Bool, None, Option, Some}
use Rattle.base.specs.Choice.{when◌then◌else◌}
use Rattle.events.specs.declared.Transfer.{Transfer}
use Rattle.events.specs.declared.Event.{Event}
use Rattle.events.specs.declared.Event.TheVariants as event
use Rattle.links.specs.declared.Link.{Link}
use Rattle.links.specs.declared.Link.TheVariants.{Parallel, Serial}
use Rattle.links.specs.declared.Pairing.{Pairing}
use Rattle.links.specs.declared.Pairing.TheVariants.{Empty}
use Rattle.serial.specs.declared.Received.{Received}
use Rattle.serial.specs.declared.Heard.{Heard}
use Rattle.events.specs.declared.Deed.{Deed}
use Rattle.events.specs.declared.Deed.TheVariants.{Nothing, Whole, Fresh, Pass}
use Rattle.links.specs.declared.Rest.{Rest}
use Rattle.links.specs.declared.Rest.TheVariants.{Stays, Halved, Handed}
use Rattle.links.specs.declared.Carried.{Carried}
use Rattle.links.specs.declared.Replied.{Replied}
use Rattle.links.specs.Halves.{writing, paired, first_reply, pairing_after}
use Rattle.serial.specs.Serial.{heard, after_select_low}
use Rattle.links.specs.Idle.{idle}

-- the controller's answer is the reply, and the link is this
abbrev pub stays : Deed → Link → Carried
stays deed link = record { deed = deed; rest = Stays link }

-- parallel, DL = 1: one transfer, one byte; DL = 0: half bytes
unfoldable pub by_width : Bool → Pairing → Transfer → Carried
by_width dl pairing t = when dl then stays (Whole t) (Parallel pairing) else paired pairing t

-- a transfer is of the parallel link
abbrev pub transfer_taken : Bool → Link → Transfer → Option Carried
transfer_taken dl (Parallel pairing) t = Some (by_width dl pairing t)
transfer_taken dl (Serial receiver) t = None

-- serial: a byte acts on the bit that completes it
abbrev pub deed_of : Option Received → Deed
deed_of None = Nothing
deed_of (Some received) = Whole (writing received.register received.byte)

abbrev pub bit_carried : Heard → Carried
bit_carried h = stays (deed_of h.received) (Serial h.receiver)

-- a bit is of the serial link, and so is chip select low
abbrev pub bit_taken : Link → Bool → Option Carried
bit_taken (Parallel pairing) bit = None
bit_taken (Serial receiver) bit = Some (bit_carried (heard receiver bit))

abbrev pub select_taken : Link → Option Carried
select_taken (Parallel pairing) = None
select_taken (Serial receiver) = Some (stays Nothing (Serial (after_select_low receiver)))

-- an event on a link, by DL; reset is of both links, takes the interface pin, and leaves the link idle; time passes beside both
unfoldable pub taken_by : Bool → Link → Event → Option Carried
taken_by dl link (event.Transfer t) = transfer_taken dl link t
taken_by dl link (event.Bit bit) = bit_taken link bit
taken_by dl link event.SelectLow = select_taken link
taken_by dl link (event.Reset pin) = Some (stays (Fresh pin) (idle pin.parallel))
taken_by dl link (event.Pass eights) = Some (stays (Pass eights) link)

-- how the answer goes back: whole; of a half byte that acted the upper four bits, with the low four of a read's kept; or as it was kept
abbrev pub replied : Rest → ℕ → Replied
replied (Stays link) answer = record { link = link; reply = answer }
replied (Halved t) answer = record { link = Parallel (pairing_after t answer); reply = first_reply answer }
replied (Handed reply) answer = record { link = Parallel Empty; reply = reply }
