-- Document 01, "Memories and flags": which of the two a link is, and a link that is idle.
use Rattle.std.specs.Prelude.{Bool, true, false}
use Rattle.links.specs.declared.Pairing.TheVariants.{Empty}
use Rattle.serial.specs.Serial.{idle_receiver}
use Rattle.links.specs.declared.Link.{Link}
use Rattle.links.specs.declared.Link.TheVariants.{Parallel, Serial}

-- the interface pin: 0 serial, 1 parallel; parallel: no half byte is open
abbrev pub idle : Bool → Link
idle true = Parallel Empty
idle false = Serial idle_receiver

abbrev pub is_serial : Link → Bool
is_serial (Parallel pairing) = false
is_serial (Serial receiver) = true
