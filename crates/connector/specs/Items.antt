-- Document 01, "Links": lists of whole writes, and what stands on the wires for them.
use Rattle.std.specs.Prelude.{ℕ, ◌+◌, ◌≤◌, ◌<◌, ◌≡◌, Bool, true, false, List, [], ◌∷◌, ◌++◌, map, replicate, Some}
use Rattle.base.specs.Bits.{bits7_4, bits3_0, raised}
use Rattle.events.specs.declared.Event.{Event}
use Rattle.events.specs.declared.Event.TheVariants.{Transfer, Bit}
use Rattle.events.specs.declared.Deed.{Deed}
use Rattle.events.specs.declared.Deed.TheVariants.{Nothing, Whole}
use Rattle.links.specs.declared.Link.{Link}
use Rattle.links.specs.declared.Link.TheVariants.{Parallel, Serial}
use Rattle.links.specs.declared.Pairing.TheVariants.{Empty}
use Rattle.serial.specs.declared.Sync.{Sync}
use Rattle.serial.specs.declared.Sync.TheVariants.{Body}
use Rattle.serial.specs.declared.Receiver.TheVariants.{Outside}
use Rattle.links.specs.Halves.{writing}
use Rattle.links.specs.Idle.{idle}
use Rattle.sender.specs.Sender.{three_bytes, highest_first}
use Rattle.links.specs.Taken.{stays, taken_by}

-- a byte written to a register
pub record WholeWrite : Type 0 where
  pub register : Bool
  pub byte : ℕ
  pub small : byte < 256

-- an event beside the wires: each link hands it on alike, and stays as it is
pub record Beside : Type 0 where
  pub event : Event
  pub deed : Deed
  pub alike : (dl : Bool) (link : Link) → taken_by dl link event ≡ Some (stays deed link)

-- whole writes, with any events beside the wires between them
pub data Item : Type 0 where
  write : WholeWrite → Item
  beside_wires : Beside → Item

-- what an item is to the controller
abbrev pub deed : Item → Deed
deed (write w) = Whole (writing w.register w.byte)
deed (beside_wires x) = x.deed

-- the ways that a list of items may come; half bytes with what stands in bits 3..0 of each transfer in turn
pub data Way : Type 0 where
  whole_bytes : Way
  halves : (ℕ → ℕ) → Way
  serial : Way

-- a half byte in bits 7..4, above four bits that do not count
abbrev pub above : ℕ → ℕ → ℕ
above half low = raised half + bits3_0 low

-- the bits of bytes in a row
unfoldable pub bits_of : List ℕ → List Bool
bits_of [] = []
bits_of (b ∷ more) = highest_first b ++ bits_of more

-- a write on the wires: one transfer of its byte; two, upper half first; or the 24 bits of the sender's three bytes
abbrev pub write_events : Way → WholeWrite → List Event
write_events whole_bytes w = Transfer (writing w.register w.byte) ∷ []
write_events (halves low) w =
    Transfer (writing w.register (above (bits7_4 w.byte) (low 0)))
    ∷ Transfer (writing w.register (above (bits3_0 w.byte) (low 1)))
    ∷ []
write_events serial w = map Bit (bits_of (three_bytes w.register w.byte))

-- of these events exactly the last acts
abbrev pub write_deeds : Way → WholeWrite → List Deed
write_deeds whole_bytes w = deed (write w) ∷ []
write_deeds (halves low) w = Nothing ∷ deed (write w) ∷ []
write_deeds serial w = replicate 23 Nothing ++ (deed (write w) ∷ [])

-- the way as it goes on after a write: the next half bytes have the next bits 3..0
abbrev pub onward : Way → Way
onward whole_bytes = whole_bytes
onward (halves low) = halves (λ k. low (k + 2))
onward serial = serial

-- a list of items on the wires
unfoldable pub wires : Way → List Item → List Event
wires way [] = []
wires way (write w ∷ items) = write_events way w ++ wires (onward way) items
wires way (beside_wires x ∷ items) = x.event ∷ wires way items

-- what of each of its events acts
unfoldable pub wire_deeds : Way → List Item → List Deed
wire_deeds way [] = []
wire_deeds way (write w ∷ items) = write_deeds way w ++ wire_deeds way items
wire_deeds way (beside_wires x ∷ items) = x.deed ∷ wire_deeds way items

-- the link of a way, idle
abbrev pub idle_on : Way → Link
idle_on whole_bytes = idle true
idle_on (halves low) = idle true
idle_on serial = idle false

-- a link with nothing half received: no half byte open; outside a header with no run of ones
abbrev pub resting : Way → Sync → Link
resting whole_bytes sync = Parallel Empty
resting (halves low) sync = Parallel Empty
resting serial sync = Serial (Outside 0 sync)

-- after whole writes the receiver is in the body under the last one's header, with no bit seen
unfoldable pub sync_after : Sync → List Item → Sync
sync_after sync [] = sync
sync_after sync (write w ∷ items) = sync_after (Body w.register 0 0) items
sync_after sync (beside_wires x ∷ items) = sync_after sync items

-- two bytes to a register are equal, or function sets, 20h..3Fh, that differ at most in bit 4
pub data SameButBit4 : Bool → ℕ → ℕ → Type 0 where
  same : {register : Bool} {b : ℕ} → SameButBit4 register b b
  function_sets : {b c : ℕ} →
      0x20 ≤ b → b < 0x40 → 0x20 ≤ c → c < 0x40 → bits3_0 b ≡ bits3_0 c → SameButBit4 false b c

-- two lists are equal except bit 4 of function sets
pub data Alike : List Item → List Item → Type 0 where
  none : Alike [] []
  writes : {w v : WholeWrite} {ws vs : List Item} →
      w.register ≡ v.register → SameButBit4 w.register w.byte v.byte →
      Alike ws vs → Alike (write w ∷ ws) (write v ∷ vs)
  events : {x : Beside} {ws vs : List Item} → Alike ws vs → Alike (beside_wires x ∷ ws) (beside_wires x ∷ vs)
