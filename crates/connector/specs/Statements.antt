-- Document 01, "Links": what holds of the three links and the sender, each statement with what it means on the wires.
-- Each is proved in proofs/, under its own name in small letters (`ItemsAct` as `items-act`). A controller is
-- anything that `Controller` describes: its state may hold a frame, counts or time, and no statement looks into it. The panel is one
-- (crate `demands`, `board`).
use Rattle.std.specs.Prelude.{ℕ, ◌≤◌, ◌<◌, ◌≡◌, Bool, true, false, List, [], ◌∷◌, ◌++◌, length, replicate, Some, None}
use Rattle.base.specs.Bits.{bits7_4, bits3_0}
use Rattle.links.specs.declared.Pairing.TheVariants.{Empty, Upper}
use Rattle.events.specs.declared.Deed.TheVariants.{Whole}
use Rattle.links.specs.declared.Link.TheVariants.{Parallel}
use Rattle.serial.specs.declared.Sync.{Sync}
use Rattle.serial.specs.declared.Sync.TheVariants.{Body}
use Rattle.serial.specs.declared.Receiver.{Receiver}
use Rattle.serial.specs.declared.Receiver.TheVariants.{Outside}
use Rattle.links.specs.Halves.{joined, writing, reading, kept, acts, paired}
use Rattle.connector.specs.Listened.{listened, bytes_in}
use Rattle.sender.specs.Sender.{three_bytes}
use Rattle.links.specs.Taken.{by_width, transfer_taken}
use Rattle.connector.specs.Items.{Beside, Item, Way, above, bits_of, wires, wire_deeds, sync_after, SameButBit4, Alike}
use Rattle.connector.specs.Connector.{Controller, Came, comes, rests, carried_at, taken_at, runs, act, does, KeepsDl, Idles}
use Rattle.serial.specs.Serial.{byte_to}

module _ {S : Type 0} (on : Controller S) where
  -- 1. Any number of such writes, heard bit by bit on a serial link with nothing half received and chip select high, act exactly as the
  -- bytes given, in order, with any events beside the wires between whole writes; no event is refused, of each write's exactly the last acts, and
  -- nothing is half received then. The same of every way: over bytes, over half bytes with anything in bits 3..0, over serial. A parallel link takes its width
  -- from DL, so there the items must leave DL as that link has it.
  abbrev pub ItemsAct : Type 0
  ItemsAct =
      Idles on → (way : Way) (s : S) (sync : Sync) (items : List Item) → KeepsDl on way s items →
      runs on (rests way s sync) (wires way items)
      ≡ comes (record { deeds = wire_deeds way items; at = rests way (does on s items) (sync_after sync items) })

  module _ (◌≈◌ : S → S → Type 0) where
    infix 4 ◌≈◌
    -- `≈` stands for "equal apart from DL": writes that are equal except bit 4 of function sets keep it, and events beside the wires do
    pub record Respected : Type 0 where
      pub writes : (s t : S) (register : Bool) (b c : ℕ) →
          b < 256 → c < 256 → s ≈ t → SameButBit4 register b c → act on s register b ≈ act on t register c
      pub events : (s t : S) (x : Beside) → s ≈ t → (on.perform s x.deed).state ≈ (on.perform t x.deed).state

    -- 2. One list reaches one controller state over all links: two lists that are equal except bit 4 of function sets, done in states
    -- that are equal apart from DL, end in such states; and by 1 each does the same over any way whose DL it keeps.
    abbrev pub ListsAgree : Type 0
    ListsAgree =
        Respected → (s t : S) (items others : List Item) → s ≈ t → Alike items others → does on s items ≈ does on t others

-- 3. In any sixteen bits, wherever the receiver stands, at most one byte completes: eight bits in one record have one count.
abbrev pub AtMostOneByte : Type 0
AtMostOneByte = (receiver : Receiver) (bits : List Bool) → length bits ≤ 16 → bytes_in (listened receiver bits).brought ≤ 1

-- the replies and states of a read's two half bytes, beside those of the same read as one byte
pub record InHalves {S : Type 0} (one first second : Came S) (later : S) : Type 0 where
  -- together they hand over the same answer
  pub together : joined (bits7_4 first.reply) (bits7_4 second.reply) ≡ one.reply
  -- each in bits 7..4, zeros below
  pub zeros : (bits3_0 first.reply ≡ 0) × (bits3_0 second.reply ≡ 0)
  -- the first acts as the whole read does
  pub acts : first.at.state ≡ one.at.state
  -- the second leaves the controller as it stood by then, and nothing open
  pub leaves : second.at ≡ record { state = later; link = Parallel Empty }

module _ {S : Type 0} (on : Controller S) where
  -- 4. What a read's two half bytes hand over together is what one byte read answers, whatever happens between them.
  abbrev pub HalvesReadWhole : Type 0
  HalvesReadWhole =
      Idles on → (s later : S) (register : Bool) → (on.perform s (Whole (reading register))).answer < 256 →
      let one : Came S = carried_at on s (by_width true Empty (reading register)) in
      let first : Came S = carried_at on s (by_width false Empty (reading register)) in
      (second : Came S) → taken_at on later (transfer_taken false first.at.link (reading register)) ≡ comes second →
      InHalves one first second later

-- 5. Of a write's two half bytes the first is only kept, and exactly the second acts, with the whole byte.
abbrev pub SecondHalfActs : Type 0
SecondHalfActs =
    (register : Bool) (byte : ℕ) → byte < 256 → (low other : ℕ) →
    (paired Empty (writing register (above (bits7_4 byte) low)) ≡ kept register (bits7_4 byte))
    × (paired (Upper register (bits7_4 byte)) (writing register (above (bits3_0 byte) other)) ≡ acts (writing register byte))

-- 6. Of a write's 24 serial bits exactly the last completes a byte, the one sent. So it is wherever the receiver stands
-- outside a header with no run of ones; afterwards it stands so again, with no bit seen.
abbrev pub LastBitActs : Type 0
LastBitActs =
    (sync : Sync) (register : Bool) (byte : ℕ) → byte < 256 →
    listened (Outside 0 sync) (bits_of (three_bytes register byte))
    ≡ record { receiver = Outside 0 (Body register 0 0); brought = replicate 23 None ++ (Some (byte_to register byte) ∷ []) }
