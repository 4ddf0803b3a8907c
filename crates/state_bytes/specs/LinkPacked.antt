-- The link as ten bytes: 0 parallel or 1 serial; the kind of the open half byte, 0 where none is, and its four bits as they stand on the
-- wires; where the receiver is; the run of ones; the header bits seen, the read bit, the register bit; the body bits seen, and the data
-- among them as a number. What does not apply is 0.
use Rattle.std.specs.Prelude.{ℕ, ◌/◌, Bool, true, false, List, [], ◌∷◌, get_or, eqb}
use Rattle.base.specs.Choice.{when◌then◌else◌}
use Rattle.base.specs.Bits.{raised}
use Rattle.links.specs.declared.Pairing.{Pairing}
use Rattle.links.specs.declared.Pairing.TheVariants.{Empty, Upper, Lower}
use Rattle.serial.specs.declared.Header.{Header}
use Rattle.serial.specs.declared.Header.TheVariants.{Begun, WithRead, WithRegister}
use Rattle.serial.specs.declared.Sync.{Sync}
use Rattle.serial.specs.declared.Sync.TheVariants.{Lost, Body}
use Rattle.serial.specs.declared.Receiver.{Receiver}
use Rattle.serial.specs.declared.Receiver.TheVariants.{Inside, Outside}
use Rattle.links.specs.declared.Link.{Link}
use Rattle.links.specs.declared.Link.TheVariants.{Parallel, Serial}
use Rattle.state_bytes.specs.Packed.{flag, flag_byte}

-- on the parallel link
abbrev pub open_bytes : ℕ → ℕ → List ℕ
open_bytes kind bits = 0 ∷ kind ∷ bits ∷ 0 ∷ 0 ∷ 0 ∷ 0 ∷ 0 ∷ 0 ∷ 0 ∷ []

-- kinds: 1 instruction write, 2 data write, 3 status read, 4 data read
abbrev pub pairing_packed : Pairing → List ℕ
pairing_packed Empty = open_bytes 0 0
pairing_packed (Upper register upper) = open_bytes (when register then 2 else 1) (raised upper)
pairing_packed (Lower register lower) = open_bytes (when register then 4 else 3) (raised lower)

-- 1: in a header; a bit that has not come is 0
abbrev pub inside_bytes : ℕ → Bool → Bool → List ℕ
inside_bytes seen read register = 1 ∷ 0 ∷ 0 ∷ 1 ∷ 0 ∷ seen ∷ flag_byte read ∷ flag_byte register ∷ 0 ∷ 0 ∷ []

abbrev pub header_packed : Header → List ℕ
header_packed Begun = inside_bytes 0 false false
header_packed (WithRead read) = inside_bytes 1 read false
header_packed (WithRegister read register) = inside_bytes 2 read register

-- 0: out of sync; 2: in a body
abbrev pub outside_packed : ℕ → Sync → List ℕ
outside_packed run Lost = 1 ∷ 0 ∷ 0 ∷ 0 ∷ run ∷ 0 ∷ 0 ∷ 0 ∷ 0 ∷ 0 ∷ []
outside_packed run (Body register seen byte) = 1 ∷ 0 ∷ 0 ∷ 2 ∷ run ∷ 0 ∷ 0 ∷ flag_byte register ∷ seen ∷ byte ∷ []

abbrev pub receiver_packed : Receiver → List ℕ
receiver_packed (Inside header) = header_packed header
receiver_packed (Outside run sync) = outside_packed run sync

abbrev pub link_packed : Link → List ℕ
link_packed (Parallel pairing) = pairing_packed pairing
link_packed (Serial receiver) = receiver_packed receiver

-- the same the other way: the link that ten bytes spell. A flag is bit 0 of its byte, four bits are bits 7..4; a number that none of the
-- cases has counts as the last
abbrev pub pairing_from : ℕ → ℕ → Pairing
pairing_from kind bits =
    when eqb kind 0 then Empty
    else when eqb kind 1 then Upper false (bits / 16)
    else when eqb kind 2 then Upper true (bits / 16)
    else when eqb kind 3 then Lower false (bits / 16)
    else Lower true (bits / 16)

abbrev pub header_from : ℕ → Bool → Bool → Header
header_from seen read register = when eqb seen 0 then Begun else when eqb seen 1 then WithRead read else WithRegister read register

unfoldable pub receiver_from : List ℕ → Receiver
receiver_from b =
    when eqb (get_or b 3 0) 0 then Outside (get_or b 4 0) Lost
    else when eqb (get_or b 3 0) 1 then Inside (header_from (get_or b 5 0) (flag (get_or b 6 0)) (flag (get_or b 7 0)))
    else Outside (get_or b 4 0) (Body (flag (get_or b 7 0)) (get_or b 8 0) (get_or b 9 0))

unfoldable pub unpacked_link : List ℕ → Link
unpacked_link b = when flag (get_or b 0 0) then Serial (receiver_from b) else Parallel (pairing_from (get_or b 1 0) (get_or b 2 0))
