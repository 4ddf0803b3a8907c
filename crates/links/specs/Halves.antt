-- Document 01, "Links": the parallel link with DL = 0, where half bytes are paired.
use Rattle.std.specs.Prelude.{ℕ, ◌+◌, ◌*◌, Bool, true, false}
use Rattle.std.specs.Bool.{beq}
use Rattle.base.specs.Choice.{when◌then◌else◌}
use Rattle.base.specs.Bits.{bits7_4, bits3_0, raised}
use Rattle.events.specs.declared.Transfer.{Transfer}
use Rattle.events.specs.declared.Transfer.TheVariants.{Instruct, Write, Status, Read}
use Rattle.links.specs.declared.Pairing.{Pairing}
use Rattle.links.specs.declared.Pairing.TheVariants.{Empty, Upper, Lower}
use Rattle.links.specs.declared.Link.TheVariants.{Parallel}
use Rattle.events.specs.declared.Deed.TheVariants.{Nothing, Whole}
use Rattle.links.specs.declared.Rest.TheVariants.{Stays, Halved, Handed}
use Rattle.links.specs.declared.Carried.{Carried}

-- the byte of two halves
abbrev pub joined : ℕ → ℕ → ℕ
joined upper lower = bits3_0 upper * 16 + bits3_0 lower

-- the kinds: a write is of an instruction (register 0) or of data (1)
abbrev pub writing : Bool → ℕ → Transfer
writing false byte = Instruct byte
writing true byte = Write byte

-- a read is of the status (register 0) or of data (1)
abbrev pub reading : Bool → Transfer
reading false = Status
reading true = Read

-- a write's first half: nothing acts, its upper half is open
abbrev pub kept : Bool → ℕ → Carried
kept register upper = record { deed = Nothing; rest = Stays (Parallel (Upper register upper)) }

-- a write's second half, or a read's first: the whole transfer acts
abbrev pub acts : Transfer → Carried
acts t = record { deed = Whole t; rest = Halved t }

-- a read's second half: nothing acts, this is the reply
abbrev pub hands_over : ℕ → Carried
hands_over reply = record { deed = Nothing; rest = Handed reply }

-- a write acts at its second half byte; bits 7..4 count, upper half first
unfoldable pub write_half : Pairing → Bool → ℕ → Carried
write_half Empty register value = kept register (bits7_4 value)
write_half (Upper was upper) register value =
    when beq was register then acts (writing register (joined upper (bits7_4 value))) else kept register (bits7_4 value)
write_half (Lower was lower) register value = kept register (bits7_4 value)

-- a read acts at its first; its second half only hands over the low four bits of the same answer
unfoldable pub read_half : Pairing → Bool → Carried
read_half Empty register = acts (reading register)
read_half (Upper was upper) register = acts (reading register)
read_half (Lower was lower) register = when beq was register then hands_over (raised lower) else acts (reading register)

-- one half-byte transfer: if the second differs from the first in kind, the first is dropped and the new one is a first
unfoldable pub paired : Pairing → Transfer → Carried
paired pairing (Instruct value) = write_half pairing false value
paired pairing (Write value) = write_half pairing true value
paired pairing Status = read_half pairing false
paired pairing Read = read_half pairing true

-- the reply of a transfer that acted, where it answered this byte: four bits in 7..4
abbrev pub first_reply : ℕ → ℕ
first_reply answer = raised (bits7_4 answer)

-- what a transfer that acted leaves open: of a read the low four bits of its answer, of a write nothing
abbrev pub pairing_after : Transfer → ℕ → Pairing
pairing_after (Instruct byte) answer = Empty
pairing_after (Write byte) answer = Empty
pairing_after Status answer = Lower false (bits3_0 answer)
pairing_after Read answer = Lower true (bits3_0 answer)
