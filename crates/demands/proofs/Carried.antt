-- What holds of the ways in which a half byte is carried holds of every half byte.
use Prim.Native.Nat.{ℕ}
use mathlib.Core.Bool.{Bool, true, false, beq}
use Rattle.base.proofs.Choice.{either}
use Rattle.events.specs.declared.Transfer.{Transfer}
use Rattle.events.specs.declared.Transfer.TheVariants.{Instruct, Write, Status, Read}
use Rattle.links.specs.declared.Carried.{Carried}
use Rattle.links.specs.declared.Pairing.{Pairing}
use Rattle.links.specs.declared.Pairing.TheVariants.{Empty, Upper, Lower}
use Rattle.links.specs.Halves.{kept, acts, hands_over, write_half, read_half, paired}

-- a write's first half, a half that acts, or a read's second
module _
    (P : Carried → Type 0) (keeps : (register : Bool) (upper : ℕ) → P (kept register upper)) (does : (t : Transfer) → P (acts t)) (hands : (reply : ℕ) → P (hands_over reply))
  where
    of-write : (pairing : Pairing) (register : Bool) (value : ℕ) → P (write_half pairing register value)
    unfolding write_half
    of-write Empty register value = keeps register _
    of-write (Upper was upper) register value = either P (beq was register) (does _) (keeps register _)
    of-write (Lower was lower) register value = keeps register _

    of-read : (pairing : Pairing) (register : Bool) → P (read_half pairing register)
    unfolding read_half
    of-read Empty register = does _
    of-read (Upper was upper) register = does _
    of-read (Lower was lower) register = either P (beq was register) (hands _) (does _)

    pub of-paired : (pairing : Pairing) (t : Transfer) → P (paired pairing t)
    unfolding paired
    of-paired pairing (Instruct value) = of-write pairing false value
    of-paired pairing (Write value) = of-write pairing true value
    of-paired pairing Status = of-read pairing false
    of-paired pairing Read = of-read pairing true
