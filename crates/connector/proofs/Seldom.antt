-- In sixteen bits at most one byte completes: each bit brings the receiver at most one nearer to a byte, and after a byte
-- sixteen are needed again.
use Rattle.std.proofs.Common.{Option, Some, None}
use Prim.Native.Nat.{ℕ, suc, ◌+◌, ◌-◌, ◌≤◌, ◌<◌}
use mathlib.Core.Path.{◌≡◌, refl}
use mathlib.Core.Bool.{Bool, true, false}
use mathlib.Core.List.{List, [], ◌∷◌}
use lib.Dec.{ltb}
use lib.ListN.{length}
use native.Mathlib.Omega.{arith}
use borrow.Author.Tests.{ltb-false}
use Rattle.base.specs.Choice.{when◌then◌else◌}
use Rattle.serial.specs.declared.Header.TheVariants.{Begun, WithRead, WithRegister}
use Rattle.serial.specs.declared.Sync.{Sync}
use Rattle.serial.specs.declared.Sync.TheVariants.{Lost, Body}
use Rattle.serial.specs.declared.Receiver.{Receiver}
use Rattle.serial.specs.declared.Receiver.TheVariants.{Inside, Outside}
use Rattle.serial.specs.declared.Received.{Received}
use Rattle.serial.specs.Serial.{byte_to, counted, after_header, header_bit, data_next, pushed, body_bit, completed, heard}
use Rattle.connector.specs.Listened.{listened, bytes_in}
use Rattle.connector.specs.Statements.{AtMostOneByte}

-- so many bits at least until a byte completes
abbrev left : Sync → ℕ
left Lost = 16
left (Body register seen byte) = 16 - seen

abbrev near : Receiver → ℕ
near (Inside header) = 16
near (Outside run sync) = left sync

-- what a bit does to that number
Falls : ℕ → Receiver → Option Received → Type 0
Falls n next None = n ≤ suc (near next)
Falls n next (Some received) = (n ≤ 1) × (near next ≡ 16)

left-most : (sync : Sync) → left sync ≤ 16
left-most Lost = omega arith
left-most (Body register seen byte) = omega arith

-- a header is no nearer than a body
counted-near : (run : ℕ) (bit : Bool) (sync : Sync) → left sync ≤ near (counted run bit sync)
unfolding counted
counted-near run false sync = omega arith
counted-near run true sync = go (ltb run 4)
  where
    go : (t : Bool) → left sync ≤ near (when t then Outside (run + 1) sync else Inside Begun)
    go true = omega arith
    go false = left-most sync

one-falls : (sync : Sync) → left sync ≤ suc (left (body_bit sync true))
unfolding body_bit
one-falls Lost = omega arith
one-falls (Body register seen byte) = go (data_next seen)
  where
    go : (d : Bool) → 16 - seen ≤ suc (left (when d then Body register (seen + 1) (pushed byte true) else Lost))
    go true = omega arith
    go false = omega arith

zero-falls : (sync : Sync) → Falls (left sync) (Outside 0 (body_bit sync false)) (completed sync false)
unfolding Falls body_bit completed
zero-falls Lost = omega arith
zero-falls (Body register seen byte) = go (data_next seen) (ltb seen 15) refl
  where
    go : (d l : Bool) → ltb seen 15 ≡ l →
        Falls (16 - seen)
        (Outside 0 (
        when d then Body register (seen + 1) (pushed byte false)
        else when l then Body register (seen + 1) byte
        else Body register 0 0
        ))
        (when d then None else when l then None else Some (byte_to register byte))
    go true l e = omega arith
    go false true e = omega arith
    go false false e = (omega (arith, ltb-false seen 15 e), refl)

falls : (r : Receiver) (bit : Bool) → Falls (near r) (heard r bit).receiver (heard r bit).received
unfolding Falls heard header_bit after_header counted completed
falls (Inside Begun) bit = omega arith
falls (Inside (WithRead read)) bit = omega arith
falls (Inside (WithRegister true register)) bit = omega arith
falls (Inside (WithRegister false register)) true = omega arith
falls (Inside (WithRegister false register)) false = omega arith
falls (Outside run sync) true = omega (arith, one-falls sync, counted-near run true (body_bit sync true))
falls (Outside run sync) false = zero-falls sync

-- what a bit brings, then what the rest brings
abbrev bytes-from : Option Received → Receiver → List Bool → ℕ
bytes-from x r bits = bytes_in (x ∷ (listened r bits).brought)

none_soon : (bits : List Bool) (r : Receiver) → length bits < near r → bytes_in (listened r bits).brought ≡ 0
unfolding Falls listened bytes_in
none_soon [] r h = refl
none_soon (b ∷ bits) r h = go (heard r b).received (heard r b).receiver (falls r b) (none_soon bits (heard r b).receiver)
  where
    go : (x : Option Received) (next : Receiver) → Falls (near r) next x →
        (length bits < near next → bytes_in (listened next bits).brought ≡ 0) → bytes-from x next bits ≡ 0
    go None next f rest = rest (omega arith)
    go (Some received) next f rest = absurd (omega arith)

pub at-most-one-byte : AtMostOneByte
unfolding Falls listened bytes_in
at-most-one-byte r [] h = omega arith
at-most-one-byte r (b ∷ bits) h =
    go (heard r b).received (heard r b).receiver (falls r b) (at-most-one-byte (heard r b).receiver bits (omega arith))
  where
    go : (x : Option Received) (next : Receiver) → Falls (near r) next x → bytes_in (listened next bits).brought ≤ 1 →
        bytes-from x next bits ≤ 1
    go None next f rest = rest
    go (Some received) next f rest = omega (arith, none_soon bits next (omega arith))
