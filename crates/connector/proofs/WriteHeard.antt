-- The 24 bits of one write complete its byte on the last: by a table of the sixteen half bytes, for each half.
use Rattle.std.proofs.Common.{Option, Some, None}
use Prim.Native.Nat.{ℕ, ◌+◌, ◌*◌, ◌≤◌, ◌<◌}
use mathlib.Core.Path.{◌≡◌, refl, ap, ◌∙◌}
use mathlib.Core.Bool.{Bool, true, false}
use mathlib.Core.List.{List, [], ◌∷◌, ◌++◌}
use lib.ListN.{replicate}
use native.Mathlib.Omega.{arith}
use Rattle.base.specs.Choice.{when◌then◌else◌}
use Rattle.base.specs.Bits.{bit, bits7_4, bits3_0, raised}
use Rattle.base.proofs.Below.{below, ◌&◌}
use Rattle.serial.specs.declared.Sync.{Sync}
use Rattle.serial.specs.declared.Sync.TheVariants.{Body}
use Rattle.serial.specs.declared.Receiver.{Receiver}
use Rattle.serial.specs.declared.Receiver.TheVariants.{Outside}
use Rattle.serial.specs.declared.Received.{Received}
use Rattle.serial.specs.Serial.{byte_to, counted, after_header, header_bit, pushed, body_bit, completed, heard}
use Rattle.connector.specs.Listened.{Listened, listened}
use Rattle.sender.specs.Sender.{header_byte, highest_first}
use Rattle.connector.specs.Items.{bits_of}
use Rattle.connector.specs.Statements.{LastBitActs}

-- what came before, with what came then
abbrev and_then : List (Option Received) → Listened → Listened
and_then before l = record { receiver = l.receiver; brought = before ++ l.brought }

-- some bits, then some more
pub listened_append : (r : Receiver) (bits more : List Bool) →
    listened r (bits ++ more) ≡ and_then (listened r bits).brought (listened (listened r bits).receiver more)
unfolding listened
listened_append r [] more = refl
listened_append r (b ∷ bits) more = ap (and_then ((heard r b).received ∷ [])) (listened_append (heard r b).receiver bits more)

-- a byte's four more data bits
abbrev taken_in : ℕ → ℕ → ℕ
taken_in byte half = pushed (pushed (pushed (pushed byte (bit 3 half)) (bit 2 half)) (bit 1 half)) (bit 0 half)

Upper : Bool → ℕ → Type 0
Upper register half =
    listened (Outside 0 (Body register 0 0)) (highest_first (raised half))
    ≡ record { receiver = Outside 0 (Body register 8 half); brought = replicate 8 None }

-- the upper half, after no bit
upper_heard : (register : Bool) (half : ℕ) → half < 16 → Upper register half
unfolding Upper heard counted body_bit completed listened
upper_heard register =
    below (Upper register) 16
    (refl & refl & refl & refl & refl & refl & refl & refl & refl & refl & refl & refl & refl & refl & refl & refl & tt)

Lower : Bool → ℕ → ℕ → Type 0
Lower register byte half =
    listened (Outside 0 (Body register 8 byte)) (highest_first (raised half))
    ≡ record {
      receiver = Outside 0 (Body register 0 0);
      brought = replicate 7 None ++ (Some (byte_to register (taken_in byte half)) ∷ []);
    }

-- the lower half, after eight
lower_heard : (register : Bool) (byte half : ℕ) → half < 16 → Lower register byte half
unfolding Lower heard counted body_bit completed listened
lower_heard register byte =
    below (Lower register byte) 16
    (refl & refl & refl & refl & refl & refl & refl & refl & refl & refl & refl & refl & refl & refl & refl & refl & tt)

-- a bit as a number
abbrev one : Bool → ℕ
one b = when b then 1 else 0

Sum : ℕ → Type 0
Sum half = one (bit 3 half) * 8 + one (bit 2 half) * 4 + one (bit 1 half) * 2 + one (bit 0 half) ≡ half

-- a half byte is the sum of its bits
bits_sum : (half : ℕ) → half < 16 → Sum half
unfolding Sum
bits_sum =
    below Sum 16
    (refl & refl & refl & refl & refl & refl & refl & refl & refl & refl & refl & refl & refl & refl & refl & refl & tt)

one-small : (b : Bool) → one b ≤ 1
one-small true = omega arith
one-small false = omega arith

four_pushed : (byte : ℕ) (b3 b2 b1 b0 : Bool) → byte < 16 →
    pushed (pushed (pushed (pushed byte b3) b2) b1) b0 ≡ byte * 16 + (one b3 * 8 + one b2 * 4 + one b1 * 2 + one b0)
four_pushed byte b3 b2 b1 b0 h = omega (arith, one-small b3, one-small b2, one-small b1, one-small b0)

taken_in-joins : (byte half : ℕ) → byte < 16 → half < 16 → taken_in byte half ≡ byte * 16 + half
unfolding Sum
taken_in-joins byte half h k =
    four_pushed byte (bit 3 half) (bit 2 half) (bit 1 half) (bit 0 half) h ∙ ap (λ (x : ℕ). byte * 16 + x) (bits_sum half k)

-- the header begins a body, whatever was half received
header-heard : (sync : Sync) (register : Bool) →
    listened (Outside 0 sync) (highest_first (header_byte register))
    ≡ record { receiver = Outside 0 (Body register 0 0); brought = replicate 8 None }
unfolding heard counted after_header header_bit body_bit completed listened
header-heard sync false = refl
header-heard sync true = refl

-- bits whose outcome is known, then more from there
then_more : (r : Receiver) (bits more : List Bool) {l m : Listened} →
    listened r bits ≡ l → listened l.receiver more ≡ m → listened r (bits ++ more) ≡ and_then l.brought m
then_more r bits more {l} p q =
    listened_append r bits more
    ∙ ap (λ (k : Listened). and_then k.brought (listened k.receiver more)) p
    ∙ ap (and_then l.brought) q

pub last-bit-acts : LastBitActs
unfolding Upper Lower bits_of listened
last-bit-acts sync register byte h =
    let upper : List Bool = highest_first (raised (bits7_4 byte)) in
    let lower : List Bool = highest_first (raised (bits3_0 byte)) ++ [] in
    then_more (Outside 0 sync) (highest_first (header_byte register)) (upper ++ lower) (header-heard sync register)
    (then_more (Outside 0 (Body register 0 0)) upper lower (upper_heard register (bits7_4 byte) (omega arith))
    (lower_heard register (bits7_4 byte) (bits3_0 byte) (omega arith)))
    ∙ ap (λ (b : ℕ). record {
      receiver = Outside 0 (Body register 0 0);
      brought = replicate 23 None ++ (Some (byte_to register b) ∷ []);
    }) (taken_in-joins (bits7_4 byte) (bits3_0 byte) (omega arith) (omega arith) ∙ omega arith)
