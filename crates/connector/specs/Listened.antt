-- Document 01, "Links": serial bits in a row.
use Rattle.std.specs.Prelude.{ℕ, suc, Bool, List, [], ◌∷◌, Option, Some, None}
use Rattle.serial.specs.declared.Receiver.{Receiver}
use Rattle.serial.specs.declared.Received.{Received}
use Rattle.serial.specs.Serial.{heard}

-- bits in a row: the receiver after them, and what each of them brought
pub record Listened : Type 0 where
  pub receiver : Receiver
  pub brought : List (Option Received)

abbrev began : Option Received → Listened → Listened
began received l = record { receiver = l.receiver; brought = received ∷ l.brought }

unfoldable pub listened : Receiver → List Bool → Listened
listened receiver [] = record { receiver = receiver; brought = [] }
listened receiver (bit ∷ bits) = began (heard receiver bit).received (listened (heard receiver bit).receiver bits)

-- how many bytes were received
unfoldable pub bytes_in : List (Option Received) → ℕ
bytes_in [] = 0
bytes_in (None ∷ rest) = bytes_in rest
bytes_in (Some received ∷ rest) = suc (bytes_in rest)
