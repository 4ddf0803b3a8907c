-- Document 01, "Captures": what holds of a record. The statement is proved in proofs/Once.antt, as `eight-bits-count-once`.
use Rattle.std.specs.Prelude.{ℕ, ◌≤◌, List, [], ◌∷◌, ◌++◌, ◌≡◌, replicate}
use Rattle.picture.specs.Picture.{Seen}
use Rattle.calls.specs.State.{State}
use Rattle.events.specs.declared.Event.{Event}
use Rattle.calls.specs.Calls.{Called, called}
use Rattle.capture.specs.declared.kind.Kind.TheVariants.{EightBits}
use Rattle.records.specs.Records.{asks, called_in_turn}

-- the counts of calls in turn
unfoldable pub counts_in_turn : Seen → State → List ℕ → List Event → List ℕ
counts_in_turn e s frame [] = []
counts_in_turn e s frame (event ∷ events) =
    let k : Called = called e s frame event in
    k.count ∷ counts_in_turn e k.state k.frame events

-- of some counts all are 0 but this one, which is at most 1,024
pub record OneCounts (counts : List ℕ) (count : ℕ) : Type 0 where
  pub before : ℕ
  pub after : ℕ
  pub alone : counts ≡ replicate before 0 ++ (count ∷ replicate after 0)
  pub most : count ≤ 1024

-- Kind 4's eight bits count once: at most one of them completes a byte, and only that one names bytes.
abbrev pub EightBitsCountOnce : Type 0
EightBitsCountOnce =
    (e : Seen) (value : ℕ) (s : State) (frame : List ℕ)
    → OneCounts (counts_in_turn e s frame (asks EightBits value)) (called_in_turn e s frame (asks EightBits value)).count
