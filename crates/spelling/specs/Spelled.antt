-- A state, and where a replay stopped, in bytes.
use Rattle.std.specs.Prelude.{ℕ, zero, suc, ◌/◌, ◌%◌, List, [], ◌∷◌, ◌++◌}
use Rattle.calls.specs.State.{State}
use Rattle.state_bytes.specs.Packed.{packed}
use Rattle.state_bytes.specs.LinkPacked.{link_packed}

-- a state as 2,341 bytes: text memory 128, glyph memory 128, graphic memory 2,048, the controls 27, the link 10
unfoldable pub state_bytes : State → List ℕ
state_bytes s = s.memories.text ++ (s.memories.glyph ++ (s.memories.graphic ++ (packed s.control ++ link_packed s.link)))

-- a number in so many bytes, low byte first
abbrev pub low_first : ℕ → ℕ → List ℕ
low_first zero number = []
low_first (suc bytes) number = number % 256 ∷ low_first bytes (number / 256)

-- the place in eight bytes, the last accepted record's reply, and its count in two
unfoldable pub last_bytes : ℕ → ℕ → ℕ → List ℕ
last_bytes place reply count = low_first 8 place ++ (reply ∷ low_first 2 count)
