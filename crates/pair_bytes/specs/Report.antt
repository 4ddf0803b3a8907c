-- What a clock of the wire leaves where a board keeps the two panels as bytes.
use Rattle.std.specs.Prelude.{ℕ, ◌+◌, ◌*◌, ◌^◌, List, eqb}
use Rattle.base.specs.Choice.{when◌then◌else◌}
use Rattle.controller.specs.Memories.{Memories}
use Rattle.picture.specs.Picture.{Seen}
use Rattle.calls.specs.State.{state}
use Rattle.calls.specs.Calls.{Called}
use Rattle.lent_pair.specs.declared.Clock.{Clock}
use Rattle.lent_pair.specs.Pair.{Side, side, PairCalled, pair_called}
use Rattle.state_bytes.specs.Packed.{unpacked, packed}
use Rattle.state_bytes.specs.LinkPacked.{link_packed, unpacked_link}

-- a panel that is kept as bytes, and its frame
pub record SideBytes : Type 0 where
  pub memories : Memories
  pub control : List ℕ
  pub link : List ℕ
  pub frame : List ℕ

abbrev pub side_bytes : Memories → List ℕ → List ℕ → List ℕ → SideBytes
side_bytes m control link frame = record { memories = m; control = control; link = link; frame = frame }

-- any bytes are a state
abbrev pub spelled_side : Seen → SideBytes → Side
spelled_side e b = side e (state b.memories (unpacked b.control) (unpacked_link b.link)) b.frame

-- what a call leaves, as bytes; a refusal leaves these as they were
abbrev pub bytes_after : SideBytes → Called → SideBytes
bytes_after b k =
    when eqb k.number 0
    then side_bytes k.state.memories (packed k.state.control) (link_packed k.state.link) k.frame
    else b

-- one number of 32 bits: the refusal number in bits 7..0, the left panel's count in bits 19..8, the right's in bits 31..20
abbrev pub pair_answer : ℕ → ℕ → ℕ → ℕ
pair_answer number left right = number + left * 2 ^ 8 + right * 2 ^ 20

pub record PairReport : Type 0 where
  pub answer : ℕ
  pub left : SideBytes
  pub right : SideBytes

abbrev pub pair_report : ℕ → SideBytes → SideBytes → PairReport
pair_report answer left right = record { answer = answer; left = left; right = right }

abbrev pub pair_told : SideBytes → SideBytes → PairCalled → PairReport
pair_told l r k = pair_report (pair_answer k.left.number k.left.count k.right.count) (bytes_after l k.left) (bytes_after r k.right)

unfoldable pub pair_reported : Seen → SideBytes → Seen → SideBytes → Clock → PairReport
pair_reported el l er r clock = pair_told l r (pair_called (spelled_side el l) (spelled_side er r) clock)
