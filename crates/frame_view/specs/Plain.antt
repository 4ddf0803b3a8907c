-- The glass in plain characters: 32 lines of 256, # for a dot that is set and . for one that is not.
use Rattle.std.specs.Prelude.{ℕ, ◌/◌, ◌%◌, List, eqb}
use Rattle.base.specs.Choice.{when◌then◌else◌}
use Rattle.base.specs.Lists.{upto}
use Rattle.frame_view.specs.Dots.{dot_at}

-- a line is 256 characters and a line feed
unfoldable pub plain_at : List ℕ → ℕ → ℕ
plain_at frame i =
    when eqb (i % 257) 256 then 0x0A
    else when eqb (dot_at frame (i % 257) (i / 257)) 1 then 0x23
    else 0x2E

unfoldable pub plain : List ℕ → List ℕ
plain frame = upto 8224 (plain_at frame)
