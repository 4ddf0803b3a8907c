-- Byte by byte.
use Rattle.std.proofs.Common.{◌≡◌, ◌-◌, get_or}
use Rattle.base.specs.Painting.{painted, everywhere, between}
use Rattle.tiles.proofs.invert_if.Given as goal

abbrev pub invariant-loop-byte : goal.invariant-loop-byte
invariant-loop-byte g l = l.tiles ≡ painted (between 0 l.byte-index everywhere) (λ k. 0xFF - get_or l.initial.tiles k 0) l.initial.tiles
