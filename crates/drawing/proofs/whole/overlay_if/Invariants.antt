-- Byte by byte.
use Rattle.std.proofs.Common.{◌≡◌, ◌+◌, ◌-◌, get_or}
use lib.Bits.{bit_xor}
use Rattle.base.specs.Painting.{painted, everywhere, between}
use Rattle.drawing.proofs.whole.overlay_if.Given as goal

abbrev pub invariant-loop-i : goal.invariant-loop-i
invariant-loop-i l = l.frame ≡ painted (between l.to (l.to + l.i) everywhere) (λ k. bit_xor (get_or l.initial.frame k 0) (get_or l.graphic (l.from + (k - l.to)) 0)) l.initial.frame
