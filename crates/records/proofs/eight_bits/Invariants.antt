-- The first bit by itself, then a loop over the seven others.
use Rattle.std.proofs.Common.{Ok}
use Rattle.picture.specs.Lent.{seen_by}
use Rattle.panel.specs.Handed.{stands}
use Rattle.records.proofs.Bits.{Hearing}
use Rattle.records.proofs.eight_bits.Given as goal

abbrev pub invariant-loop-left : goal.invariant-loop-left
invariant-loop-left l =
    Hearing (seen_by l.lent) l.value (stands l.initial.panel (Ok l.initial.heard) l.initial.frame) l.left (stands l.panel (Ok l.heard) l.frame)
