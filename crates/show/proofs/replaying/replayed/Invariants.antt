-- The panel handed on is valid.
use Rattle.calls.specs.State.{Valid}
use Rattle.panel.specs.Handed.{state_of}
use Rattle.show.proofs.replaying.replayed.Given as goal

abbrev pub invariant-loop-before : goal.invariant-loop-before
invariant-loop-before g l = Valid (state_of l.ended.panel)
