-- Every panel handed on is valid.
use Rattle.calls.specs.State.{Valid}
use Rattle.panel.specs.Handed.{state_of}
use Rattle.vectors.proofs.refused.nearly_written.Given as goal

abbrev pub invariant-loop-shift : goal.invariant-loop-shift
invariant-loop-shift l = Valid (state_of l.panel)
