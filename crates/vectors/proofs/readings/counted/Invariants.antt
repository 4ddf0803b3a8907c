-- Every panel handed on is valid.
use Rattle.calls.specs.State.{Valid}
use Rattle.panel.specs.Handed.{state_of}
use Rattle.vectors.proofs.readings.counted.Given as goal

abbrev pub invariant-loop-given : goal.invariant-loop-given
invariant-loop-given l = Valid (state_of l.panel)
