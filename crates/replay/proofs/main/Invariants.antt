-- The panel handed on is valid. A part that is followed by another had all its 1,024 records accepted, so the place rises.
use Rattle.std.proofs.Common.{◌-◌, ◌^◌}
use Rattle.calls.specs.State.{Valid}
use Rattle.panel.specs.Handed.{state_of}
use Rattle.replay.proofs.main.Given as goal

abbrev pub invariant-loop-came : goal.invariant-loop-came
invariant-loop-came l = Valid (state_of l.panel)

abbrev pub decreases-loop-came : goal.decreases-loop-came
decreases-loop-came l = 2 ^ 64 - l.place
