-- At each turn, what is left of the capture replays as the whole does.
use Rattle.std.proofs.Common.{◌-◌, length}
use Rattle.picture.specs.Lent.{seen_by}
use Rattle.panel.specs.Handed.{state_of}
use Rattle.playback.proofs.Going.{Going}
use Rattle.playback.proofs.replaying.run.Given as goal

abbrev pub invariant-loop-given : goal.invariant-loop-given
invariant-loop-given g l =
    let first = l.initial.stop in
    let stop = l.stop in
    Going (seen_by l.lent) g.L.Lines.telling l.capture (state_of first.panel) l.initial.frame first.place l.initial.text (state_of stop.panel) l.frame stop.place l.at stop.reply stop.count l.text stop.filled

abbrev pub decreases-loop-given : goal.decreases-loop-given
decreases-loop-given g l = length l.capture - l.at
