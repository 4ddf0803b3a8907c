-- One text after another.
use Rattle.printed.specs.Text.{stop_line}
use Rattle.printed.proofs.Writing.{put_then}
use Rattle.printed.proofs.text.put_stop.Goals as goal

pub returns : goal.returns
unfolding stop_line
returns c = put_then (put_then (put_then (put_then c.put-word.ensures c.put_decimal-first.ensures) c.put-second.ensures) c.put_decimal-third.ensures) c.put.ensures
