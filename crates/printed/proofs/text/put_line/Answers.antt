-- One text after another.
use Rattle.printed.specs.Text.{line}
use Rattle.printed.proofs.Writing.{put_then}
use Rattle.printed.proofs.text.put_line.Goals as goal

pub returns : goal.returns
unfolding line
returns c = put_then (put_then (put_then c.put_decimal-first.ensures c.put_reply-second.ensures) c.put_decimal-third.ensures) c.put.ensures
