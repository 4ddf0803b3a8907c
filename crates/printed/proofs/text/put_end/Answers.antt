-- One text after another.
use Rattle.printed.specs.Text.{end_line}
use Rattle.printed.proofs.Writing.{put_then}
use Rattle.printed.proofs.text.put_end.Goals as goal

pub returns : goal.returns
unfolding end_line
returns c = put_then (put_then c.put-word.ensures c.put_decimal-number.ensures) c.put.ensures
