-- The digits before, then the last one.
use Rattle.std.proofs.Common.{rules}
use Rattle.printed.proofs.Writing.{put_last_digit}
use Rattle.printed.proofs.text.+put_decimal.Goals as goal
use Rattle.printed.proofs.text.+put_decimal.Goals.{then-n-lt10, else-n-lt10}

pub returns : goal.returns
returns t c =
    put_last_digit _ _ c.if-most-eq0.false (elim c.if-n-lt10.branch [ then-n-lt10 w ↦ search rules | else-n-lt10 w ↦ search rules ])
