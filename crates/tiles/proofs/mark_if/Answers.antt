-- The cursor, and blink over it, if at all.
use Rattle.tiles.proofs.Laid.{unmarked}
use Rattle.tiles.proofs.mark_if.Goals as goal

pub returns-then-here : goal.returns-then-here
returns-then-here c = rw (c.if-here.true, c.invert_if.ensures, c.underline_if.ensures)

pub returns-else-here : goal.returns-else-here
returns-else-here c = rw c.if-here.false (unmarked _)
