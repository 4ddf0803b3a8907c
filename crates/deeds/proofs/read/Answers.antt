-- What moves on stays in range.
use Rattle.deeds.proofs.Kept.{moved_on_in_range}
use Rattle.deeds.proofs.read.Goals as goal

pub returns-clause-valid : goal.returns-clause-valid
returns-clause-valid c = rw c.moved_on-next.ensures (moved_on_in_range _ c.requires)
