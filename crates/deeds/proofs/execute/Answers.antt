-- What obeys stays in range.
use Rattle.deeds.proofs.Kept.{obeyed_in_range}
use Rattle.deeds.proofs.execute.Goals as goal

pub returns-clause-valid : goal.returns-clause-valid
returns-clause-valid c = rw (c.obey-next.ensures, c.decode-instruction.ensures, c.modes.ensures) (obeyed_in_range _ c.requires _)
