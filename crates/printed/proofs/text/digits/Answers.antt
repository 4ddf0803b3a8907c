-- A digit more than the power of ten that the number reaches.
use Rattle.printed.proofs.Writing.{digits_by_power}
use Rattle.printed.proofs.text.digits.Goals as goal

pub returns-clause-counted : goal.returns-clause-counted
returns-clause-counted c = digits_by_power 20 c.args.n _ c.ilog10.ensures.bound c.ilog10.ensures.power_le c.ilog10.ensures.next_power_gt
