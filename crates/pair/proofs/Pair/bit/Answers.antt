-- What the call on lent memories leaves; refused, the panels are what they were.
use Rattle.calls.proofs.Doors.{handed_on}
use Rattle.lent_pair.proofs.Both.{pair_kept, handed-valid}
use Rattle.pair.proofs.Pair.bit.Goals as goal

pub returns-in_err-answer-clause-leaves : goal.returns-in_err-answer-clause-leaves
returns-in_err-answer-clause-leaves c =
    rw (handed_on _ c.from_residual.ensures.1) (pair_kept _ _ _ _ _ _ _ _ c.in_err-answer.ensures.leaves)

pub returns-clause-valid : goal.returns-clause-valid
returns-clause-valid c = handed-valid _ _ _ _ c.in_ok-answer.ensures.leaves c.requires.0 c.requires.1
