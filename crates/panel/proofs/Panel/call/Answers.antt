-- What the call on lent memories leaves; refused, the panel is what it was.
use Rattle.calls.proofs.Doors.{handed_on, refused_kept}
use Rattle.calls.proofs.StaysInRange.{left-valid}
use Rattle.panel.proofs.Panel.call.Goals as goal

pub returns-in_err-answer-clause-leaves : goal.returns-in_err-answer-clause-leaves
returns-in_err-answer-clause-leaves c =
    rw (handed_on _ c.from_residual.ensures.1) (refused_kept _ _ _ _ _ _ _ c.in_err-answer.ensures.leaves)

pub returns-clause-valid : goal.returns-clause-valid
returns-clause-valid c = left-valid _ _ _ _ _ c.in_ok-answer.ensures.leaves c.requires
