-- The state is the one that the call on lent memories leaves.
use Rattle.calls.proofs.StaysInRange.{left-valid}
use Rattle.panel.proofs.Panel.hear.Goals as goal

pub returns-in_err-heard-clause-valid : goal.returns-in_err-heard-clause-valid
returns-in_err-heard-clause-valid c = left-valid _ _ _ _ _ c.in_err-heard.ensures.leaves c.requires

pub returns-clause-valid : goal.returns-clause-valid
returns-clause-valid c = left-valid _ _ _ _ _ c.in_ok-heard.ensures.leaves c.requires
