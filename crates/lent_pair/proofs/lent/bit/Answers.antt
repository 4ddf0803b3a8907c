-- Refused, or what the two calls leave: neither of them is refused then.
use Rattle.calls.proofs.Doors.{handed_on}
use Rattle.lent_pair.proofs.Both.{refuses, left_taken, right_taken, accepts}
use Rattle.lent_pair.proofs.lent.bit.Goals as goal

pub returns-in_err-first_refusal-clause-leaves : goal.returns-in_err-first_refusal-clause-leaves
returns-in_err-first_refusal-clause-leaves c =
    rw (handed_on _ c.from_residual.ensures.1)
    (refuses _ _ _ c.is_serial-left_serial.ensures c.is_serial-right_serial.ensures _ c.in_err-first_refusal.ensures)

pub returns-in_err-on_left-clause-leaves : goal.returns-in_err-on_left-clause-leaves
returns-in_err-on_left-clause-leaves c =
    left_taken _ _ _ c.is_serial-left_serial.ensures c.is_serial-right_serial.ensures c.in_ok-first_refusal.ensures c.comes_to-to_left.ensures _
    c.in_err-on_left.ensures.leaves

pub returns-in_err-on_right-clause-leaves : goal.returns-in_err-on_right-clause-leaves
returns-in_err-on_right-clause-leaves c =
    right_taken _ _ _ c.is_serial-left_serial.ensures c.is_serial-right_serial.ensures c.in_ok-first_refusal.ensures c.comes_to-to_right.ensures _
    c.in_err-on_right.ensures.leaves

pub returns-clause-leaves : goal.returns-clause-leaves
returns-clause-leaves c =
    accepts _ _ _ c.is_serial-left_serial.ensures c.is_serial-right_serial.ensures c.in_ok-first_refusal.ensures
    c.comes_to-to_left.ensures c.comes_to-to_right.ensures c.in_ok-on_left.ensures.leaves c.in_ok-on_right.ensures.leaves
