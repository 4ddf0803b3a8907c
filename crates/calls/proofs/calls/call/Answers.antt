-- Refused for its buffers, for want of time or as of the other link, or accepted, in this order.
use Rattle.std.proofs.Common.{◌≡◌, ◌∙◌, sym, rules}
use Rattle.calls.proofs.Doors.{handed_on, refuses, refuses-timeless, refuses-other, accepts}
use Rattle.calls.proofs.Fit.{done-fit, shown_in_range}
use Rattle.calls.proofs.calls.call.Goals as goal

pub returns-in_err-check_lengths-clause-leaves : goal.returns-in_err-check_lengths-clause-leaves
returns-in_err-check_lengths-clause-leaves c =
    rw (handed_on _ c.from_residual.ensures.1) (refuses _ _ _ _ _ c.in_err-check_lengths.ensures.number)

pub returns-then-timeless-clause-leaves : goal.returns-then-timeless-clause-leaves
returns-then-timeless-clause-leaves c =
    refuses-timeless _ _ _ _ c.in_ok-check_lengths.ensures.number (sym c.timeless.ensures ∙ c.if-timeless.true)

pub returns-in_default-clause-leaves : goal.returns-in_default-clause-leaves
returns-in_default-clause-leaves c =
    refuses-other _ _ _ _ c.in_ok-check_lengths.ensures.number (sym c.timeless.ensures ∙ c.if-timeless.false) (search rules)

pub show-requires : goal.show-requires
show-requires c =
    let fit = done-fit _ _ c.requires _ _ _ c.perform-done.ensures in
    (fit.control, fit.region, c.in_ok-check_lengths.ensures.fits.1)

pub returns-clause-leaves : goal.returns-clause-leaves
returns-clause-leaves c =
    let h = (rw c.unwrap-frame.ensures at c.as_mut_array.ensures.cases).same in
    rw (← h) c.show.ensures
    ∙ accepts _ _ _ _ c.in_ok-check_lengths.ensures.number (sym c.timeless.ensures ∙ c.if-timeless.false) c.in-Some.carried
    (sym c.in-Some.is ∙ c.take.ensures) _ c.perform-done.ensures

pub returns-clause-valid : goal.returns-clause-valid
returns-clause-valid c = shown_in_range _ _ _ _ _ _ c.in-Some.carried.rest c.show.ensures (done-fit _ _ c.requires _ _ _ c.perform-done.ensures)
