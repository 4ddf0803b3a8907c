-- The first bit by itself, then a loop over the seven others, none of which is refused.
use Rattle.std.proofs.Common.{◌∙◌, refl, arith}
use Rattle.calls.proofs.Doors.{handed_on}
use Rattle.records.proofs.Bits.{refuses, begins, accepts, never_refused, fits, turns, ends}
use Rattle.records.proofs.eight_bits.Goals as goal

pub returns-in_err-heard-clause-leaves : goal.returns-in_err-heard-clause-leaves
returns-in_err-heard-clause-leaves c =
    rw (handed_on _ c.from_residual.ensures.1) (refuses _ c.args.value _ _ _ _ _ c.in_err-heard.ensures.leaves)

pub loop-left-init : goal.loop-left-init
loop-left-init c = begins _ c.args.value _ _ _ c.in_ok-heard.ensures.leaves refl c.in_ok-heard.ensures.valid

pub returns-in_err-answered-clause-leaves : goal.returns-in_err-answered-clause-leaves
returns-in_err-answered-clause-leaves c =
    absurd (never_refused _ _ c.loop-left.invariant _ _ _ _ c.in_err-answered.ensures.leaves)

pub overflow_add-heard : goal.overflow_add-heard
overflow_add-heard c = omega (arith, fits _ _ c.loop-left.invariant _ _ (omega arith) c.in_ok-answered.ensures.leaves)

pub loop-left-preserved : goal.loop-left-preserved
loop-left-preserved c = turns _ _ c.loop-left.invariant _ _ (omega arith) c.in_ok-answered.ensures.leaves c.in_ok-answered.ensures.valid

pub returns-clause-leaves : goal.returns-clause-leaves
returns-clause-leaves c =
    ends _ _ c.loop-left.invariant (omega arith)
    ∙ accepts _ c.args.value _ _ _ c.in_ok-heard.ensures.leaves refl
