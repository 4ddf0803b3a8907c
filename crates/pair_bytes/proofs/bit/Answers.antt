-- Refused, or the parts that the callees give.
use Rattle.std.proofs.Common.{◌≡◌, ◌∙◌}
use Rattle.refusals.specs.Numbers.{refusal_number}
use Rattle.state_bytes.proofs.PackedUnpacked.{unpacked_in_range}
use Rattle.pair_bytes.proofs.Told.{spelled_in_range, counts-within, turned_away, told}
use Rattle.pair_bytes.proofs.bit.Goals as goal

pub bit-requires : goal.bit-requires
bit-requires c =
    (spelled_in_range c.kept.ensures (unpacked_in_range _), spelled_in_range c.kept-2.ensures (unpacked_in_range _))

pub answer-requires : goal.answer-requires
answer-requires c =
    let within = counts-within _ _ _ _ _ c.kept.ensures c.kept-2.ensures _ c.in-Ok.ensures.leaves in (within.0, within.1)

pub returns-in-Ok : goal.returns-in-Ok
returns-in-Ok c =
    told _ _ _ _ _ c.kept.ensures c.kept-2.ensures _ c.in-Ok.ensures.leaves
    c.put.ensures.0 c.put.ensures.1 c.put-in-Ok.ensures.0 c.put-in-Ok.ensures.1 c.answer.ensures

pub returns-in-Err : goal.returns-in-Err
returns-in-Err c =
    let number : c.from-in-Err.result ≡ refusal_number c.in-Err.refusal = c.from-in-Err.ensures ∙ c.from.ensures in
    rw number (turned_away _ _ _ _ _ c.kept.ensures c.kept-2.ensures _ c.in-Err.ensures.leaves)
