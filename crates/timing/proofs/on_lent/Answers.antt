-- The controls that each call leaves are in range.
use Rattle.std.proofs.Common.{rules}
use denote.Param.Always.{mut_by}
use Rattle.controller.specs.State.{InRange}
use Rattle.deeds.proofs.Kept.{fresh_in_range}
use Rattle.timing.proofs.on_lent.Goals as goal

pub summed-requires : goal.summed-requires
summed-requires g c =
    mut_by _ (λ x. InRange x.3.now.control) (λ s a i. search rules) (λ s a r t i e. search rules) _ (search (rules, fresh_in_range))
