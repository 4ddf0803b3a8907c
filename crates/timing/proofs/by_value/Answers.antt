-- The panel that each call leaves is valid.
use Rattle.std.proofs.Common.{rules}
use denote.Param.Always.{mut_by}
use Rattle.calls.specs.State.{Valid}
use Rattle.panel.specs.Handed.{state_of}
use Rattle.timing.proofs.by_value.Goals as goal

pub summed-requires : goal.summed-requires
summed-requires c =
    mut_by _ (λ x. Valid (state_of x.0.now)) (λ s a i. search rules) (λ s a r t i e. search rules) _ c.fresh-panel.ensures.valid
