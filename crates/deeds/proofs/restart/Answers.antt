-- The parts that the callees give.
use Rattle.controller.specs.Memories.{fresh_memories}
use Rattle.deeds.proofs.restart.Goals as goal

pub returns : goal.returns
unfolding fresh_memories
returns c = rw c.fresh.ensures
