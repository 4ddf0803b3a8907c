-- The parts that the callees give.
use Rattle.controller.specs.Memories.{fresh_memories}
use Rattle.deeds.proofs.Kept.{fresh-valid}
use Rattle.calls.specs.State.{fresh_state}
use Rattle.panel.proofs.Panel.fresh.Goals as goal

pub returns : goal.returns
unfolding fresh_state fresh_memories
returns c =
    record {
      state = rw (c.idle.ensures, c.fresh.ensures);
      valid = rw c.fresh.ensures (fresh-valid _);
    }
