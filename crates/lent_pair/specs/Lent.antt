-- What a call of the pair on lent memories leaves: one number for both panels, no reply, and a count for each.
use Rattle.std.specs.Prelude.{ℕ, List, Result, Ok, Err}
use Rattle.controller.specs.Memories.{Memories}
use Rattle.refusals.specs.declared.Refusal.{Refusal}
use Rattle.refusals.specs.Numbers.{refusal_number}
use Rattle.calls.specs.declared.Kept.{Kept}
use Rattle.calls.specs.State.{State, kept_state}
use Rattle.calls.specs.Calls.{Called, refused}
use Rattle.lent_pair.specs.declared.LentPairOutcome.{LentPairOutcome}
use Rattle.lent_pair.specs.Pair.{PairCalled}

-- of an accepted call, on either side: number 0, no reply, and the side's own count
abbrev pub side_answer : State → ℕ → List ℕ → Called
side_answer s count frame = record { state = s; number = 0; reply = 0; count = count; frame = frame }

-- an accepted call leaves what it answers, and a refused one what the two panels had
abbrev pub pair_lent : Kept → Kept → Result LentPairOutcome Refusal → Memories → Memories → List ℕ → List ℕ → PairCalled
pair_lent left right (Ok r) left_memories right_memories left_frame right_frame =
    record {
      left = side_answer (kept_state left_memories r.kept.left) r.counts.left left_frame;
      right = side_answer (kept_state right_memories r.kept.right) r.counts.right right_frame;
    }
pair_lent left right (Err refusal) left_memories right_memories left_frame right_frame =
    record {
      left = refused (kept_state left_memories left) left_frame (refusal_number refusal);
      right = refused (kept_state right_memories right) right_frame (refusal_number refusal);
    }
