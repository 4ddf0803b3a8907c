-- What a call of the pair by value hands on.
use Rattle.std.specs.Prelude.{ℕ, List, Result, Ok, Err}
use Rattle.refusals.specs.declared.Refusal.{Refusal}
use Rattle.refusals.specs.Numbers.{refusal_number}
use Rattle.calls.specs.Calls.{refused}
use Rattle.panel.specs.Handed.{state_of}
use Rattle.lent_pair.specs.Pair.{PairCalled}
use Rattle.lent_pair.specs.Lent.{side_answer}
use Rattle.pair.specs.declared.Pair.{Pair}
use Rattle.pair.specs.declared.PairOutcome.{PairOutcome}

-- an accepted call leaves the pair that it answers, and a refused one the pair that the caller has
abbrev pub pair_handed : Pair → Result PairOutcome Refusal → List ℕ → List ℕ → PairCalled
pair_handed p (Ok r) left_frame right_frame =
    record {
      left = side_answer (state_of r.pair.left) r.counts.left left_frame;
      right = side_answer (state_of r.pair.right) r.counts.right right_frame;
    }
pair_handed p (Err refusal) left_frame right_frame =
    record {
      left = refused (state_of p.left) left_frame (refusal_number refusal);
      right = refused (state_of p.right) right_frame (refusal_number refusal);
    }
