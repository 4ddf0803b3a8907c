-- Demand 1, from its parts.
use Rattle.playback.proofs.Endless.{not_full}
use Rattle.playback.proofs.Parts.{parts-replay_as_whole, parts-transcribe_as_whole}
use Rattle.playback.proofs.Roomy.{room_tells_all}
use Rattle.demands.specs.Demand1.{Demand1}
use Rattle.demands.proofs.Tables.{table-once, send-refuses, send-once, record_says, record_once}
use Rattle.demands.proofs.Calls.{call-refuses, draw-refuses}
use Rattle.demands.proofs.Pairs.{pair-refuses, exported_pair_refuses, pair-once}
use Rattle.demands.proofs.Replays.{replay-stops, transcript_refuses, transcript_tells, exported_replay-refuses}

pub demand_1 : Demand1
demand_1 =
    record {
      calls = call-refuses;
      pairs = pair-refuses;
      draws = draw-refuses;
      sends = send-refuses;
      captures = record_says;
      replays = replay-stops;
      never_full = not_full;
      parts = parts-replay_as_whole;
      transcribed_parts = parts-transcribe_as_whole;
      transcripts = transcript_refuses;
      tells = transcript_tells;
      tells_all = room_tells_all;
      exported_replays = exported_replay-refuses;
      exported_pairs = exported_pair_refuses;
      one_number_for_calls = table-once;
      one_number_for_pairs = pair-once;
      one_number_for_sends = send-once;
      one_answer_for_records = record_once;
    }
