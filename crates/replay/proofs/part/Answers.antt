-- The panel handed on is valid; a part that was told to its end had all its records accepted.
use Rattle.std.proofs.Common.{ℕ, ◌+◌, ◌/◌, ap, sym, ◌∙◌}
use Rattle.playback.specs.Transcript.{halt_number, is_full}
use Rattle.playback.proofs.Through.{told-through}
use Rattle.replay.proofs.part.Goals as goal

pub returns-clause-through : goal.returns-clause-through
returns-clause-through c =
    λ z. told-through _ _ _ _ _ _ _ c.transcribe-stop.ensures.leaves (ap halt_number z) (ap is_full z)
    ∙ ap (λ (k : ℕ). c.args.place + k / 4) (sym c.fill-read.ensures.1)
