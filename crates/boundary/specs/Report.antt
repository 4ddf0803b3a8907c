-- What `zifqarell_replay` leaves: a fresh panel replays a capture, and where that stopped is told in bytes.
use Rattle.std.specs.Prelude.{ℕ, List, eqb}
use Rattle.base.specs.Choice.{when◌then◌else◌}
use Rattle.events.specs.declared.Made.{Made}
use Rattle.picture.specs.Picture.{Seen}
use Rattle.picture.specs.Refusals.{lent_refusal}
use Rattle.calls.specs.State.{fresh_state}
use Rattle.playback.specs.Transcript.{Told, replayed_silently}
use Rattle.spelling.specs.Spelled.{state_bytes, last_bytes}

-- the refusal number, the frame, the state and the last place as bytes
pub record Report : Type 0 where
  pub number : ℕ
  pub frame : List ℕ
  pub state : List ℕ
  pub last : List ℕ

abbrev pub report : ℕ → List ℕ → List ℕ → List ℕ → Report
report number frame state last = record { number = number; frame = frame; state = state; last = last }

abbrev pub reported : Told → Report
reported s = report s.ending.number s.ending.frame (state_bytes s.ending.state) (last_bytes s.ending.place s.reply s.count)

-- refused with 1, 2, 3 as a call, which leaves all that it was lent; else a fresh panel replays, and where that stopped is told
unfoldable pub fresh_replay : Made → Seen → List ℕ → List ℕ → List ℕ → List ℕ → Report
fresh_replay made e capture frame state last =
    when eqb (lent_refusal e frame) 0
    then reported (replayed_silently e capture (fresh_state made) frame)
    else report (lent_refusal e frame) frame state last
