-- Document 01, "Captures": what holds of replays and their lines.
-- Each statement is proved in proofs/, under its own name in small letters (`RoomTellsAll` as `room-tells-all`).
use Rattle.std.specs.Prelude.{ℕ, ◌+◌, ◌*◌, ◌%◌, ◌^◌, ◌≤◌, ◌<◌, true, false, List, ◌++◌, ◌≡◌, length, take, drop}
use Rattle.base.specs.Choice.{when◌then◌else◌}
use Rattle.picture.specs.Picture.{Seen}
use Rattle.calls.specs.State.{State}
use Rattle.printed.specs.Text.{lines}
use Rattle.playback.specs.Replay.{Replayed, after_answers, Room, endless, bytes, room_behind, ended, read_by, replayed}
use Rattle.playback.specs.Transcript.{Told, transcribed}

-- a replay that came to the end of its capture goes on with more of it, from where it stands, with the room that its lines left; one that
-- was refused, or had no room, stays
abbrev pub gone_on : Seen → Room → ℕ → List ℕ → Replayed → Replayed
gone_on e room place more r =
    when ended r.ending then
    after_answers r.answers
    (replayed e (room_behind room (lines place r.answers)) more r.ending.state r.ending.frame r.ending.place)
    else r

-- 1. A capture may be replayed in parts, where the earlier part has whole records.
abbrev pub PartsReplayAsWhole : Type 0
PartsReplayAsWhole =
    (e : Seen) (room : Room) (part more : List ℕ) (s : State) (frame : List ℕ) (place : ℕ)
    → length part % 4 ≡ 0
    → replayed e room (part ++ more) s frame place ≡ gone_on e room place more (replayed e room part s frame place)

-- two transcripts as one: the second goes on from the first one's place, in the rest of its buffer
pub record Joins (first second whole : Told) : Type 0 where
  pub ending : whole.ending ≡ second.ending
  pub text : whole.text ≡ take first.filled first.text ++ second.text
  pub filled : whole.filled ≡ first.filled + second.filled

-- 2. And so may it be transcribed: a transcript that came to its end goes on with more, one that stopped is the whole.
pub record TranscribesAsWhole (e : Seen) (more : List ℕ) (first whole : Told) : Type 0 where
  pub goes :
      ended first.ending ≡ true
      → Joins first (transcribed e more first.ending.state first.ending.frame first.ending.place (drop first.filled first.text)) whole
  pub stays : ended first.ending ≡ false → whole ≡ first

abbrev pub PartsTranscribeAsWhole : Type 0
PartsTranscribeAsWhole =
    (e : Seen) (part more : List ℕ) (s : State) (frame : List ℕ) (place : ℕ) (text : List ℕ)
    → length part % 4 ≡ 0
    → TranscribesAsWhole e more (transcribed e part s frame place text) (transcribed e (part ++ more) s frame place text)

-- 3. With 29 bytes for each record, the longest line that there is, all of the replay is told.
abbrev pub RoomTellsAll : Type 0
RoomTellsAll =
    (e : Seen) (room : ℕ) (capture : List ℕ) (s : State) (frame : List ℕ) (place : ℕ)
    → 29 * length (read_by s capture).records ≤ room
    → place + length (read_by s capture).records < 2 ^ 64
    → replayed e (bytes room) capture s frame place ≡ replayed e endless capture s frame place
