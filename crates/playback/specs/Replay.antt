-- Document 01, "Captures", and request K1: replay goes on until the first refusal, and answers with the place where it stopped.
use Rattle.std.specs.Prelude.{ℕ, ◌+◌, ◌-◌, Bool, true, false, not, ◌&&◌, List, [], ◌∷◌, ◌++◌, length, eqb}
use Rattle.base.specs.Choice.{when◌then◌else◌}
use Rattle.picture.specs.Picture.{Seen}
use Rattle.picture.specs.Refusals.{lent_refusal}
use Rattle.calls.specs.State.{State}
use Rattle.calls.specs.Calls.{Called}
use Rattle.refusals.specs.Numbers.{answer_number}
use Rattle.capture.specs.declared.record.Record.{Record}
use Rattle.reader.specs.Capture.{Contents, contents}
use Rattle.printed.specs.declared.answer.RecordAnswer.{RecordAnswer}
use Rattle.printed.specs.Text.{record_answer, line, has_room}
use Rattle.records.specs.Records.{record_called}

-- where a replay stands when it stops: the state, the frame, the records accepted, and the refusal number, 0 at the end; or else
-- that the record at this place was not carried out, as its line might have had no room
pub record Ending : Type 0 where
  pub state : State
  pub frame : List ℕ
  pub place : ℕ
  pub number : ℕ
  pub full : Bool

-- whether it came to the end of its capture
abbrev pub ended : Ending → Bool
ended x = eqb x.number 0 && not x.full

-- a replay: the answers of its accepted records, and where it stops
pub record Replayed : Type 0 where
  pub answers : List RecordAnswer
  pub ending : Ending

-- one that stops at once, with a number or for want of room
abbrev pub halted : State → List ℕ → ℕ → ℕ → Bool → Replayed
halted s frame place number full =
    record { answers = []; ending = record { state = s; frame = frame; place = place; number = number; full = full } }

-- answers, then those of a replay
abbrev pub after_answers : List RecordAnswer → Replayed → Replayed
after_answers before r = record { answers = before ++ r.answers; ending = r.ending }

-- what a replay has for its lines: a rest of so many bytes; or it writes none, and goes on without end
pub data Room : Type 0 where
  endless : Room
  bytes : ℕ → Room

abbrev pub room_of : Bool → ℕ → Room
room_of telling rest = when telling then bytes rest else endless

-- What a record answers is known only when it has been carried out, so the longest line that it could have is asked to fit before that.
abbrev pub room_for : Room → ℕ → Bool
room_for endless place = true
room_for (bytes rest) place = has_room rest place

abbrev pub room_behind : Room → List ℕ → Room
room_behind endless text = endless
room_behind (bytes rest) text = bytes (rest - length text)

-- one record after another, each on what the ones before it left: one whose line might have no room is not carried out; an accepted one
-- answers, and the replay goes on; a refused one has no effect. Behind the last, what stands there in the capture
unfoldable pub records_replayed : Seen → ℕ → Room → List Record → State → List ℕ → ℕ → Replayed
records_replayed e last room [] s frame place = halted s frame place last false
records_replayed e last room (r ∷ rs) s frame place =
    let k : Called = record_called e r.kind r.value s frame in
    let a : RecordAnswer = record_answer r.kind k.reply k.count in
    let on : Replayed = records_replayed e last (room_behind room (line place a)) rs k.state k.frame (place + 1) in
    when not (room_for room place) then halted s frame place 0 true
    else when eqb k.number 0 then after_answers (a ∷ []) on
    else halted s frame place k.number false

-- what a panel reads of a capture: a record is what a panel with its time, or without, takes it for
abbrev pub read_by : State → List ℕ → Contents
read_by s capture = contents s.control.time.timed capture

-- a replay from a number of accepted records on: refusals 1, 2, 3 before anything is read
unfoldable pub replayed : Seen → Room → List ℕ → State → List ℕ → ℕ → Replayed
replayed e room capture s frame place =
    when eqb (lent_refusal e frame) 0 then records_replayed e (answer_number (read_by s capture).stop) room (read_by s capture).records s frame place
    else halted s frame place (lent_refusal e frame) false
