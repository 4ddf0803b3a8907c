-- Document 01, "Captures": what a replay answers, and its printed lines in a lent buffer. A buffer that is too small takes as many
-- whole records as fit.
use Rattle.std.specs.Prelude.{ℕ, Bool, true, false, List, [], ◌∷◌, length}
use Rattle.std.proofs.lemmas.List.Edits.{sets}
use Rattle.base.specs.Choice.{when◌then◌else◌}
use Rattle.picture.specs.Picture.{Seen}
use Rattle.calls.specs.State.{State}
use Rattle.panel.specs.Handed.{state_of}
use Rattle.printed.specs.declared.answer.RecordAnswer.{RecordAnswer}
use Rattle.printed.specs.Text.{record_answer, lines}
use Rattle.refusals.specs.Numbers.{refusal_number}
use Rattle.capture.specs.declared.kind.Kind.TheVariants.{InstructionWrite}
use Rattle.playback.specs.declared.Halt.{Halt}
use Rattle.playback.specs.declared.Halt.TheVariants.{End, Refused, Full}
use Rattle.playback.specs.declared.Stop.{Stop}
use Rattle.playback.specs.Replay.{Ending, Replayed, endless, bytes, replayed}

-- where a replay stands, the reply and the count of its last accepted record, what stands in the buffer, and how many bytes at the
-- beginning of it are lines
pub record Told : Type 0 where
  pub ending : Ending
  pub reply : ℕ
  pub count : ℕ
  pub text : List ℕ
  pub filled : ℕ

-- the last of some answers; where there are none, the one given
unfoldable pub last_or : RecordAnswer → List RecordAnswer → RecordAnswer
last_or a [] = a
last_or a (b ∷ more) = last_or b more

-- what is written of a text: all of it, or nothing where lines are not told
abbrev pub told_by : Bool → List ℕ → List ℕ
told_by telling text = when telling then text else []

-- what is told of a replay: its last answer's reply and count, 0 and 0 where there is none; and where lines are told, those of its answers,
-- in their order, stand at the beginning of the buffer, and all else in it is as it was
abbrev pub told : Bool → ℕ → List ℕ → Replayed → Told
told telling place text r =
    let last : RecordAnswer = last_or (record_answer InstructionWrite 0 0) r.answers in
    let written : List ℕ = told_by telling (lines place r.answers) in
    record { ending = r.ending; reply = last.reply; count = last.count; text = sets text 0 written; filled = length written }

-- `replay`: no lines, and no room wanted for them
abbrev pub replayed_silently : Seen → List ℕ → State → List ℕ → Told
replayed_silently e capture s frame = told false 0 [] (replayed e endless capture s frame 0)

-- `transcribe`: from a number of accepted records on, with the whole buffer as room for the lines
unfoldable pub transcribed : Seen → List ℕ → State → List ℕ → ℕ → List ℕ → Told
transcribed e capture s frame place text = told true place text (replayed e (bytes (length text)) capture s frame place)

-- why a replay stopped, as a refusal number, 0 at the end
abbrev pub halt_number : Halt → ℕ
halt_number End = 0
halt_number (Refused refusal) = refusal_number refusal
halt_number Full = 0

-- and whether it was for want of room
abbrev pub is_full : Halt → Bool
is_full End = false
is_full (Refused refusal) = false
is_full Full = true

-- what the code's answer leaves, with the frame and the buffer
abbrev pub left_by : Stop → List ℕ → List ℕ → Told
left_by r frame text =
    let ending : Ending = record { state = state_of r.panel; frame = frame; place = r.place; number = halt_number r.halt; full = is_full r.halt } in
    record { ending = ending; reply = r.reply; count = r.count; text = text; filled = r.filled }
