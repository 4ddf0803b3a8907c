-- With 29 bytes for each record the test for room never fails.
use Prim.Native.Nat.{ℕ, ◌+◌, ◌*◌, ◌-◌, ◌^◌, ◌≤◌, ◌<◌}
use mathlib.Core.Bool.{true, false}
use mathlib.Core.List.{List, [], ◌∷◌}
use mathlib.Core.Path.{◌≡◌, refl, ap}
use native.Mathlib.Omega.{arith}
use borrow.Author.Tests.{le-leb, lt-ltb}
use lib.Dec.{eqb}
use lib.ListN.{length}
use Rattle.base.specs.Choice.{when◌then◌else◌}
use Rattle.picture.specs.Picture.{Seen}
use Rattle.picture.specs.Refusals.{refusal_of}
use Rattle.calls.specs.State.{State}
use Rattle.calls.specs.Calls.{Called}
use Rattle.refusals.specs.Numbers.{answer_number}
use Rattle.capture.specs.declared.record.Record.{Record}
use Rattle.printed.specs.declared.answer.RecordAnswer.{RecordAnswer}
use Rattle.printed.specs.Text.{line, longest_line, has_room}
use Rattle.printed.proofs.Writing.{decimal-length, line-length, count_digits}
use Rattle.records.specs.Records.{record_called}
use Rattle.playback.specs.Replay.{Replayed, halted, after_answers, endless, bytes, records_replayed, read_by, replayed}
use Rattle.playback.specs.Statements.{RoomTellsAll}
use Rattle.playback.proofs.Answers.{answer_from}
use Rattle.records.proofs.Once.{record_count}

has_room_lem : (rest n : ℕ) → 29 ≤ rest → n < 2 ^ 64 - 1 → has_room rest n ≡ true
unfolding has_room
has_room_lem rest n h l = rw (le-leb (longest_line n) rest (omega (arith, decimal-length 20 n)), lt-ltb n (2 ^ 64 - 1) l)

module _ (e : Seen) (last : ℕ) where
  roomy :
      (rest : ℕ) (rs : List Record) (s : State) (f : List ℕ) (n : ℕ)
      → 29 * length rs ≤ rest
      → n + length rs < 2 ^ 64
      → records_replayed e last (bytes rest) rs s f n ≡ records_replayed e last endless rs s f n
  unfolding records_replayed
  roomy rest [] s f n h l = refl
  roomy rest (r ∷ rs) s f n h l =
      rw (has_room_lem rest n (omega arith) (omega arith))
      (ap (λ (x : Replayed). when eqb k.number 0 then after_answers (a ∷ []) x else halted s f n k.number false) (roomy (rest - length (line n a)) rs k.state k.frame (n + 1) (omega (arith, short)) (omega arith)))
    where
      k : Called
      k = record_called e r.kind r.value s f

      a : RecordAnswer
      a = answer_from r.kind k

      short : length (line n a) ≤ 29
      short = omega (arith, line-length n a, decimal-length 20 n, count_digits a.count (record_count e r.kind r.value s f))

pub room_tells_all : RoomTellsAll
unfolding replayed
room_tells_all e room capture s f n h l =
    ap (λ (r : Replayed). when eqb (refusal_of (length f) (length e.fonts.half) (length e.fonts.full)) 0 then r else halted s f n (refusal_of (length f) (length e.fonts.half) (length e.fonts.full)) false)
    (roomy e (answer_number (read_by s capture).stop) room (read_by s capture).records s f n h l)
