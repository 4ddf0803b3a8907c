-- A replay that stops with number 0, and not for want of room, has accepted all records, and they are all of the capture.
use Prim.Native.Nat.{ℕ, ◌+◌, ◌*◌, ◌/◌}
use mathlib.Core.Bool.{Bool, false, not, true≢false}
use mathlib.Core.List.{List, [], ◌∷◌}
use mathlib.Core.Path.{◌≡◌, refl, ap, sym, ◌∙◌}
use native.Mathlib.Omega.{arith}
use borrow.Author.Tests.{eqb-false}
use lib.Dec.{eqb}
use lib.ListN.{length}
use Rattle.base.proofs.Choice.{either-told}
use Rattle.picture.specs.Picture.{Seen}
use Rattle.picture.specs.Refusals.{refusal_of}
use Rattle.calls.specs.State.{State}
use Rattle.calls.specs.Calls.{Called}
use Rattle.std.proofs.Common.{Some, None, Ok, Err}
use Rattle.refusals.specs.Numbers.{refusal_number, answer_number}
use Rattle.capture.specs.declared.record.Record.{Record}
use Rattle.capture.specs.Record.{Answer, read_first, taken_with}
use Rattle.capture.proofs.Answers.{refusal_numbered}
use Rattle.capture.proofs.Taken.{four_taken_no_end}
use Rattle.reader.specs.Capture.{Contents, read_on, contents}
use Rattle.records.specs.Records.{record_called}
use Rattle.playback.specs.Replay.{Replayed, Room, bytes, room_for, room_behind, records_replayed, read_by, replayed}
use Rattle.printed.specs.Text.{line}
use Rattle.playback.specs.Transcript.{Told, transcribed}
use Rattle.playback.proofs.Answers.{answer_from}

-- it came to its end
abbrev Ended : ℕ → ℕ → ℕ → Replayed → Type 0
Ended last n records r = r.ending.number ≡ 0 → r.ending.full ≡ false → (last ≡ 0) × (r.ending.place ≡ n + records)

module _ (e : Seen) (last : ℕ) where
  all-replayed : (room : Room) (rs : List Record) (s : State) (f : List ℕ) (n : ℕ) → Ended last n (length rs) (records_replayed e last room rs s f n)
  unfolding records_replayed
  all-replayed room [] s f n = λ z q. (z, omega arith)
  all-replayed room (r ∷ rs) s f n =
      let k : Called = record_called e r.kind r.value s f in
      either-told (Ended last n (length (r ∷ rs))) (not (room_for room n))
      (λ t z q. absurd (true≢false q))
      (λ t. either-told (Ended last n (length (r ∷ rs))) (eqb k.number 0)
      (λ a z q. let on = all-replayed (room_behind room (line n (answer_from r.kind k))) rs k.state k.frame (n + 1) z q in (on.0, omega (arith, on.1)))
      (λ a z q. absurd (eqb-false k.number 0 a z)))

-- what stops the reading with number 0 is the end, four bytes after each record
goes-on-whole : (a : Answer) (on : Contents) (rest : ℕ) → (a ≡ Ok None → ⊥) → (answer_number on.stop ≡ 0 → rest ≡ 4 * length on.records)
    → answer_number (read_on a on).stop ≡ 0 → 4 + rest ≡ 4 * length (read_on a on).records
goes-on-whole (Ok (Some r)) on rest never h z = omega (arith, h z)
goes-on-whole (Err refusal) on rest never h z = absurd (eqb-false (refusal_number refusal) 0 (refusal_numbered refusal) z)
goes-on-whole (Ok None) on rest never h z = absurd (never refl)

module _ (time : Bool) where
  all_read : (c : List ℕ) → answer_number (contents time c).stop ≡ 0 → length c ≡ 4 * length (contents time c).records
  unfolding contents read_first
  all_read [] z = refl
  all_read (a ∷ []) z = absurd (omega arith)
  all_read (a ∷ b ∷ []) z = absurd (omega arith)
  all_read (a ∷ b ∷ d ∷ []) z = absurd (omega arith)
  all_read (a ∷ b ∷ d ∷ e ∷ c) z =
      omega (
        arith,
        goes-on-whole (taken_with time (read_first (a ∷ b ∷ d ∷ e ∷ c))) (contents time c) (length c)
            (four_taken_no_end time a b d e c)
            (all_read c)
            z,
      )

pub went_through :
    (e : Seen) (room : Room) (c : List ℕ) (s : State) (f : List ℕ) (n : ℕ)
    → (replayed e room c s f n).ending.number ≡ 0
    → (replayed e room c s f n).ending.full ≡ false
    → (replayed e room c s f n).ending.place ≡ n + length c / 4
unfolding replayed
went_through e room c s f n =
    either-told (λ (r : Replayed). r.ending.number ≡ 0 → r.ending.full ≡ false → r.ending.place ≡ n + length c / 4)
    (eqb (refusal_of (length f) (length e.fonts.half) (length e.fonts.full)) 0)
    (λ t z q. let all = all-replayed e (answer_number (read_by s c).stop) room (read_by s c).records s f n z q in omega (arith, all.1, all_read s.control.time.timed c all.0))
    (λ t z q. absurd (eqb-false (refusal_of (length f) (length e.fonts.half) (length e.fonts.full)) 0 t z))

-- and so has a transcript
pub told-through :
    (e : Seen) (c : List ℕ) (s : State) (f : List ℕ) (n : ℕ) (text : List ℕ) (x : Told)
    → x ≡ transcribed e c s f n text
    → x.ending.number ≡ 0
    → x.ending.full ≡ false
    → x.ending.place ≡ n + length c / 4
unfolding transcribed
told-through e c s f n text x is z q =
    ap (λ (y : Told). y.ending.place) is
    ∙ went_through e (bytes (length text)) c s f n
    (sym (ap (λ (y : Told). y.ending.number) is) ∙ z)
    (sym (ap (λ (y : Told). y.ending.full) is) ∙ q)
