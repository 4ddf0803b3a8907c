-- A replay is the calls of its accepted records, one after another.
use Prim.Native.Nat.{ℕ, suc, ◌+◌, ◌-◌, ◌^◌, ◌≤◌}
use mathlib.Core.Bool.{Bool, true, false, not, true≢false}
use mathlib.Core.List.{List, [], ◌∷◌, ◌++◌, map, flatten}
use mathlib.Core.Logic.{◌≢◌}
use mathlib.Core.Path.{◌≡◌, refl, sym, ap, ◌∙◌}
use native.Mathlib.Omega.{arith}
use lib.ListN.{length, take, replicate, length-append}
use lib.Dec.{eqb, leb}
use borrow.Author.Tests.{eqb-true, eqb-false, eq-eqb, not-true, not-false, leb-false, ltb-false}
use Rattle.base.specs.Choice.{when◌then◌else◌}
use Rattle.base.proofs.Choice.{by_test, either-told}
use Rattle.controller.specs.declared.Control.{Control}
use Rattle.links.specs.declared.Link.{Link}
use Rattle.events.specs.declared.Event.{Event}
use Rattle.events.specs.declared.Event.TheVariants.{Bit}
use Rattle.sender.specs.Sender.{highest_first}
use Rattle.picture.specs.Picture.{Seen}
use Rattle.picture.specs.Refusals.{refusal_of}
use Rattle.calls.specs.State.{State}
use Rattle.calls.specs.Calls.{Called, timeless, Fits, called, Stands, after_calls}
use Rattle.calls.proofs.StaysInRange.{still_fits}
use Rattle.demands.specs.Wires.{answers, numbers_of}
use Rattle.printed.specs.declared.answer.RecordAnswer.{RecordAnswer}
use Rattle.printed.specs.Text.{line, lines, longest_line, has_room}
use Rattle.demands.proofs.Sequences.{after_append, numbers_append, zeros_append}
use Rattle.refusals.specs.Numbers.{answer_number}
use Rattle.capture.specs.declared.kind.Kind.{Kind}
use Rattle.capture.specs.declared.kind.Kind.TheVariants.{InstructionWrite, DataWrite, StatusRead, DataRead, EightBits, ChipSelectLow, Reset, TimePasses}
use Rattle.capture.specs.declared.record.Record.{Record}
use Rattle.capture.specs.Kinds.{last_kind, kind_number}
use Rattle.records.specs.Records.{asks, called_on, first_number, called_in_turn, record_called}
use Rattle.playback.specs.Replay.{Replayed, halted, after_answers, Room, endless, bytes, room_for, room_behind, records_replayed, read_by, replayed}
use Rattle.playback.specs.Transcript.{last_or, transcribed}
use Rattle.boundary.specs.Report.{fresh_replay}
use Rattle.playback.proofs.Answers.{answer_from}
use Rattle.records.proofs.Refused.{one_or_bits, called-on-accepted, record_timed, record_length}
use Rattle.playback.proofs.Parts.{contents_replayed, replayed-place}
use Rattle.demands.specs.Captures.{calls_of, calls_of_all, last_reply, sum_of_counts, answer_of, answers_of}
use Rattle.links.specs.Idle.{is_serial}
use Rattle.calls.proofs.Serial.{bit-silent}
use Rattle.demands.specs.Demand1.{TableSays, of_other_link, first_of_other_link, NoRoom, line_too_long, uncounted, StopsAt, behind_all, at_record, no_room, ReplayStops, TranscriptRefuses, TranscriptTells, ExportedReplayRefuses}
use Rattle.demands.proofs.Tables.{or_wants, table-number, KindsIn, contents_in}
use Rattle.demands.proofs.Calls.{call-number}

abbrev stands_at : State → List ℕ → Stands
stands_at s frame = record { state = s; frame = frame }

-- calls in turn: they do what a sequence of calls does, reply as the last, and their counts are summed
module _ (e : Seen) where
  in_turn_does :
      (reply : ℕ) (s : State) (frame : List ℕ) (calls : List Event)
      → after_calls e s frame calls ≡ stands_at (called_on e reply s frame calls).state (called_on e reply s frame calls).frame
  unfolding after_calls called_on
  in_turn_does reply s frame [] = refl
  in_turn_does reply s frame (call ∷ calls) = let k = called e s frame call in in_turn_does k.reply k.state k.frame calls

  in_turn_reply : (s : State) (frame : List ℕ) (calls : List Event) → (called_on e 0 s frame calls).reply ≡ last_reply (answers e s frame calls)
  unfolding called_on answers last_reply
  in_turn_reply s frame [] = refl
  in_turn_reply s frame (call ∷ calls) = behind call calls s frame
    where
      behind :
          (call : Event) (calls : List Event) (s : State) (frame : List ℕ)
          → (called_on e (called e s frame call).reply (called e s frame call).state (called e s frame call).frame calls).reply
          ≡ last_reply (answers e s frame (call ∷ calls))
      behind call [] s frame = refl
      behind call (next ∷ calls) s frame = behind next calls (called e s frame call).state (called e s frame call).frame

  in_turn_count :
      (reply : ℕ) (s : State) (frame : List ℕ) (calls : List Event)
      → (called_on e reply s frame calls).count ≡ sum_of_counts (answers e s frame calls)
  unfolding called_on answers sum_of_counts
  in_turn_count reply s frame [] = refl
  in_turn_count reply s frame (call ∷ calls) =
      let k = called e s frame call in ap (λ (i : ℕ). k.count + i) (in_turn_count k.reply k.state k.frame calls)

module _ (e : Seen) (r : Record) (s : State) (frame : List ℕ) where
  abbrev carried : Called
  carried = record_called e r.kind r.value s frame

  -- an accepted record is its calls in turn
  in_turn : carried.number ≡ 0 → carried ≡ called_on e 0 s frame (calls_of r)
  unfolding record_called called_in_turn
  in_turn =
      by_test (eqb (first_number e s frame (calls_of r)) 0)
      (λ t. rw t (λ z. refl))
      (λ t. rw t (λ z. absurd (eqb-false (first_number e s frame (calls_of r)) 0 t z)))

  -- so it answers what its calls do, and does what they do
  pub record_answers : carried.number ≡ 0 → answer_from r.kind carried ≡ answer_of e s frame r
  record_answers z = rw (in_turn z, in_turn_reply e s frame (calls_of r), in_turn_count e 0 s frame (calls_of r))

  pub record_does : carried.number ≡ 0 → after_calls e s frame (calls_of r) ≡ stands_at carried.state carried.frame
  record_does z = rw (in_turn z) (in_turn_does e 0 s frame (calls_of r))

-- a record of a capture that the panel reads never lets time pass where there is none
first_timeless : Control → List Event → Bool
first_timeless c [] = false
first_timeless c (call ∷ calls) = timeless c call

first-timely :
    (time : Bool) (c : Control) (kind : Kind) (value : ℕ)
    → c.time.timed ≡ time
    → kind_number kind ≤ last_kind time
    → first_timeless c (asks kind value) ≡ false
unfolding first_timeless
first-timely time c InstructionWrite value h few = refl
first-timely time c DataWrite value h few = refl
first-timely time c StatusRead value h few = refl
first-timely time c DataRead value h few = refl
first-timely time c EightBits value h few = refl
first-timely time c ChipSelectLow value h few = refl
first-timely time c Reset value h few = refl
first-timely true c TimePasses value h few = ap not h
first-timely false c TimePasses value h few = absurd (omega (arith, few))

-- with frame and fonts that fit, a record is refused where its first call is of the other link, and with 5
module _ (e : Seen) (s : State) (frame : List ℕ) (fits : Fits e frame) where
  fitting_number : (call : Event) → timeless s.control call ≡ false → (called e s frame call).number ≡ (when of_other_link s.link call then 5 else 0)
  fitting_number call w =
      call-number e s frame call
      ∙ ap (or_wants (timeless s.control call) (of_other_link s.link call)) fits
      ∙ ap (λ (x : Bool). when x then 8 else when of_other_link s.link call then 5 else 0) w

  first-number :
      (calls : List Event)
      → first_timeless s.control calls ≡ false
      → first_number e s frame calls ≡ (when first_of_other_link s.link calls then 5 else 0)
  unfolding first_timeless
  first-number [] w = refl
  first-number (call ∷ calls) w = fitting_number call w

  record_number :
      (r : Record)
      → first_timeless s.control (calls_of r) ≡ false
      → (carried e r s frame).number ≡ (when first_of_other_link s.link (calls_of r) then 5 else 0)
  unfolding record_called called_in_turn
  record_number r w =
      by_test (eqb (first_number e s frame (calls_of r)) 0)
      (λ t. rw t (called-on-accepted e 0 s frame (calls_of r) ∙ sym (eqb-true _ 0 t) ∙ first-number (calls_of r) w))
      (λ t. rw t (first-number (calls_of r) w))

-- bits leave a serial link serial, so that they are all accepted where the first is
module _ (e : Seen) where
  abbrev AllAccepted : State → List ℕ → List Event → Type 0
  AllAccepted s frame calls = numbers_of e s frame calls ≡ replicate (length calls) 0

  bits_accepted : (bs : List Bool) (s : State) (frame : List ℕ) → Fits e frame → is_serial s.link ≡ true → AllAccepted s frame (map Bit bs)
  unfolding answers
  bits_accepted [] s frame fits h = refl
  bits_accepted (b ∷ bs) s frame fits h =
      let first = fitting_number e s frame fits (Bit b) refl ∙ ap (λ (x : Bool). when x then 5 else 0) (ap not h) in
      ap (λ (ns : List ℕ). (called e s frame (Bit b)).number ∷ ns)
      (bits_accepted bs (called e s frame (Bit b)).state (called e s frame (Bit b)).frame (still_fits e s frame (Bit b) fits) (bit-silent e s frame b fits h).serial)
      ∙ ap (λ (m : ℕ). m ∷ replicate (length (map Bit bs)) 0) first

  -- the calls of an accepted record are all accepted
  record_accepted :
      (r : Record) (s : State) (frame : List ℕ)
      → Fits e frame
      → first_timeless s.control (calls_of r) ≡ false
      → first_of_other_link s.link (calls_of r) ≡ false
      → AllAccepted s frame (calls_of r)
  unfolding answers first_timeless
  record_accepted r s frame fits =
      one_or_bits
      (λ (calls : List Event). first_timeless s.control calls ≡ false → first_of_other_link s.link calls ≡ false → AllAccepted s frame calls)
      r.kind r.value
      (λ call w h. ap (λ (m : ℕ). m ∷ []) (fitting_number e s frame fits call w ∙ ap (λ (x : Bool). when x then 5 else 0) h))
      (λ w h. bits_accepted (highest_first r.value) s frame fits (not-false (is_serial s.link) h))

  -- a record was accepted, or its first call is of the other link
  number-tells : (x : Bool) (n : ℕ) → n ≡ (when x then 5 else 0) → n ≡ 0 → x ≡ false
  number-tells true n is z = absurd (omega arith)
  number-tells false n is z = refl

  number-tells-not : (x : Bool) (n : ℕ) → n ≡ (when x then 5 else 0) → (n ≡ 0 → ⊥) → (x ≡ true) × (n ≡ 5)
  number-tells-not true n is z = (refl, is)
  number-tells-not false n is z = absurd (z is)

-- where the test for room fails, there is none
none_left : (room : Room) (n : ℕ) → room_for room n ≡ false → NoRoom room n []
unfolding has_room lines
none_left endless n q = absurd (true≢false q)
none_left (bytes size) n q =
    by_test (leb (longest_line n) size)
    (λ t. uncounted size refl (omega (arith, ltb-false n (2 ^ 64 - 1) (rw t at q))))
    (λ t. line_too_long size refl (let place : n + 0 ≡ n = omega arith in rw place (omega (arith, leb-false (longest_line n) size t))))

is_endless : Room → Bool
is_endless endless = true
is_endless (bytes size) = false

size_of : Room → ℕ
size_of endless = 0
size_of (bytes size) = size

-- nor with one line more before it
none-behind : (room : Room) (n : ℕ) (a : RecordAnswer) (more : List RecordAnswer) → NoRoom (room_behind room (line n a)) (n + 1) more → NoRoom room n (a ∷ more)
unfolding lines is_endless size_of
none-behind endless n a more (line_too_long size is l) = absurd (true≢false (ap is_endless is))
none-behind endless n a more (uncounted size is l) = absurd (true≢false (ap is_endless is))
none-behind (bytes rest) n a more (line_too_long size is l) =
    let place : n + length (a ∷ more) ≡ n + 1 + length more = omega arith in
    line_too_long rest refl (rw place (omega (arith, l, ap size_of is, length-append (line n a) (lines (n + 1) more))))
none-behind (bytes rest) n a more (uncounted size is l) = uncounted rest refl (omega (arith, l))

-- one record more before the stop
one_more :
    {rs : List Record} {behind : ℕ} {room : Room} {n number : ℕ} {answers : List RecordAnswer} {full : Bool} {l : Link} (r : Record) (a : RecordAnswer)
    → StopsAt rs behind (room_behind room (line n a)) (n + 1) answers number full l
    → StopsAt (r ∷ rs) behind room n (a ∷ answers) number full l
one_more r a (behind_all p n f) = behind_all (ap suc p) n f
one_more r a (at_record at more d o n f) = at_record at more d o n f
one_more r a (no_room at more d x n f) = no_room at more d (none-behind _ _ a _ x) n f

module _ (e : Seen) (time : Bool) (last : ℕ) where
  -- what holds of a replay from a place on, with this room
  record Obeys (room : Room) (n : ℕ) (rs : List Record) (s : State) (frame : List ℕ) (r : Replayed) : Type 0 where
    stops : StopsAt rs last room n r.answers r.ending.number r.ending.full r.ending.state.link
    accepted :
        numbers_of e s frame (calls_of_all (take (length r.answers) rs))
        ≡ replicate (length (calls_of_all (take (length r.answers) rs))) 0
    stands : stands_at r.ending.state r.ending.frame ≡ after_calls e s frame (calls_of_all (take (length r.answers) rs))
    answers : r.answers ≡ answers_of e s frame (take (length r.answers) rs)

  -- an accepted record, and a replay behind it
  one-obeys :
      (room : Room) (r : Record) (rs : List Record) (s : State) (frame : List ℕ) (n : ℕ) (on : Replayed)
      → Fits e frame
      → first_timeless s.control (calls_of r) ≡ false
      → (carried e r s frame).number ≡ 0
      → Obeys (room_behind room (line n (answer_from r.kind (carried e r s frame)))) (n + 1) rs (carried e r s frame).state (carried e r s frame).frame on
      → Obeys room n (r ∷ rs) s frame (after_answers (answer_from r.kind (carried e r s frame) ∷ []) on)
  unfolding after_calls answers answers_of flatten
  one-obeys room r rs s frame n on fits w z obeys =
      let k = carried e r s frame in
      let does = record_does e r s frame z in
      let told = take (length on.answers) rs in
      let more = calls_of_all told in
      record {
        stops = one_more r (answer_from r.kind k) obeys.stops;
        accepted =
            numbers_append e (calls_of r) more s frame
            ∙ ap (λ (x : Stands). numbers_of e s frame (calls_of r) ++ numbers_of e x.state x.frame more) does
            ∙ ap (λ (ns : List ℕ). ns ++ numbers_of e k.state k.frame more)
            (record_accepted e r s frame fits w (number-tells e _ k.number (record_number e s frame fits r w) z))
            ∙ ap (λ (ns : List ℕ). replicate (length (calls_of r)) 0 ++ ns) obeys.accepted
            ∙ sym (zeros_append (calls_of r) more);
        stands =
            obeys.stands
            ∙ ap (λ (x : Stands). after_calls e x.state x.frame more) (sym does)
            ∙ sym (after_append e (calls_of r) more s frame);
        answers =
            ap (λ (l : List RecordAnswer). answer_from r.kind k ∷ l) obeys.answers
            ∙ ap (λ (a : RecordAnswer). a ∷ answers_of e k.state k.frame told) (record_answers e r s frame z)
            ∙ ap (λ (x : Stands). answer_of e s frame r ∷ answers_of e x.state x.frame told) (sym does);
      }

  -- a replay that stops at once
  halted-obeys :
      (room : Room) (rs : List Record) (s : State) (frame : List ℕ) (n number : ℕ) (full : Bool)
      → StopsAt rs last room n [] number full s.link
      → Obeys room n rs s frame (halted s frame n number full)
  unfolding after_calls answers answers_of flatten
  halted-obeys room rs s frame n number full stops = record { stops = stops; accepted = refl; stands = refl; answers = refl }

  records_obey :
      (room : Room) (rs : List Record) (s : State) (frame : List ℕ) (n : ℕ)
      → Fits e frame
      → s.control.time.timed ≡ time
      → KindsIn time rs
      → Obeys room n rs s frame (records_replayed e last room rs s frame n)
  unfolding records_replayed KindsIn
  records_obey room [] s frame n fits h few = halted-obeys room [] s frame n last false (behind_all refl refl refl)
  records_obey room (r ∷ rs) s frame n fits h few =
      let k = carried e r s frame in
      let w = first-timely time s.control r.kind r.value h few.0 in
      either-told (Obeys room n (r ∷ rs) s frame) (not (room_for room n))
      (λ q. halted-obeys room (r ∷ rs) s frame n 0 true (no_room r rs refl (none_left room n (not-true (room_for room n) q)) refl refl))
      (λ q. either-told (Obeys room n (r ∷ rs) s frame) (eqb k.number 0)
      (λ t. one-obeys room r rs s frame n _ fits w (eqb-true k.number 0 t)
      (records_obey (room_behind room (line n (answer_from r.kind k))) rs k.state k.frame (n + 1) (rw (record_length e r.kind r.value s frame) fits)
      (record_timed e r.kind r.value s frame ∙ h) few.1))
      (λ t. let other = number-tells-not e _ k.number (record_number e s frame fits r w) (eqb-false k.number 0 t) in
      halted-obeys room (r ∷ rs) s frame n k.number false (at_record r rs refl other.0 other.1 refl)))

module _ (e : Seen) (frame : List ℕ) where
  abbrev buffers : ℕ
  buffers = refusal_of (length frame) (length e.fonts.half) (length e.fonts.full)

  fit : TableSays e frame false false 0 → Fits e frame
  fit says =
      let is = table-number e frame false false 0 says in
      by_test (eqb buffers 0) (eqb-true buffers 0) (λ t. absurd (eqb-false buffers 0 t (sym (rw t at is))))

  -- refused as a call, with the number of the buffers
  refused-with : (n : ℕ) → TableSays e frame false false n → n ≢ 0 → (eqb buffers 0 ≡ false) × (n ≡ buffers)
  refused-with n says h =
      let is = table-number e frame false false n says in
      by_test (eqb buffers 0) (λ t. absurd (h (rw t at is))) (λ t. (t, rw t at is))

module _ (e : Seen) (room : Room) (capture : List ℕ) (s : State) (frame : List ℕ) (place : ℕ) where
  let_in : Fits e frame → replayed e room capture s frame place ≡ contents_replayed e room (read_by s capture) s frame place
  unfolding replayed
  let_in fits = rw (eq-eqb (buffers e frame) 0 fits)

  abbrev has_time : Bool
  has_time = s.control.time.timed

  obeys : Fits e frame → Obeys e has_time (answer_number (read_by s capture).stop) room place (read_by s capture).records s frame (replayed e room capture s frame place)
  obeys fits =
      rw (let_in fits)
      (records_obey e has_time (answer_number (read_by s capture).stop) room (read_by s capture).records s frame place fits refl
      (contents_in has_time capture))

  pub replay-stops : ReplayStops e room capture s frame place (replayed e room capture s frame place)
  unfolding replayed
  replay-stops =
      record {
        refused = λ n says h. let r = refused-with e frame n says h in rw (r.0, ← r.1);
        counts = replayed-place e room capture s frame place;
        stops = λ says. (obeys (fit e frame says)).stops;
        accepted = λ says. (obeys (fit e frame says)).accepted;
        stands = λ says. (obeys (fit e frame says)).stands;
        answers = λ says. (obeys (fit e frame says)).answers;
      }

pub transcript_refuses : TranscriptRefuses
unfolding transcribed replayed lines last_or
transcript_refuses e capture s frame place text n says h = let r = refused-with e frame n says h in rw (r.0, ← r.1)

pub transcript_tells : TranscriptTells
unfolding transcribed
transcript_tells e capture s frame place text = refl

pub exported_replay-refuses : ExportedReplayRefuses
unfolding fresh_replay
exported_replay-refuses made e capture frame state last n says h =
    let r = refused-with e frame n says h in
    rw (r.0, ← r.1)
