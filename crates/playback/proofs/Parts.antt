-- A capture replayed in parts of whole records: its records are those of the parts, and each part begins where the one before it ended.
use Prim.Native.Nat.{ℕ, zero, suc, ◌+◌, ◌-◌}
use mathlib.Core.Bool.{Bool, true, false, not}
use mathlib.Core.List.{List, [], ◌∷◌, ◌++◌, append_assoc}
use mathlib.Core.Path.{◌≡◌, refl, sym, ap, subst, ◌∙◌}
use native.Mathlib.Omega.{arith}
use lib.Dec.{eqb}
use lib.ListN.{length, set, take, drop, length-drop, length-append}
use lib.Seq.{sets, length-sets}
use Rattle.base.specs.Choice.{when◌then◌else◌}
use Rattle.base.proofs.Choice.{either, either-told}
use Rattle.base.proofs.Lists.{sets_append}
use Rattle.picture.specs.Picture.{Seen}
use Rattle.picture.specs.Refusals.{refusal_of}
use Rattle.calls.specs.State.{State}
use Rattle.calls.specs.Calls.{Called}
use Rattle.std.proofs.Common.{Some, None, Ok, Err}
use Rattle.refusals.specs.Numbers.{refusal_number, answer_number}
use Rattle.capture.specs.declared.record.Record.{Record}
use Rattle.capture.specs.Record.{Answer}
use Rattle.capture.proofs.Answers.{refusal_numbered}
use Rattle.reader.specs.Capture.{Contents}
use Rattle.reader.proofs.Contents.{joined_at, contents-of-parts, Stops, contents-stop}
use Rattle.records.specs.Records.{record_called}
use Rattle.printed.specs.declared.answer.RecordAnswer.{RecordAnswer}
use Rattle.printed.specs.Text.{line, lines}
use Rattle.playback.specs.Replay.{Replayed, Room, endless, bytes, room_for, room_behind, ended, halted, after_answers, records_replayed, read_by, replayed}
use Rattle.playback.specs.Transcript.{told, transcribed}
use Rattle.playback.specs.Statements.{gone_on, PartsReplayAsWhole, Joins, PartsTranscribeAsWhole}
use Rattle.playback.proofs.Answers.{answer_from}
use Rattle.records.proofs.Refused.{record_timed, record_length}

-- the room behind no text, and behind one text and another
behind-none : (room : Room) → room_behind room [] ≡ room
behind-none endless = refl
behind-none (bytes rest) = ap bytes (omega arith)

behind-both : (room : Room) (a b : List ℕ) → room_behind room (a ++ b) ≡ room_behind (room_behind room a) b
behind-both endless a b = refl
behind-both (bytes rest) a b = ap bytes (omega (arith, length-append a b))

-- what was read of a capture, replayed
abbrev pub contents_replayed : Seen → Room → Contents → State → List ℕ → ℕ → Replayed
contents_replayed e room c s f n = records_replayed e (answer_number c.stop) room c.records s f n

module _ (e : Seen) where
  -- a replay that came to its end goes on with more records
  abbrev gone_over : Room → ℕ → Contents → Replayed → Replayed
  gone_over room n c r =
      when ended r.ending then
      after_answers r.answers
      (contents_replayed e (room_behind room (lines n r.answers)) c r.ending.state r.ending.frame r.ending.place)
      else r

  -- one answer before all that
  answer-first :
      (room : Room) (n : ℕ) (a : RecordAnswer) (c : Contents) (r : Replayed)
      → after_answers (a ∷ []) (gone_over (room_behind room (line n a)) (n + 1) c r) ≡ gone_over room n c (after_answers (a ∷ []) r)
  unfolding lines
  answer-first room n a c r = by (ended r.ending)
    where
      more : Room → Replayed
      more left = contents_replayed e left c r.ending.state r.ending.frame r.ending.place

      by :
          (t : Bool)
          → after_answers (a ∷ []) (when t then after_answers r.answers (more (room_behind (room_behind room (line n a)) (lines (n + 1) r.answers))) else r)
          ≡ (when t then after_answers (a ∷ r.answers) (more (room_behind room (line n a ++ lines (n + 1) r.answers))) else after_answers (a ∷ []) r)
      by true = ap (λ (left : Room). after_answers (a ∷ r.answers) (more left)) (sym (behind-both room (line n a) (lines (n + 1) r.answers)))
      by false = refl

  records-joined :
      (room : Room) (xs : List Record) (c : Contents) (s : State) (f : List ℕ) (n : ℕ)
      → records_replayed e (answer_number c.stop) room (xs ++ c.records) s f n ≡ gone_over room n c (records_replayed e 0 room xs s f n)
  unfolding records_replayed lines
  records-joined room [] c s f n = ap (λ (left : Room). contents_replayed e left c s f n) (sym (behind-none room))
  records-joined room (r ∷ xs) c s f n =
      by (room_for room n) (eqb k.number 0) refl (records-joined (room_behind room (line n (answer_from r.kind k))) xs c k.state k.frame (n + 1))
    where
      k : Called
      k = record_called e r.kind r.value s f

      a : RecordAnswer
      a = answer_from r.kind k

      left : Room
      left = room_behind room (line n a)

      by :
          (q t : Bool)
          → eqb k.number 0 ≡ t
          → records_replayed e (answer_number c.stop) left (xs ++ c.records) k.state k.frame (n + 1)
          ≡ gone_over left (n + 1) c (records_replayed e 0 left xs k.state k.frame (n + 1))
          → (when not q then halted s f n 0 true
          else (when t then after_answers (a ∷ []) (records_replayed e (answer_number c.stop) left (xs ++ c.records) k.state k.frame (n + 1)) else halted s f n k.number false))
          ≡ gone_over room n c
          (when not q then halted s f n 0 true
          else (when t then after_answers (a ∷ []) (records_replayed e 0 left xs k.state k.frame (n + 1)) else halted s f n k.number false))
      by false t z rest = refl
      by true true z rest = ap (after_answers (a ∷ [])) rest ∙ answer-first room n a c (records_replayed e 0 left xs k.state k.frame (n + 1))
      by true false z rest = rw z

  -- a replay of what ends in a refusal did not come to its end
  stays-refused :
      (last : ℕ) → eqb last 0 ≡ false → (room : Room) (xs : List Record) (s : State) (f : List ℕ) (n : ℕ)
      → ended (records_replayed e last room xs s f n).ending ≡ false
  unfolding records_replayed
  stays-refused last h room [] s f n = rw h
  stays-refused last h room (r ∷ xs) s f n =
      let k : Called = record_called e r.kind r.value s f in
      either (λ (x : Replayed). ended x.ending ≡ false) (not (room_for room n)) refl
      (either-told (λ (x : Replayed). ended x.ending ≡ false) (eqb k.number 0)
      (λ t. stays-refused last h (room_behind room (line n (answer_from r.kind k))) xs k.state k.frame (n + 1))
      (λ t. rw t))

  replayed-by-stop :
      (room : Room) (xs : List Record) (a : Answer) (c : Contents) (s : State) (f : List ℕ) (n : ℕ)
      → Stops a
      → contents_replayed e room (joined_at a (record { records = xs; stop = a }) c) s f n ≡ gone_over room n c (records_replayed e (answer_number a) room xs s f n)
  replayed-by-stop room xs (Ok (Some r)) c s f n h = absurd h
  replayed-by-stop room xs (Ok None) c s f n h = records-joined room xs c s f n
  replayed-by-stop room xs (Err refusal) c s f n h = rw (stays-refused (refusal_number refusal) (refusal_numbered refusal) room xs s f n)

  replayed-length :
      (last : ℕ) (room : Room) (xs : List Record) (s : State) (f : List ℕ) (n : ℕ)
      → length (records_replayed e last room xs s f n).ending.frame ≡ length f
  unfolding records_replayed
  replayed-length last room [] s f n = refl
  replayed-length last room (r ∷ xs) s f n =
      let k : Called = record_called e r.kind r.value s f in
      either (λ (x : Replayed). length x.ending.frame ≡ length f) (not (room_for room n)) refl
      (either (λ (x : Replayed). length x.ending.frame ≡ length f) (eqb k.number 0)
      (replayed-length last (room_behind room (line n (answer_from r.kind k))) xs k.state k.frame (n + 1) ∙ record_length e r.kind r.value s f)
      refl)

  replayed_timed :
      (last : ℕ) (room : Room) (xs : List Record) (s : State) (f : List ℕ) (n : ℕ)
      → (records_replayed e last room xs s f n).ending.state.control.time.timed ≡ s.control.time.timed
  unfolding records_replayed
  replayed_timed last room [] s f n = refl
  replayed_timed last room (r ∷ xs) s f n =
      let k : Called = record_called e r.kind r.value s f in
      either (λ (x : Replayed). x.ending.state.control.time.timed ≡ s.control.time.timed) (not (room_for room n)) refl
      (either (λ (x : Replayed). x.ending.state.control.time.timed ≡ s.control.time.timed) (eqb k.number 0)
      (replayed_timed last (room_behind room (line n (answer_from r.kind k))) xs k.state k.frame (n + 1) ∙ record_timed e r.kind r.value s f)
      refl)

  -- where frame and fonts are not refused, nothing is asked of them again; and the next part is read as the first was
  let_in_again :
      (room : Room) (n : ℕ) (more : List ℕ) (s : State) (f : List ℕ) (r : Replayed)
      → eqb (refusal_of (length f) (length e.fonts.half) (length e.fonts.full)) 0 ≡ true
      → r.ending.state.control.time.timed ≡ s.control.time.timed
      → length r.ending.frame ≡ length f
      → gone_over room n (read_by s more) r ≡ gone_on e room n more r
  unfolding replayed
  let_in_again room n more s f r q t l = rw (l, q, t)

pub parts-replay_as_whole : PartsReplayAsWhole
unfolding replayed
parts-replay_as_whole e room part more s f n h = by (eqb (refusal_of (length f) (length e.fonts.half) (length e.fonts.full)) 0) refl
  where
    m : ℕ
    m = refusal_of (length f) (length e.fonts.half) (length e.fonts.full)

    x : Contents
    x = read_by s part

    by :
        (t : Bool)
        → eqb m 0 ≡ t
        → (when t then contents_replayed e room (read_by s (part ++ more)) s f n else halted s f n m false)
        ≡ gone_on e room n more (when t then contents_replayed e room x s f n else halted s f n m false)
    by true q =
        ap (λ (c : Contents). contents_replayed e room c s f n) (contents-of-parts s.control.time.timed part more h)
        ∙ replayed-by-stop e room x.records x.stop (read_by s more) s f n (contents-stop s.control.time.timed part)
        ∙ let_in_again e room n more s f (contents_replayed e room x s f n) q (replayed_timed e (answer_number x.stop) room x.records s f n)
        (replayed-length e (answer_number x.stop) room x.records s f n)
    by false q = rw q

-- the place counts the answers
module _ (e : Seen) where
  records-place :
      (last : ℕ) (room : Room) (xs : List Record) (s : State) (f : List ℕ) (n : ℕ)
      → (records_replayed e last room xs s f n).ending.place ≡ n + length (records_replayed e last room xs s f n).answers
  unfolding records_replayed
  records-place last room [] s f n = omega arith
  records-place last room (r ∷ xs) s f n =
      let k : Called = record_called e r.kind r.value s f in
      either (λ (x : Replayed). x.ending.place ≡ n + length x.answers) (not (room_for room n)) (omega arith)
      (either (λ (x : Replayed). x.ending.place ≡ n + length x.answers) (eqb k.number 0)
      (records-place last (room_behind room (line n (answer_from r.kind k))) xs k.state k.frame (n + 1) ∙ omega arith)
      (omega arith))

  pub replayed-place :
      (room : Room) (c : List ℕ) (s : State) (f : List ℕ) (n : ℕ)
      → (replayed e room c s f n).ending.place ≡ n + length (replayed e room c s f n).answers
  unfolding replayed
  replayed-place room c s f n =
      either (λ (x : Replayed). x.ending.place ≡ n + length x.answers) (eqb (refusal_of (length f) (length e.fonts.half) (length e.fonts.full)) 0)
      (records-place (answer_number (read_by s c).stop) room (read_by s c).records s f n)
      (omega arith)

-- stores from a place on leave what stands before it
sets-none : (b : List ℕ) (i : ℕ) → sets [] i b ≡ []
sets-none [] i = refl
sets-none (x ∷ b) i = sets-none b _

sets-after-one : (b : List ℕ) (x : ℕ) (l : List ℕ) (i : ℕ) → sets (x ∷ l) (suc i) b ≡ x ∷ sets l i b
sets-after-one [] x l i = refl
sets-after-one (y ∷ b) x l i = sets-after-one b x (set l i y) (suc i)

sets_behind : (i : ℕ) (l b : List ℕ) → sets l i b ≡ take i l ++ sets (drop i l) 0 b
sets_behind zero l b = refl
sets_behind (suc i) [] b = sets-none b (suc i) ∙ sym (sets-none b 0)
sets_behind (suc i) (x ∷ l) b = sets-after-one b x l i ∙ ap (λ (r : List ℕ). x ∷ r) (sets_behind i l b)

-- the lines of some answers and of more
lines_append : (n : ℕ) (a b : List RecordAnswer) → lines n (a ++ b) ≡ lines n a ++ lines (n + length a) b
unfolding lines
lines_append n [] b = ap (λ (i : ℕ). lines i b) (omega arith)
lines_append n (x ∷ a) b =
    let place : n + 1 + length a ≡ n + length (x ∷ a) = omega arith in
    ap (λ (l : List ℕ). line n x ++ l) (lines_append (n + 1) a b ∙ ap (λ (i : ℕ). lines (n + 1) a ++ lines i b) place)
    ∙ sym (append_assoc (line n x) (lines (n + 1) a) (lines (n + length (x ∷ a)) b))

-- two transcripts in one buffer
module _ (n : ℕ) (text : List ℕ) (r : Replayed) where
  abbrev before : List ℕ
  before = lines n r.answers

  abbrev left : List ℕ
  left = drop (length before) (sets text 0 before)

  left_room : bytes (length left) ≡ room_behind (bytes (length text)) before
  left_room = ap bytes (length-drop (length before) (sets text 0 before) ∙ ap (λ (k : ℕ). k - length before) (length-sets text 0 before))

  joins :
      (on : Replayed)
      → r.ending.place ≡ n + length r.answers
      → Joins (told true n text r) (told true r.ending.place left on) (told true n text (after_answers r.answers on))
  joins on place =
      let all : lines n (r.answers ++ on.answers) ≡ before ++ lines r.ending.place on.answers =
      lines_append n r.answers on.answers ∙ ap (λ (i : ℕ). before ++ lines i on.answers) (sym place) in
      let behind : 0 + length before ≡ length before = omega arith in
      record {
        ending = refl;
        text =
            ap (sets text 0) all
            ∙ sets_append text 0 before (lines r.ending.place on.answers)
            ∙ ap (λ (i : ℕ). sets (sets text 0 before) i (lines r.ending.place on.answers)) behind
            ∙ sets_behind (length before) (sets text 0 before) (lines r.ending.place on.answers);
        filled = ap length all ∙ length-append before (lines r.ending.place on.answers);
      }

pub parts-transcribe_as_whole : PartsTranscribeAsWhole
unfolding transcribed
parts-transcribe_as_whole e part more s f n text h = record { goes = goes; stays = stays }
  where
    r : Replayed
    r = replayed e (bytes (length text)) part s f n

    whole : replayed e (bytes (length text)) (part ++ more) s f n ≡ gone_on e (bytes (length text)) n more r
    whole = parts-replay_as_whole e (bytes (length text)) part more s f n h

    on : Room → Replayed
    on room = replayed e room more r.ending.state r.ending.frame r.ending.place

    goes :
        ended r.ending ≡ true
        → Joins (told true n text r) (told true r.ending.place (left n text r) (on (bytes (length (left n text r)))))
        (told true n text (replayed e (bytes (length text)) (part ++ more) s f n))
    goes t =
        subst (λ (w : Replayed). Joins (told true n text r) (told true r.ending.place (left n text r) (on (bytes (length (left n text r))))) (told true n text w))
        (sym (whole ∙ rw (t, ← left_room n text r)))
        (joins n text r (on (bytes (length (left n text r)))) (replayed-place e (bytes (length text)) part s f n))

    stays : ended r.ending ≡ false → told true n text (replayed e (bytes (length text)) (part ++ more) s f n) ≡ told true n text r
    stays t = ap (told true n text) (whole ∙ rw t)
