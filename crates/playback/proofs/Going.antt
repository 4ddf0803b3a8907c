-- What holds at each turn of the replay's loop, over plain values: what is left of the capture, behind the answers so far, replays as
-- the whole; and the lines of the answers so far stand in the buffer, where lines are told.
use Prim.Native.Nat.{ℕ, ◌+◌, ◌-◌, ◌^◌, ◌≤◌, ◌<◌}
use mathlib.Core.Bool.{Bool, true, false}
use mathlib.Core.List.{List, [], ◌∷◌, ◌++◌, append_assoc, append-nil}
use mathlib.Core.Path.{◌≡◌, refl, sym, ap, ◌∙◌}
use native.Mathlib.Nat.{add-zero, zero-add}
use native.Mathlib.Omega.{arith}
use borrow.Author.Tests.{leb-true, ltb-true, eq-eqb, ne_eqb}
use lib.Dec.{leb, ltb}
use lib.ListN.{length, drop, length-drop, length-append}
use lib.Seq.{sets}
use Rattle.base.proofs.Lists.{sets_append}
use Rattle.base.proofs.Tests.{and_both}
use Rattle.picture.specs.Picture.{Seen}
use Rattle.picture.specs.Refusals.{lent_refusal}
use Rattle.calls.specs.State.{State, Valid}
use Rattle.calls.specs.Calls.{Called}
use Rattle.std.proofs.Common.{Some, Ok}
use Rattle.refusals.specs.declared.Refusal.{Refusal}
use Rattle.refusals.specs.Numbers.{refusal_number, answer_number}
use Rattle.capture.specs.declared.kind.Kind.TheVariants.{InstructionWrite}
use Rattle.capture.specs.declared.record.Record.{Record}
use Rattle.capture.specs.Record.{Answer, passed, taken_with}
use Rattle.reader.specs.declared.Step.{Step}
use Rattle.reader.specs.Capture.{Contents, read_at, step_at}
use Rattle.capture.proofs.Answers.{record_within, refusal_numbered}
use Rattle.reader.proofs.Contents.{contents_at_record, contents-at-stop}
use Rattle.capture.proofs.Taken.{taken_record}
use Rattle.printed.specs.declared.answer.RecordAnswer.{RecordAnswer}
use Rattle.printed.specs.Text.{record_answer, line, lines, Put, longest_line, has_room}
use Rattle.printed.proofs.Writing.{put_length, line-length, count_digits}
use Rattle.records.specs.Records.{record_called}
use Rattle.playback.specs.Replay.{Replayed, halted, after_answers, Room, room_of, room_for, room_behind, records_replayed, read_by, replayed}
use Rattle.playback.specs.Transcript.{last_or, told_by, Told, told}
use Rattle.playback.proofs.Answers.{answer_from}
use Rattle.records.proofs.Refused.{record_timed, record_state, record_frame, record_length}
use Rattle.records.proofs.Once.{record_count}
use Rattle.playback.proofs.Parts.{contents_replayed}

one_more : (before : List RecordAnswer) (a : RecordAnswer) (r : Replayed) → after_answers before (after_answers (a ∷ []) r) ≡ after_answers (before ++ (a ∷ [])) r
one_more before a r = ap (λ (l : List RecordAnswer). record { answers = l; ending = r.ending }) (sym (append_assoc before (a ∷ []) r.answers))

last-of-more : (d : RecordAnswer) (l : List RecordAnswer) (a : RecordAnswer) → last_or d (l ++ (a ∷ [])) ≡ a
unfolding last_or
last-of-more d [] a = refl
last-of-more d (b ∷ l) a = last-of-more b l a

-- the line of one answer more stands behind those before it
one_line : (n : ℕ) (before : List RecordAnswer) (a : RecordAnswer) → lines n (before ++ (a ∷ [])) ≡ lines n before ++ line (n + length before) a
unfolding lines
one_line n [] a = rw (append-nil, add-zero)
one_line n (b ∷ before) a =
    let place : n + 1 + length before ≡ n + length (b ∷ before) = omega arith in
    ap (λ (l : List ℕ). line n b ++ l) (one_line (n + 1) before a ∙ ap (λ (k : ℕ). lines (n + 1) before ++ line k a) place)
    ∙ sym (append_assoc (line n b) (lines (n + 1) before) (line (n + length (b ∷ before)) a))

one_told :
    (telling : Bool) (n : ℕ) (before : List RecordAnswer) (a : RecordAnswer)
    → told_by telling (lines n (before ++ (a ∷ []))) ≡ told_by telling (lines n before) ++ told_by telling (line (n + length before) a)
one_told true n before a = one_line n before a
one_told false n before a = refl

-- the room that a told line leaves
room_behind_lem : (telling : Bool) (rest : ℕ) (l : List ℕ) → room_of telling (rest - length (told_by telling l)) ≡ room_behind (room_of telling rest) l
room_behind_lem true rest l = refl
room_behind_lem false rest l = refl

-- a record that has room: its line fits, and it can be counted
module _ (rest n : ℕ) where
  tested : has_room rest n ≡ true → (longest_line n ≤ rest) × (n < 2 ^ 64 - 1)
  unfolding has_room
  tested room =
      let b = and_both (leb (longest_line n) rest) (ltb n (2 ^ 64 - 1)) room in
      (leb-true (longest_line n) rest b.0, ltb-true n (2 ^ 64 - 1) b.1)

  line-fits : (telling : Bool) (a : RecordAnswer) → room_for (room_of telling rest) n ≡ true → a.count ≤ 1024 → length (told_by telling (line n a)) ≤ rest
  line-fits true a room h = omega (arith, (tested room).0, line-length n a, count_digits a.count h)
  line-fits false a room h = omega arith

  counted-on : (telling : Bool) → room_for (room_of telling rest) n ≡ true → (telling ≡ false → n < 2 ^ 64 - 1) → n < 2 ^ 64 - 1
  counted-on true room h = (tested room).1
  counted-on false room h = h refl

-- what a panel takes for what stands at a place
abbrev pub taken_at : State → List ℕ → ℕ → Answer
taken_at s c at = taken_with s.control.time.timed (read_at c at)

module _ (e : Seen) (room : Room) (c : List ℕ) (s : State) (f : List ℕ) (n at : ℕ) where
  -- what is replayed from here on
  abbrev onward : Replayed
  onward = contents_replayed e room (read_by s (drop at c)) s f n

  module _ {r : Record} (k : Called) (h : taken_at s c at ≡ Ok (Some r)) (is : k ≡ record_called e r.kind r.value s f) where
    -- an accepted record answers, and the rest is replayed on what it left
    replayed_record :
        room_for room n ≡ true
        → k.number ≡ 0
        → onward
        ≡ after_answers (answer_from r.kind k ∷ []) (contents_replayed e (room_behind room (line n (answer_from r.kind k))) (read_by k.state (drop (at + 4) c)) k.state k.frame (n + 1))
    unfolding records_replayed
    replayed_record space z =
        let timed : k.state.control.time.timed ≡ s.control.time.timed =
        ap (λ (x : Called). x.state.control.time.timed) is ∙ record_timed e r.kind r.value s f in
        ap (λ (x : Contents). contents_replayed e room x s f n) (contents_at_record s.control.time.timed c at h)
        ∙ rw (space, ← is, eq-eqb k.number 0 z, timed)

    replayed-refused : room_for room n ≡ true → (k.number ≡ 0 → ⊥) → onward ≡ halted s f n k.number false
    unfolding records_replayed
    replayed-refused space z =
        ap (λ (x : Contents). contents_replayed e room x s f n) (contents_at_record s.control.time.timed c at h) ∙ rw (space, ← is, ne_eqb k.number 0 z)

  replayed_unroomed : {r : Record} → taken_at s c at ≡ Ok (Some r) → room_for room n ≡ false → onward ≡ halted s f n 0 true
  unfolding records_replayed
  replayed_unroomed h space = ap (λ (x : Contents). contents_replayed e room x s f n) (contents_at_record s.control.time.timed c at h) ∙ rw space

  replayed-stop : passed (taken_at s c at) ≡ 0 → onward ≡ halted s f n (answer_number (taken_at s c at)) false
  unfolding records_replayed
  replayed-stop h = ap (λ (x : Contents). contents_replayed e room x s f n) (contents-at-stop s.control.time.timed c at h)

module _ (e : Seen) (telling : Bool) (c : List ℕ) (s₀ : State) (f₀ : List ℕ) (n₀ : ℕ) (text₀ : List ℕ) where
  -- what the loop is to leave
  abbrev pub whole : Replayed
  whole = replayed e (room_of telling (length text₀)) c s₀ f₀ n₀

  abbrev pub Leaves : Told → Type 0
  Leaves r = r ≡ told telling n₀ text₀ whole

  none_told : told_by telling (lines n₀ []) ≡ []
  unfolding lines
  none_told = by telling
    where
      by : (t : Bool) → told_by t (lines n₀ []) ≡ []
      by true = refl
      by false = refl

  -- refusals 1, 2, 3 before anything is read
  pub turned_away :
      (why : Refusal)
      → refusal_number why ≡ lent_refusal e f₀
      → Leaves (record { ending = (halted s₀ f₀ n₀ (refusal_number why) false).ending; reply = 0; count = 0; text = text₀; filled = 0 })
  unfolding replayed last_or
  turned_away why is = rw (← is, refusal_numbered why, none_told)

  pub record Going (s : State) (f : List ℕ) (n at reply count : ℕ) (text : List ℕ) (filled : ℕ) : Type 0 where
    pub within : at ≤ length c
    pub placed : n ≤ n₀ + at
    pub valid : Valid s
    pub framed : length f ≡ length f₀
    pub before : List RecordAnswer
    pub numbered : n ≡ n₀ + length before
    pub replies : (last_or (record_answer InstructionWrite 0 0) before).reply ≡ reply
    pub counts : (last_or (record_answer InstructionWrite 0 0) before).count ≡ count
    pub stands : text ≡ sets text₀ 0 (told_by telling (lines n₀ before))
    pub follows : filled ≡ length (told_by telling (lines n₀ before))
    pub inside : filled ≤ length text
    pub same : whole ≡ after_answers before (contents_replayed e (room_of telling (length text - filled)) (read_by s (drop at c)) s f n)

  pub begins : 0 ≡ lent_refusal e f₀ → Valid s₀ → Going s₀ f₀ n₀ 0 0 0 text₀ 0
  unfolding replayed last_or
  begins is v = record {
    within = omega arith;
    placed = omega arith;
    valid = v;
    framed = refl;
    before = [];
    numbered = omega arith;
    replies = refl;
    counts = refl;
    stands = rw none_told;
    follows = rw none_told;
    inside = omega arith;
    same = let z : length text₀ - 0 ≡ length text₀ = omega arith in rw (z, ← is);
  }

  module _ {s : State} {f : List ℕ} {n at reply count : ℕ} {text : List ℕ} {filled : ℕ} (g : Going s f n at reply count text filled) where
    -- where nothing more is replayed, the answers so far are all
    ended : (r : Replayed) → r.answers ≡ [] → whole ≡ after_answers g.before r
        → Leaves (record { ending = r.ending; reply = reply; count = count; text = text; filled = filled })
    ended r none is =
        let all : whole ≡ record { answers = g.before; ending = r.ending } =
        is ∙ ap (λ (l : List RecordAnswer). record { answers = g.before ++ l; ending = r.ending }) none
        ∙ ap (λ (l : List RecordAnswer). record { answers = l; ending = r.ending }) (append-nil g.before) in
        rw (all, g.replies, g.counts, ← g.stands, ← g.follows)

    -- by what was read there
    module _ (step : Step) (read : step ≡ step_at c at) where
      taken_here : (a : Answer) → a ≡ taken_with s.control.time.timed step.answer → taken_at s c at ≡ a
      taken_here a taken = sym (taken ∙ ap (λ (x : Step). taken_with s.control.time.timed x.answer) read)

      -- what is no record
      pub stops :
          (a : Answer)
          → a ≡ taken_with s.control.time.timed step.answer
          → passed a ≡ 0
          → Leaves (record { ending = (halted s f n (answer_number a) false).ending; reply = reply; count = count; text = text; filled = filled })
      stops a taken none =
          let here = taken_here a taken in
          rw (← here)
          (ended (halted s f n (answer_number (taken_at s c at)) false) refl
          (g.same ∙ ap (after_answers g.before) (replayed-stop e _ c s f n at (ap passed here ∙ none))))

      module _
          {a : Answer} {r : Record}
          (taken : a ≡ taken_with s.control.time.timed step.answer)
          (is : a ≡ Ok (Some r)) where
        here : taken_at s c at ≡ Ok (Some r)
        here = taken_here a taken ∙ is

        stood : read_at c at ≡ Ok (Some r)
        stood = taken_record s.control.time.timed (read_at c at) here

        long : at + 4 ≤ length c
        long = omega (arith, record_within (drop at c) stood, length-drop at c, g.within)

        further : step.next ≡ at + 4
        further = ap (λ (x : Step). x.next) read ∙ ap (λ (a : Answer). at + passed a) stood

        -- less is left
        pub nearer : length c - step.next < length c - at
        nearer = omega (arith, further, long)

        -- a record whose line might have no room
        pub stops-full :
            room_for (room_of telling (length text - filled)) n ≡ false
            → Leaves (record { ending = (halted s f n 0 true).ending; reply = reply; count = count; text = text; filled = filled })
        stops-full space = ended (halted s f n 0 true) refl (g.same ∙ ap (after_answers g.before) (replayed_unroomed e _ c s f n at here space))

        module _
            (k : Called)
            (does : k ≡ record_called e r.kind r.value s f)
            (space : room_for (room_of telling (length text - filled)) n ≡ true) where
          pub room_for-line : filled + length (told_by telling (line n (answer_from r.kind k))) ≤ length text
          room_for-line =
              omega (
                arith,
                g.inside,
                line-fits (length text - filled) n telling (answer_from r.kind k) space (omega (arith, ap (λ (x : Called). x.count) does, record_count e r.kind r.value s f)),
              )

          -- the place can be counted on: by the room, or by the capture's length
          pub countable : (telling ≡ false → n₀ ≡ 0) → length c < 2 ^ 64 → n + 1 < 2 ^ 64
          countable zero few =
              omega (arith, counted-on (length text - filled) n telling space (λ t. omega (arith, zero t, g.placed, long)))

          turned :
              {left : List ℕ} {next : ℕ}
              → k.number ≡ 0
              → Valid k.state
              → Put text filled (told_by telling (line n (answer_from r.kind k))) left next
              → Going k.state k.frame (n + 1) (at + 4) k.reply k.count left next
          turned {left} {next} z v p =
              let a = answer_from r.kind k in
              let more = last-of-more (record_answer InstructionWrite 0 0) g.before a in
              let told = one_told telling n₀ g.before a ∙ ap (λ (i : ℕ). told_by telling (lines n₀ g.before) ++ told_by telling (line i a)) (sym g.numbered) in
              let rest : length left - next ≡ length text - filled - length (told_by telling (line n (answer_from r.kind k))) =
              omega (arith, put_length p, p.follows) in
              record {
                within = long;
                placed = omega (arith, g.placed);
                valid = v;
                framed = ap (λ (x : Called). length x.frame) does ∙ record_length e r.kind r.value s f ∙ g.framed;
                before = g.before ++ (a ∷ []);
                numbered = omega (arith, g.numbered, length-append g.before (a ∷ []));
                replies = ap (λ (x : RecordAnswer). x.reply) more;
                counts = ap (λ (x : RecordAnswer). x.count) more;
                stands =
                    p.stands
                    ∙ ap (λ (i : ℕ). sets text i (told_by telling (line n (answer_from r.kind k)))) (g.follows ∙ sym (zero-add _))
                    ∙ ap (λ (l : List ℕ). sets l (0 + length (told_by telling (lines n₀ g.before))) (told_by telling (line n (answer_from r.kind k)))) g.stands
                    ∙ sym (sets_append text₀ 0 (told_by telling (lines n₀ g.before)) (told_by telling (line n (answer_from r.kind k))))
                    ∙ ap (sets text₀ 0) (sym told);
                follows = p.follows ∙ omega (arith, g.follows, length-append (told_by telling (lines n₀ g.before)) (told_by telling (line n (answer_from r.kind k)))) ∙ ap length (sym told);
                inside = omega (arith, p.follows, put_length p, room_for-line);
                same =
                    g.same
                    ∙ ap (after_answers g.before) (replayed_record e _ c s f n at k here does space z)
                    ∙ one_more g.before a _
                    ∙ ap (λ (x : Room). after_answers (g.before ++ (a ∷ [])) (contents_replayed e x (read_by k.state (drop (at + 4) c)) k.state k.frame (n + 1)))
                    (sym (ap (room_of telling) rest ∙ room_behind_lem telling (length text - filled) (line n (answer_from r.kind k))));
              }

          pub turns :
              {left : List ℕ} {next : ℕ}
              → k.number ≡ 0
              → Valid k.state
              → Put text filled (told_by telling (line n (answer_from r.kind k))) left next
              → Going k.state k.frame (n + 1) step.next k.reply k.count left next
          turns z v p = rw further (turned z v p)

          -- a record that is refused has no effect
          pub refuses :
              (k.number ≡ 0 → ⊥)
              → Leaves (record { ending = (halted k.state k.frame n k.number false).ending; reply = reply; count = count; text = text; filled = filled })
          refuses z =
              rw (record_state e r.kind r.value s f k does z, record_frame e r.kind r.value s f k does z)
              (ended (halted s f n k.number false) refl (g.same ∙ ap (after_answers g.before) (replayed-refused e _ c s f n at k here does space z)))
