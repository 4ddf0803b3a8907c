-- Demand 1. "The connector can carry anything at all, and so can a capture. Each public call refuses bad input itself, with the number
-- in document 01, and a refused call or capture record leaves the panel state and each lent buffer as they were."
-- Proved in proofs/, as `demand-1`.
use Rattle.std.specs.Prelude.{ℕ, ◌+◌, ◌-◌, ◌^◌, ◌≤◌, ◌<◌, ◌%◌, Bool, true, false, not, List, [], ◌∷◌, ◌≢◌, ◌≡◌, length, take, drop, replicate, get_or, Some, None, Ok, Err}
use Rattle.controller.specs.declared.Control.{Control}
use Rattle.controller.specs.Memories.{Memories}
use Rattle.events.specs.declared.Made.{Made}
use Rattle.events.specs.declared.Event.{Event}
use Rattle.events.specs.declared.Event.TheVariants.{Transfer, Bit, SelectLow, Reset, Pass}
use Rattle.links.specs.declared.Link.{Link}
use Rattle.links.specs.Idle.{is_serial}
use Rattle.sender.specs.Sender.{sent, leaving}
use Rattle.picture.specs.Picture.{Seen}
use Rattle.picture.specs.Refusals.{drawn, drawing}
use Rattle.calls.specs.State.{State}
use Rattle.calls.specs.Calls.{timeless, called, refused, after_calls}
use Rattle.lent_pair.specs.declared.Clock.{Clock}
use Rattle.lent_pair.specs.Pair.{Side, refused_side, pair_called}
use Rattle.pair_bytes.specs.Report.{SideBytes, spelled_side, pair_report, pair_reported}
use Rattle.demands.specs.Wires.{numbers_of}
use Rattle.refusals.specs.declared.Refusal.TheVariants as refusal
use Rattle.refusals.specs.Numbers.{answer_number}
use Rattle.capture.specs.declared.record.Record.{Record}
use Rattle.capture.specs.Kinds.{last_kind}
use Rattle.capture.specs.Record.{Answer, kind_byte, value_byte, record_of, read_first, taken_with}
use Rattle.printed.specs.declared.answer.RecordAnswer.{RecordAnswer}
use Rattle.printed.specs.Text.{lines, longest_line}
use Rattle.playback.specs.Replay.{Replayed, halted, Room, endless, bytes, read_by, replayed}
use Rattle.playback.specs.Transcript.{told, transcribed}
use Rattle.playback.specs.Statements.{PartsReplayAsWhole, PartsTranscribeAsWhole, RoomTellsAll}
use Rattle.boundary.specs.Report.{report, fresh_replay}
use Rattle.demands.specs.Captures.{calls_of, calls_of_all, answers_of}

-- frame and fonts as document 01 wants them: what refusals 1, 2 and 3 find missing
abbrev pub GoodFrame : List ℕ → Type 0
GoodFrame frame = length frame ≡ 1024

abbrev pub GoodHalfFont : Seen → Type 0
GoodHalfFont e = length e.fonts.half ≡ 2048

abbrev pub GoodFullFont : Seen → Type 0
GoodFullFont e = (length e.fonts.full % 32 ≡ 0) × (length e.fonts.full ≤ 281600)

-- The table of refusal numbers, "when, and only then", in its order; `wants` says whether the call lets time pass on a panel that has
-- none, `other` whether it is of the other link.
pub data TableSays (e : Seen) (frame : List ℕ) (wants other : Bool) : ℕ → Type 0 where
  frame_length : (GoodFrame frame → ⊥) → TableSays e frame wants other 1
  half_font_length : GoodFrame frame → (GoodHalfFont e → ⊥) → TableSays e frame wants other 2
  full_font_length : GoodFrame frame → GoodHalfFont e → (GoodFullFont e → ⊥) → TableSays e frame wants other 3
  want_of_time : GoodFrame frame → GoodHalfFont e → GoodFullFont e → wants ≡ true → TableSays e frame wants other 8
  other_link : GoodFrame frame → GoodHalfFont e → GoodFullFont e → wants ≡ false → other ≡ true → TableSays e frame wants other 5
  all_good : GoodFrame frame → GoodHalfFont e → GoodFullFont e → wants ≡ false → other ≡ false → TableSays e frame wants other 0

-- the same where nothing but the buffers is asked
abbrev pub BuffersSay : Seen → List ℕ → ℕ → Type 0
BuffersSay e frame n = TableSays e frame false false n

-- transfers are of the parallel link, serial bits and select-low of the serial one; reset is of both, and time passes on both
abbrev pub of_other_link : Link → Event → Bool
of_other_link link (Transfer t) = is_serial link
of_other_link link (Bit b) = not (is_serial link)
of_other_link link SelectLow = not (is_serial link)
of_other_link link (Reset pin) = false
of_other_link link (Pass eights) = false

-- of the calls of a record the first decides
abbrev pub first_of_other_link : Link → List Event → Bool
first_of_other_link link [] = false
first_of_other_link link (call ∷ calls) = of_other_link link call

-- a transfer, bit, select-low, reset or pass: its number is the table's, and a refused one leaves state and frame, with reply 0 and count 0
pub record CallRefuses (e : Seen) (s : State) (frame : List ℕ) (call : Event) : Type 0 where
  pub says : TableSays e frame (timeless s.control call) (of_other_link s.link call) (called e s frame call).number
  pub keeps : (called e s frame call).number ≢ 0 → called e s frame call ≡ refused s frame (called e s frame call).number

-- the pair of request K5: 1 to 3 for the left panel, then 1 to 3 for the right; then 5 unless both panels are serial
pub data PairSays (l r : Side) : ℕ → Type 0 where
  left_buffers : (n : ℕ) → BuffersSay l.seen l.frame n → n ≢ 0 → PairSays l r n
  right_buffers : (n : ℕ) → BuffersSay l.seen l.frame 0 → BuffersSay r.seen r.frame n → n ≢ 0 → PairSays l r n
  not_both_serial : BuffersSay l.seen l.frame 0
      → BuffersSay r.seen r.frame 0
      → ((is_serial l.state.link ≡ true) × (is_serial r.state.link ≡ true) → ⊥)
      → PairSays l r 5
  both_good : BuffersSay l.seen l.frame 0
      → BuffersSay r.seen r.frame 0
      → is_serial l.state.link ≡ true
      → is_serial r.state.link ≡ true
      → PairSays l r 0

-- one number for both panels, whatever their selects are; a refusal touches neither
pub record PairRefuses (l r : Side) (clock : Clock) : Type 0 where
  pub says : PairSays l r (pair_called l r clock).left.number
  pub says_both : (pair_called l r clock).right.number ≡ (pair_called l r clock).left.number
  pub keeps :
      (pair_called l r clock).left.number ≢ 0
      → pair_called l r clock
      ≡ record { left = refused_side l (pair_called l r clock).left.number; right = refused_side r (pair_called l r clock).left.number }

-- drawing afresh takes frame and fonts, on either link
pub record DrawRefuses (e : Seen) (m : Memories) (c : Control) (frame : List ℕ) : Type 0 where
  pub says : BuffersSay e frame (drawn e m c frame).number
  pub keeps : (drawn e m c frame).number ≢ 0 → drawn e m c frame ≡ drawing (drawn e m c frame).number frame

-- the sender: 4 where its buffer is under 3 bytes
pub data SenderSays (buffer : List ℕ) : ℕ → Type 0 where
  buffer_length : length buffer < 3 → SenderSays buffer 4
  room_enough : 3 ≤ length buffer → SenderSays buffer 0

pub record SendRefuses (register : Bool) (byte : ℕ) (buffer : List ℕ) : Type 0 where
  pub says : SenderSays buffer (sent register byte buffer).number
  pub keeps : (sent register byte buffer).number ≢ 0 → sent register byte buffer ≡ leaving (sent register byte buffer).number buffer

-- a record's mark, and the values that its kind takes
abbrev pub Marked : List ℕ → Type 0
Marked c = (get_or c 0 0 ≡ 0xA5) × (get_or c 1 0 ≡ 0x5A)

pub record Allowed (kind value : ℕ) : Type 0 where
  pub status_read : kind ≡ 2 → value ≡ 0
  pub data_read : kind ≡ 3 → value ≡ 0
  pub select_low : kind ≡ 5 → value ≡ 0
  pub reset : kind ≡ 6 → value ≤ 3

-- what stands at the beginning of a capture, to a panel with or without time, with its number: 6 to 9 in their order; 0 for the end, and
-- for a record
pub data RecordSays (time : Bool) (c : List ℕ) : Answer → ℕ → Type 0 where
  remain : 1 ≤ length c → length c ≤ 3 → RecordSays time c (Err refusal.Cut) 6
  mark : 4 ≤ length c → (Marked c → ⊥) → RecordSays time c (Err refusal.Mark) 7
  kind : 4 ≤ length c → Marked c → last_kind time < kind_byte c → RecordSays time c (Err refusal.Kind) 8
  value : 4 ≤ length c
      → Marked c
      → kind_byte c ≤ last_kind time
      → (Allowed (kind_byte c) (value_byte c) → ⊥)
      → RecordSays time c (Err refusal.Value) 9
  end : length c ≡ 0 → RecordSays time c (Ok None) 0
  good : 4 ≤ length c
      → Marked c
      → kind_byte c ≤ last_kind time
      → Allowed (kind_byte c) (value_byte c)
      → RecordSays time c (Ok (Some (record_of (kind_byte c) (value_byte c)))) 0

-- "when, and only then": a table gives one number alone
abbrev pub OneNumber : (ℕ → Type 0) → Type 0
OneNumber Says = (m n : ℕ) → Says m → Says n → m ≡ n

-- and one answer
abbrev pub OneAnswer : (Answer → ℕ → Type 0) → Type 0
OneAnswer Says = (a b : Answer) (m n : ℕ) → Says a m → Says b n → (a ≡ b) × (m ≡ n)

-- one more record might not be told: the longest line that it could have has no room behind the lines before it, or there are as many
-- records as 64 bits can count
pub data NoRoom (room : Room) (place : ℕ) (answers : List RecordAnswer) : Type 0 where
  line_too_long : (size : ℕ)
      → room ≡ bytes size
      → size < length (lines place answers) + longest_line (place + length answers)
      → NoRoom room place answers
  uncounted : (size : ℕ) → room ≡ bytes size → 2 ^ 64 - 1 ≤ place + length answers → NoRoom room place answers

-- where a replay stops behind these answers, in a state with this link: at what stands behind the last record, with its number; at a
-- record of the other link, with 5; or, where it writes lines, at a record whose line might have no room
pub data StopsAt (rs : List Record) (behind : ℕ) (room : Room) (place : ℕ) (answers : List RecordAnswer) (number : ℕ) (full : Bool) (link : Link) : Type 0 where
  behind_all : length answers ≡ length rs → number ≡ behind → full ≡ false → StopsAt rs behind room place answers number full link
  at_record : (r : Record) (more : List Record)
      → drop (length answers) rs ≡ r ∷ more
      → first_of_other_link link (calls_of r) ≡ true
      → number ≡ 5
      → full ≡ false
      → StopsAt rs behind room place answers number full link
  no_room : (r : Record) (more : List Record)
      → drop (length answers) rs ≡ r ∷ more
      → NoRoom room place answers
      → number ≡ 0
      → full ≡ true
      → StopsAt rs behind room place answers number full link

-- a replay, with or without lines, from a number of accepted records on: the records before the one at which it stops stand, and that
-- one has no effect
pub record ReplayStops (e : Seen) (room : Room) (capture : List ℕ) (s : State) (frame : List ℕ) (place : ℕ) (r : Replayed) : Type 0 where
  -- refused as a call before anything is read: nothing changes, and nothing is answered
  pub refused : (n : ℕ) → BuffersSay e frame n → n ≢ 0 → r ≡ halted s frame place n false
  -- else it stops at the first record that is refused, or behind the last; each record before that has answered
  pub counts : r.ending.place ≡ place + length r.answers
  pub stops :
      BuffersSay e frame 0
      → StopsAt (read_by s capture).records (answer_number (read_by s capture).stop) room place r.answers r.ending.number r.ending.full r.ending.state.link
  -- every call of these records is accepted
  pub accepted :
      BuffersSay e frame 0
      → let calls : List Event = calls_of_all (take (length r.answers) (read_by s capture).records) in
      numbers_of e s frame calls ≡ replicate (length calls) 0
  -- the state and the frame are what these calls leave
  pub stands :
      BuffersSay e frame 0
      → record { state = r.ending.state; frame = r.ending.frame }
      ≡ after_calls e s frame (calls_of_all (take (length r.answers) (read_by s capture).records))
  -- and the answers are theirs: of each record its kind, its call's reply, and the sum of its calls' counts
  pub answers :
      BuffersSay e frame 0
      → r.answers ≡ answers_of e s frame (take (length r.answers) (read_by s capture).records)

-- the printed transcript is such a replay, whose lines have the buffer as their room: the lines of all its answers, in their order, stand
-- at the beginning of the buffer, and all else in it is as it was
abbrev pub TranscriptTells : Type 0
TranscriptTells =
    (e : Seen) (capture : List ℕ) (s : State) (frame : List ℕ) (place : ℕ) (text : List ℕ)
    → transcribed e capture s frame place text ≡ told true place text (replayed e (bytes (length text)) capture s frame place)

-- without lines, want of room never stops a replay
abbrev pub NeverFull : Type 0
NeverFull =
    (e : Seen) (capture : List ℕ) (s : State) (frame : List ℕ) (place : ℕ) → (replayed e endless capture s frame place).ending.full ≡ false

-- the printed transcript, and the replay and the pair that other languages link, are refused as calls too, and leave all that they were lent
abbrev pub TranscriptRefuses : Type 0
TranscriptRefuses =
    (e : Seen) (capture : List ℕ) (s : State) (frame : List ℕ) (place : ℕ) (text : List ℕ) (n : ℕ)
    → BuffersSay e frame n
    → n ≢ 0
    → transcribed e capture s frame place text ≡ record { ending = (halted s frame place n false).ending; reply = 0; count = 0; text = text; filled = 0 }

abbrev pub ExportedReplayRefuses : Type 0
ExportedReplayRefuses =
    (made : Made) (e : Seen) (capture frame state last : List ℕ) (n : ℕ)
    → BuffersSay e frame n
    → n ≢ 0
    → fresh_replay made e capture frame state last ≡ report n frame state last

abbrev pub ExportedPairRefuses : Type 0
ExportedPairRefuses =
    (el er : Seen) (l r : SideBytes) (clock : Clock) (n : ℕ)
    → PairSays (spelled_side el l) (spelled_side er r) n
    → n ≢ 0
    → pair_reported el l er r clock ≡ pair_report n l r

pub record Demand1 : Type 0 where
  pub calls : (e : Seen) (s : State) (frame : List ℕ) (call : Event) → CallRefuses e s frame call
  pub pairs : (l r : Side) (clock : Clock) → PairRefuses l r clock
  pub draws : (e : Seen) (m : Memories) (c : Control) (frame : List ℕ) → DrawRefuses e m c frame
  pub sends : (register : Bool) (byte : ℕ) (buffer : List ℕ) → SendRefuses register byte buffer
  pub captures : (time : Bool) (c : List ℕ) → RecordSays time c (taken_with time (read_first c)) (answer_number (taken_with time (read_first c)))
  -- of every replay, and so of `replay` and of `transcribe`
  pub replays :
      (e : Seen) (room : Room) (capture : List ℕ) (s : State) (frame : List ℕ) (place : ℕ)
      → ReplayStops e room capture s frame place (replayed e room capture s frame place)
  pub never_full : NeverFull
  -- a capture may be replayed, and transcribed, in parts of whole records
  pub parts : PartsReplayAsWhole
  pub transcribed_parts : PartsTranscribeAsWhole
  pub transcripts : TranscriptRefuses
  pub tells : TranscriptTells
  -- and 29 bytes for each record are room enough for all of it
  pub tells_all : RoomTellsAll
  pub exported_replays : ExportedReplayRefuses
  pub exported_pairs : ExportedPairRefuses
  pub one_number_for_calls : (e : Seen) (frame : List ℕ) (wants other : Bool) → OneNumber (TableSays e frame wants other)
  pub one_number_for_pairs : (l r : Side) → OneNumber (PairSays l r)
  pub one_number_for_sends : (buffer : List ℕ) → OneNumber (SenderSays buffer)
  pub one_answer_for_records : (time : Bool) (c : List ℕ) → OneAnswer (RecordSays time c)
