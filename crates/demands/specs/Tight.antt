-- Document 01, "How tight the contracts are": for each input a contract settles the reply, count, refusal number, next state and all
-- lent buffers, so that any two outcomes that it admits are equal. `tight` in proofs/ proves `Tight` of every public call. `leaves` and `means`
-- are the two sides of the call's own `ensures`: a refusal hands on no state, and what the caller then has is what it gave, so that `leaves`
-- is of the input too.
use Rattle.std.specs.Prelude.{ℕ, Bool, List, [], ◌≡◌, Result}
use Rattle.std.specs.Borrow.{Bor}
use Rattle.refusals.specs.declared.Refusal.{Refusal}
use Rattle.refusals.specs.Numbers as numbers
use Rattle.controller.specs.Memories.{Memories}
use Rattle.sender.specs.Sender as sender
use Rattle.sender.specs.Sender.{Sent, sent}
use Rattle.picture.specs.Picture.{Seen}
use Rattle.picture.specs.Refusals as refusals
use Rattle.picture.specs.Refusals.{Drawn, drawn}
use Rattle.events.specs.declared.Event.{Event}
use Rattle.calls.specs.declared.Kept.{Kept}
use Rattle.calls.specs.declared.LentOutcome.{LentOutcome}
use Rattle.events.specs.declared.Made.{Made}
use Rattle.calls.specs.State.{State, kept_state, fresh_state}
use Rattle.calls.specs.Calls.{Called, called, left}
use Rattle.panel.specs.declared.Panel.{Panel}
use Rattle.panel.specs.declared.CallAnswer.{CallAnswer}
use Rattle.panel.specs.declared.Outcome.{Outcome}
use Rattle.panel.specs.Handed.{state_of, memories_of, stands, handed}
use Rattle.lent_pair.specs.declared.Clock.{Clock}
use Rattle.lent_pair.specs.declared.LentPairOutcome.{LentPairOutcome}
use Rattle.lent_pair.specs.Pair.{side, PairCalled, pair_called}
use Rattle.lent_pair.specs.Lent.{pair_lent}
use Rattle.pair.specs.declared.Pair.{Pair}
use Rattle.pair.specs.declared.PairOutcome.{PairOutcome}
use Rattle.pair.specs.Handed.{pair_handed}
use Rattle.pair_bytes.specs.Report.{SideBytes, PairReport, pair_report, pair_reported}
use Rattle.capture.specs.Kinds.{kind_numbered}
use Rattle.capture.specs.Record.{Answer, read_first, taken_with}
use Rattle.reader.specs.Capture.{step_at}
use Rattle.reader.specs.Reader as reader
use Rattle.playback.specs.declared.Stop.{Stop}
use Rattle.printed.specs.Text as lines
use Rattle.playback.specs.Transcript.{Told, replayed_silently, transcribed, left_by}
use Rattle.state_bytes.specs.Packed.{unpacked}
use Rattle.boundary.specs.Report.{Report, report, fresh_replay}
use Rattle.frame_view.specs.Braille as brailleOf
use Rattle.frame_view.specs.Plain as plain_of
use Rattle.frame_view.specs.Pbm as pbmOf

pub record Contract : Type 1 where
  pub Input : Type 0
  pub Outcome : Type 0
  pub Left : Type 0
  pub leaves : Input → Outcome → Left
  pub means : Input → Left

abbrev pub Tight : Contract → Type 0
Tight k = (i : k.Input) (x y : k.Outcome) → k.leaves i x ≡ k.means i → k.leaves i y ≡ k.means i → x ≡ y

-- a call that leaves nothing but its answer
abbrev pub answering : {I O : Type 0} → (I → O) → Contract
answering {I} {O} means = record { Input = I; Outcome = O; Left = O; leaves = λ i x. x; means = means }

-- an outcome with a buffer as the call left it
pub record With (A : Type 0) : Type 0 where
  pub result : A
  pub buffer : List ℕ

-- what a call of the panel is given: fonts and phase, the state, the frame, and the call with its own argument
pub record Calling (S : Type 0) : Type 0 where
  pub seen : Seen
  pub state : S
  pub frame : List ℕ
  pub call : Event

-- a state on memories that a board lends: these, and what it keeps beside them
pub record OnLent : Type 0 where
  pub memories : Memories
  pub kept : Kept

abbrev pub lent_state : OnLent → State
lent_state s = kept_state s.memories s.kept

-- what a call of the pair is given: of each side what it is lent for the picture, the state and the frame; and the clock
pub record Clocking (S : Type 0) : Type 0 where
  pub left_seen : Seen
  pub right_seen : Seen
  pub left : S
  pub right : S
  pub left_frame : List ℕ
  pub right_frame : List ℕ
  pub clock : Clock

-- the pair that its call by value is made on
abbrev pub pair_of : Clocking Panel → Pair
pair_of i = record { left = i.left; right = i.right }

-- what `draw` is given
pub record Drawing (S : Type 0) : Type 0 where
  pub seen : Seen
  pub state : S
  pub frame : List ℕ

-- what `send` is given
pub record Sending : Type 0 where
  pub register : Bool
  pub byte : ℕ
  pub buffer : List ℕ

-- `send`, and the same for other languages, whose answer is the number itself
abbrev pub sends : (Answered : Type 0) → (Answered → ℕ) → Contract
sends Answered number =
    record {
      Input = Sending;
      Outcome = With Answered;
      Left = Sent;
      leaves = λ i x. sender.leaving (number x.result) x.buffer;
      means = λ i. sent i.register i.byte i.buffer;
    }

-- what a call on lent memories leaves
pub record LeftLent : Type 0 where
  pub answer : Result LentOutcome Refusal
  pub memories : Memories
  pub frame : List ℕ

-- what a call leaves that changes the panel where it stands
pub record LeftStanding : Type 0 where
  pub answer : Result CallAnswer Refusal
  pub panel : Panel
  pub frame : List ℕ

-- what a call of the pair leaves, by value and on lent memories
pub record PairWithFrames : Type 0 where
  pub outcome : Result PairOutcome Refusal
  pub left_frame : List ℕ
  pub right_frame : List ℕ

pub record LentPairWithFrames : Type 0 where
  pub answer : Result LentPairOutcome Refusal
  pub left_memories : Memories
  pub right_memories : Memories
  pub left_frame : List ℕ
  pub right_frame : List ℕ

-- what the exported call of the pair is given
pub record ExportedClocking : Type 0 where
  pub left_seen : Seen
  pub right_seen : Seen
  pub left : SideBytes
  pub right : SideBytes
  pub clock : Clock

-- a capture and a position in it
pub record At (C : Type 0) : Type 0 where
  pub capture : C
  pub at : ℕ

-- what `replay` is given, on a panel or on a fresh one
pub record Replaying (S : Type 0) : Type 0 where
  pub seen : Seen
  pub state : S
  pub capture : List ℕ
  pub frame : List ℕ

-- an answer of the reader, and whether the panel has time
pub record Taking : Type 0 where
  pub time : Bool
  pub answer : Answer

-- what the exported replay is given: what the panel is made with, fonts and phase, the capture, and the three buffers that it may write
pub record Exported : Type 0 where
  pub made : Made
  pub seen : Seen
  pub capture : List ℕ
  pub frame : List ℕ
  pub state : List ℕ
  pub last : List ℕ

-- what the exported drawing is given: the controls cross the boundary as bytes
pub record ExportedDrawing : Type 0 where
  pub seen : Seen
  pub memories : Memories
  pub control : List ℕ
  pub frame : List ℕ

-- what `transcribe` is given, and what it leaves
pub record Transcribing : Type 0 where
  pub seen : Seen
  pub state : Panel
  pub capture : List ℕ
  pub frame : List ℕ
  pub place : ℕ
  pub text : List ℕ

pub record LeftTold : Type 0 where
  pub stop : Stop
  pub frame : List ℕ
  pub text : List ℕ

-- what `put_last` is given
pub record LastLine : Type 0 where
  pub buffer : List ℕ
  pub place : ℕ
  pub number : ℕ

-- the public calls
pub data PublicCall : Type 1 where
  fresh : PublicCall
  -- transfer, bit, select_low, reset and pass, each with its own event
  call : PublicCall
  -- any of them on a panel where it stands
  standing_call : PublicCall
  draw : PublicCall
  -- the same five on lent memories
  lent_call : PublicCall
  -- a clock of two panels' wire, by value and on lent memories
  pair_bit : PublicCall
  lent_pair_bit : PublicCall
  send : PublicCall
  read : PublicCall
  record_at : PublicCall
  -- of any answer, whatever it is where nothing is refused
  answer_number : Type 0 → PublicCall
  answer_taken_with : PublicCall
  -- the number of a refusal, and the kind with a number
  number_of_refusal : PublicCall
  kind_with_number : PublicCall
  reader_over : PublicCall
  reader_step : PublicCall
  replay : PublicCall
  transcribe : PublicCall
  put_last : PublicCall
  -- what other languages link
  exported_draw : PublicCall
  exported_send : PublicCall
  exported_replay : PublicCall
  exported_pair_bit : PublicCall
  -- the glass as text and as a picture file
  braille : PublicCall
  plain : PublicCall
  pbm : PublicCall

abbrev pub contract_of : PublicCall → Contract
contract_of fresh = record { Input = Made; Outcome = Panel; Left = State; leaves = λ i x. state_of x; means = fresh_state }
contract_of call =
    record {
      Input = Calling Panel;
      Outcome = With (Result Outcome Refusal);
      Left = Called;
      leaves = λ i x. handed i.state x.result x.buffer;
      means = λ i. called i.seen (state_of i.state) i.frame i.call;
    }
contract_of standing_call =
    record {
      Input = Calling Panel;
      Outcome = LeftStanding;
      Left = Called;
      leaves = λ i x. stands x.panel x.answer x.frame;
      means = λ i. called i.seen (state_of i.state) i.frame i.call;
    }
contract_of draw =
    record {
      Input = Drawing Panel;
      Outcome = With (Result (Unit {0}) Refusal);
      Left = Drawn;
      leaves = λ i x. refusals.drawing (numbers.answer_number x.result) x.buffer;
      means = λ i. drawn i.seen (memories_of i.state) i.state.control i.frame;
    }
contract_of lent_call =
    record {
      Input = Calling OnLent;
      Outcome = LeftLent;
      Left = Called;
      leaves = λ i x. left i.state.kept x.answer x.memories x.frame;
      means = λ i. called i.seen (lent_state i.state) i.frame i.call;
    }
contract_of pair_bit =
    record {
      Input = Clocking Panel;
      Outcome = PairWithFrames;
      Left = PairCalled;
      leaves = λ i x. pair_handed (pair_of i) x.outcome x.left_frame x.right_frame;
      means = λ i. pair_called (side i.left_seen (state_of i.left) i.left_frame) (side i.right_seen (state_of i.right) i.right_frame) i.clock;
    }
contract_of lent_pair_bit =
    record {
      Input = Clocking OnLent;
      Outcome = LentPairWithFrames;
      Left = PairCalled;
      leaves = λ i x. pair_lent i.left.kept i.right.kept x.answer x.left_memories x.right_memories x.left_frame x.right_frame;
      means = λ i. pair_called (side i.left_seen (lent_state i.left) i.left_frame) (side i.right_seen (lent_state i.right) i.right_frame) i.clock;
    }
contract_of send = sends (Result (Unit {0}) Refusal) numbers.answer_number
contract_of read = answering read_first
contract_of record_at = answering (λ (i : At (List ℕ)). step_at i.capture i.at)
contract_of (answer_number T) = answering (λ (answer : Result T Refusal). numbers.answer_number answer)
contract_of answer_taken_with = answering (λ (i : Taking). taken_with i.time i.answer)
contract_of number_of_refusal = answering numbers.refusal_number
contract_of kind_with_number = answering kind_numbered
contract_of reader_step = answering reader.reader_step
contract_of reader_over = answering (λ (i : At (Bor (List ℕ))). reader.over i.capture i.at)
contract_of replay =
    record {
      Input = Replaying Panel;
      Outcome = With Stop;
      Left = Told;
      leaves = λ i x. left_by x.result x.buffer [];
      means = λ i. replayed_silently i.seen i.capture (state_of i.state) i.frame;
    }
contract_of transcribe =
    record {
      Input = Transcribing;
      Outcome = LeftTold;
      Left = Told;
      leaves = λ i x. left_by x.stop x.frame x.text;
      means = λ i. transcribed i.seen i.capture (state_of i.state) i.frame i.place i.text;
    }
contract_of put_last =
    record {
      Input = LastLine;
      Outcome = With ℕ;
      Left = lines.Begun;
      leaves = λ i x. lines.begun_as x.result x.buffer;
      means = λ i. lines.begun_with i.buffer (lines.last_line i.place i.number);
    }
contract_of exported_draw =
    record {
      Input = ExportedDrawing;
      Outcome = With ℕ;
      Left = Drawn;
      leaves = λ i x. refusals.drawing x.result x.buffer;
      means = λ i. drawn i.seen i.memories (unpacked i.control) i.frame;
    }
contract_of exported_send = sends ℕ (λ number. number)
contract_of exported_replay =
    record {
      Input = Exported;
      Outcome = Report;
      Left = Report;
      leaves = λ i x. report x.number x.frame x.state x.last;
      means = λ i. fresh_replay i.made i.seen i.capture i.frame i.state i.last;
    }
contract_of exported_pair_bit =
    record {
      Input = ExportedClocking;
      Outcome = PairReport;
      Left = PairReport;
      leaves = λ i x. pair_report x.answer x.left x.right;
      means = λ i. pair_reported i.left_seen i.left i.right_seen i.right i.clock;
    }
contract_of braille = answering brailleOf.braille
contract_of plain = answering plain_of.plain
contract_of pbm = answering pbmOf.pbm
