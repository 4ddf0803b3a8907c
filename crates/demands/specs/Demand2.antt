-- Demand 2. "Every transfer does what document 01's reading of the data sheet says: memories, address counter, flags, reply byte and
-- picture. What our sender writes for the serial link is received as the bytes given to it. One list of writes reaches one state over
-- all three links, apart from the link's own bookkeeping and width flag, where function sets keep each link's width."
-- Proved in proofs/, as `demand-2`.
use Prim.{Unit}
use Rattle.std.specs.Prelude.{ℕ, ◌≤◌, Bool, true, false, List, [], ◌∷◌, ◌++◌, ◌≡◌, length, drop, Result}
use Rattle.controller.specs.declared.Control.{Control}
use Rattle.controller.specs.Memories.{Memories}
use Rattle.events.specs.declared.Event.{Event}
use Rattle.events.specs.declared.Pin.{Pin}
use Rattle.events.specs.declared.Event.TheVariants.{Transfer, Bit, SelectLow, Reset, Pass}
use Rattle.events.specs.declared.Transfer.TheVariants.{Instruct, Write, Status, Read}
use Rattle.serial.specs.declared.Receiver.{Receiver}
use Rattle.links.specs.declared.Link.TheVariants.{Serial}
use Rattle.links.specs.Idle.{idle}
use Rattle.sender.specs.Sender.{three_bytes, leaving, sent}
use Rattle.refusals.specs.declared.Refusal.{Refusal}
use Rattle.picture.specs.Picture.{Seen, pictured}
use Rattle.picture.specs.Refusals.{drawing, drawn}
use Rattle.controller.specs.State.{remade}
use Rattle.calls.specs.State.{State, state, fresh_state}
use Rattle.calls.specs.Calls.{Called, Fits, called}
use Rattle.connector.specs.Statements.{HalvesReadWhole}
use Rattle.demands.specs.Wires.{board}
use Rattle.demands.specs.Stored.{WordsStored}
use Rattle.demands.specs.ReadBack.{ReadBack}
use Rattle.demands.specs.Lost.{LostWhenBusy, Costs, LostLeavesAll, QuietCallsCostNothing, CarriedOutUnlessLost, StatusShowsBusy, PassFalls, TimeIsKept, FreshIsNotBusy}
use Rattle.demands.specs.Direction.{ClearTurns, HomeDoesNot, OthersDoNot, ElseAsHome}
use Rattle.demands.specs.Numbered.{NoTwoShare, EachIsSomeCodes, NoneBeyond, OthersAsBefore, EndNotAskedFor, ShownByNumber, ChosenWhenMade, ChosenAtReset, KeptOtherwise, SeenInPictureAlone, NamesTheSame}
use Rattle.demands.specs.WithoutTime.{AsBeforeTime, NoTimePasses}
use Rattle.demands.specs.Waiting.{WaitingIsServed, WaitingSenderIsServed}
use Rattle.demands.specs.Agreement.{CallIsConnected, SentIsReceived, WritesAreReceived, CarriedOutWhereNoneLost, NoneLostWithoutTime, LinksAgree, FunctionSetsKeepDl}
use Rattle.panel.specs.declared.Panel.{Panel}
use Rattle.panel.specs.declared.Outcome.{Outcome}
use Rattle.panel.specs.Handed.{state_of, handed, panel_after}

-- a call, with the fonts and the phase that it is given
pub record Given : Type 0 where
  pub seen : Seen
  pub call : Event

-- what a call by value left: its outcome, and the frame
pub record Left : Type 0 where
  pub outcome : Result Outcome Refusal
  pub frame : List ℕ

-- a run of calls, each on the panel and the frame that the one before it left, and each as its contract says
unfoldable pub Run : Panel → List ℕ → List Given → List Left → Type 0
Run p frame [] [] = Unit {0}
Run p frame [] (l ∷ left) = ⊥
Run p frame (g ∷ given) [] = ⊥
Run p frame (g ∷ given) (l ∷ left) =
    (handed p l.outcome l.frame ≡ called g.seen (state_of p) frame g.call) × Run (panel_after p l.outcome) l.frame given left

-- what the calls of a run left, each of the panel that it was made on
unfoldable pub handed_on : Panel → List Left → List Called
handed_on p [] = []
handed_on p (l ∷ left) = handed p l.outcome l.frame ∷ handed_on (panel_after p l.outcome) left

-- what the definitions yield, call after call
unfoldable pub yielded : State → List ℕ → List Given → List Called
yielded s frame [] = []
yielded s frame (g ∷ given) =
    let k : Called = called g.seen s frame g.call in
    k ∷ yielded k.state k.frame given

-- Every sequence of calls yields what the definitions yield: states, numbers, replies, counts and frames.
abbrev pub SequencesAsDefined : Type 0
SequencesAsDefined =
    (p : Panel) (frame : List ℕ) (given : List Given) (left : List Left)
    → Run p frame given left
    → handed_on p left ≡ yielded (state_of p) frame given

-- the calls that read
abbrev pub is_read : Event → Bool
is_read (Transfer (Instruct byte)) = false
is_read (Transfer (Write byte)) = false
is_read (Transfer Status) = true
is_read (Transfer Read) = true
is_read (Bit b) = false
is_read SelectLow = false
is_read (Reset pin) = false
is_read (Pass eights) = false

-- The reply is 0 unless the call reads.
abbrev pub RepliesToReads : Type 0
RepliesToReads =
    (e : Seen) (s : State) (frame : List ℕ) (call : Event) → is_read call ≡ false → (called e s frame call).reply ≡ 0

-- Reset gives a fresh state, of what the state keeps and the pin.
abbrev pub ResetIsFresh : Type 0
ResetIsFresh =
    (e : Seen) (s : State) (frame : List ℕ) (pin : Pin) → Fits e frame → (called e s frame (Reset pin)).state ≡ fresh_state (remade s.control pin)

-- Chip select low, on a serial link, leaves all but the link, and the link idle.
abbrev pub SelectLowIdles : Type 0
SelectLowIdles =
    (e : Seen) (s : State) (frame : List ℕ) (receiver : Receiver)
    → Fits e frame
    → s.link ≡ Serial receiver
    → called e s frame SelectLow
    ≡ record { state = state s.memories s.control (idle false); number = 0; reply = 0; count = 0; frame = frame }

-- An accepted drawing is the picture.
abbrev pub DrawnIsPicture : Type 0
DrawnIsPicture =
    (e : Seen) (m : Memories) (c : Control) (frame : List ℕ) → Fits e frame → drawn e m c frame ≡ drawing 0 (pictured e m c)

-- The sender writes its three bytes, and no others.
abbrev pub SendsThreeBytes : Type 0
SendsThreeBytes =
    (register : Bool) (byte : ℕ) (buffer : List ℕ)
    → 3 ≤ length buffer
    → sent register byte buffer ≡ leaving 0 (three_bytes register byte ++ drop 3 buffer)

pub record Demand2 : Type 0 where
  -- every call does what document 01 says of its link and of its transfer, and so does every sequence
  pub calls : CallIsConnected
  pub sequences : SequencesAsDefined
  pub replies : RepliesToReads
  pub resets : ResetIsFresh
  pub select_low : SelectLowIdles
  pub draws : DrawnIsPicture
  -- clear turns the direction to the right, home and all others do not; else it leaves what home leaves
  pub turns : ClearTurns
  pub turns_not_by_home : HomeDoesNot
  pub turns_not_by_others : OthersDoNot
  pub else_as_home : ElseAsHome
  -- two numberings, in each of which no two codes share a number; a panel's is chosen when it is made and at reset, and shows in the
  -- picture alone
  pub numbers_once : NoTwoShare
  pub numbers_all : EachIsSomeCodes
  pub numbers_no_more : NoneBeyond
  pub others_as_before : OthersAsBefore
  pub end_not_asked_for : EndNotAskedFor
  pub shown_by_number : ShownByNumber
  pub chosen_when_made : ChosenWhenMade
  pub chosen_at_reset : ChosenAtReset
  pub keeps_numbering : KeptOtherwise
  pub seen_alone : SeenInPictureAlone
  pub names_the_same : NamesTheSame
  -- with time: what a busy panel loses, what every other transfer does and costs, and how time passes
  pub loses : LostWhenBusy
  pub leaves : LostLeavesAll
  pub quiet : QuietCallsCostNothing
  pub carries : CarriedOutUnlessLost
  pub costs : Costs
  pub shows_busy : StatusShowsBusy
  pub passes : PassFalls
  pub keeps_time : TimeIsKept
  pub begins_idle : FreshIsNotBusy
  -- without time everything is as it was; and a meter that waits finds it so with time
  pub as_before : AsBeforeTime
  pub no_time_passes : NoTimePasses
  pub serves : WaitingIsServed
  pub serves_sender : WaitingSenderIsServed
  -- the two bytes of a word are stored where document 01 says, over every way, and read back; by half bytes as by bytes
  pub stores : WordsStored
  pub reads_back : ReadBack
  pub reads_halves : (e : Seen) → HalvesReadWhole (board e)
  -- what the sender writes is received as the bytes given; and so are writes over the other links
  pub sends : SendsThreeBytes
  pub receives : SentIsReceived
  pub receives_all : WritesAreReceived
  pub carries_out : CarriedOutWhereNoneLost
  pub loses_none : NoneLostWithoutTime
  -- one list of writes reaches one state over all three links, apart from link and DL, where it keeps each link's DL
  pub agrees : LinksAgree
  -- and it keeps the DL where bit 4 of every function set is that DL
  pub keeps : FunctionSetsKeepDl
