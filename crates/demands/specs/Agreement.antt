-- Document 01, "Links": the sender and the same state over all links, in the panel's own calls, frame and counts included.
-- Each statement is proved in proofs/, under its own name in small letters (`SentIsReceived` as `sent-is-received`).
use Rattle.std.specs.Prelude.{ℕ, true, false, List, ◌≡◌, length, replicate}
use Rattle.events.specs.declared.Event.{Event}
use Rattle.links.specs.declared.Link.{Link}
use Rattle.serial.specs.declared.Sync.TheVariants.{Lost}
use Rattle.connector.specs.Items.{WholeWrite, Item, Way, serial, wires, idle_on, resting, sync_after, Alike}
use Rattle.connector.specs.Connector.{Came, Comes, elsewhere, comes, event_at, KeepsDl}
use Rattle.picture.specs.Picture.{Seen}
use Rattle.calls.specs.State.{State, Valid}
use Rattle.calls.specs.Calls.{Called, refused, timeless, Fits, called, after_calls}
use Rattle.demands.specs.Wires.{numbers_of, counts_of, Board, board_of, board, given, item_counts, at_last, sums_of, on_link, standing, Timely, NoneLost, all_carried_out, items, with_dl, HasWidth, SetsWidth}

-- an accepted call leaves this board on its link, with its frame, and answers with this reply
pub record Does (k : Called) (o : Came Board) : Type 0 where
  pub state : k.state ≡ on_link o.at.state o.at.link
  pub frame : k.frame ≡ o.at.state.frame
  pub number : k.number ≡ 0
  pub reply : k.reply ≡ o.reply

abbrev pub DoesBy : Called → State → List ℕ → Comes (Came Board) → Type 0
DoesBy k s frame elsewhere = k ≡ refused s frame 5
DoesBy k s frame (comes o) = Does k o

-- 0. `board` is the panel: each call, a read too, does what the links' connector does with its event, unless it is refused for want of
-- time. So what holds of any controller at the end of a link holds of the panel.
abbrev pub CallIsConnected : Type 0
CallIsConnected =
    (e : Seen) (b : Board) (link : Link) (event : Event)
    → Fits e b.frame
    → timeless b.control event ≡ false
    → DoesBy (called e (on_link b link) b.frame event) (on_link b link) b.frame (event_at (board e) (record { state = b; link = link }) event)

-- the calls that carry these items are received as the items given
pub record ReceivedAsGiven (e : Seen) (way : Way) (s : State) (frame : List ℕ) (list : List Item) : Type 0 where
  -- they leave the memories, the controls and the frame that doing the items leaves, and nothing half received
  pub stands : after_calls e s frame (wires way list) ≡ standing (given e s frame list) (resting way (sync_after Lost list))
  -- every call is accepted
  pub accepted : numbers_of e s frame (wires way list) ≡ replicate (length (wires way list)) 0
  -- of each item the last call has the item's count, and the others 0
  pub counts : counts_of e s frame (wires way list) ≡ at_last way list (item_counts e (board_of s frame) list)
  -- so the sum of its calls' counts is the item's count
  pub sums : sums_of e way s frame list ≡ item_counts e (board_of s frame) list

-- 1. Any number of the sender's writes, begun on an idle serial link with chip select high, is received as the bytes given; time may pass
-- between them.
abbrev pub SentIsReceived : Type 0
SentIsReceived =
    (e : Seen) (s : State) (frame : List ℕ) (list : List Item)
    → Fits e frame
    → s.link ≡ idle_on serial
    → Timely s.control list
    → ReceivedAsGiven e serial s frame list

-- The same of every way, where the items keep the link's DL: 1 for bytes, 0 for half bytes, either for serial.
abbrev pub WritesAreReceived : Type 0
WritesAreReceived =
    (e : Seen) (way : Way) (s : State) (frame : List ℕ) (list : List Item)
    → Fits e frame
    → s.link ≡ idle_on way
    → Timely s.control list
    → KeepsDl (board e) way (board_of s frame) list
    → ReceivedAsGiven e way s frame list

-- Where none was lost, the bytes given are carried out, each at its cost: memories, controls and frame are those.
abbrev pub CarriedOutWhereNoneLost : Type 0
CarriedOutWhereNoneLost =
    (e : Seen) (s : State) (frame : List ℕ) (list : List Item)
    → NoneLost e (board_of s frame) list
    → given e s frame list ≡ all_carried_out e (board_of s frame) list

-- On a panel without time none is lost.
abbrev pub NoneLostWithoutTime : Type 0
NoneLostWithoutTime =
    (e : Seen) (s : State) (frame : List ℕ) (list : List Item)
    → Valid s
    → s.control.time.timed ≡ false
    → NoneLost e (board_of s frame) list

-- equal apart from link and DL
pub record SameButLinkAndDl (s t : State) : Type 0 where
  pub memories : s.memories ≡ t.memories
  pub controls : with_dl true s.control ≡ with_dl true t.control

-- two panels, lent the same frame, and each with its list over its way
pub record Agree (e : Seen) (way other : Way) (s t : State) (frame : List ℕ) (list others : List Item) : Type 0 where
  -- at the end all but link and DL is equal
  pub states : SameButLinkAndDl (after_calls e s frame (wires way list)).state (after_calls e t frame (wires other others)).state
  -- the frames are equal
  pub frames : (after_calls e s frame (wires way list)).frame ≡ (after_calls e t frame (wires other others)).frame
  -- and so are, for each write, the sums of its calls' counts
  pub sums : sums_of e way s frame list ≡ sums_of e other t frame others

-- 2. The same state over all links: begin equal apart from link and DL, links idle; the lists are equal except bit 4 of function
-- sets, which keeps each link's DL. Any two of the three ways agree; half bytes with anything in bits 3..0. With time all lose the same
-- writes, since time passes between whole writes alone.
abbrev pub LinksAgree : Type 0
LinksAgree =
    (e : Seen) (way other : Way) (s t : State) (frame : List ℕ) (list others : List Item)
    → Fits e frame
    → s.link ≡ idle_on way
    → t.link ≡ idle_on other
    → SameButLinkAndDl s t
    → Alike list others
    → Timely s.control list
    → KeepsDl (board e) way (board_of s frame) list
    → KeepsDl (board e) other (board_of t frame) others
    → Agree e way other s t frame list others

-- 3. A list of writes keeps the link's DL where the panel begins with it and bit 4 of every function set is that DL.
abbrev pub FunctionSetsKeepDl : Type 0
FunctionSetsKeepDl =
    (e : Seen) (way : Way) (s : State) (frame : List ℕ) (writes : List WholeWrite)
    → HasWidth way s.control
    → SetsWidth way writes
    → KeepsDl (board e) way (board_of s frame) (items writes)
