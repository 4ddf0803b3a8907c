-- Request K1 on demand 2: a meter that waits after each call for as long as a clear takes is served as by a panel without time.
-- Proved in proofs/, as `waiting-is-served` and `waiting-sender-is-served`.
use Prim.{Unit}
use Rattle.std.specs.Prelude.{ℕ, true, false, List, [], ◌∷◌, ◌≡◌}
use Rattle.controller.specs.Instructions.{with_time}
use Rattle.time.specs.Time.{busy}
use Rattle.events.specs.declared.Event.{Event}
use Rattle.events.specs.declared.Event.TheVariants.{Pass}
use Rattle.connector.specs.Items.{WholeWrite}
use Rattle.picture.specs.Picture.{Seen}
use Rattle.calls.specs.State.{State, Valid}
use Rattle.calls.specs.Calls.{Fits, after_calls}
use Rattle.demands.specs.Wires.{numbers_of, replies_of, counts_of, Board, board_of, given, item_counts, passing, no_time, Timely, NoneLost, items}
use Rattle.demands.specs.Lost.{without_time}
use Rattle.demands.specs.WithoutTime.{is_pass}

-- this after each of a list
unfoldable pub spaced : {A : Type 0} → A → List A → List A
spaced x [] = []
spaced x (y ∷ ys) = y ∷ x ∷ spaced x ys

-- 200 times 8 microseconds pass: 1,600, as long as a clear takes
abbrev pub enough : ℕ
enough = 200

abbrev pub wait : Event
wait = Pass enough

-- calls of document 01: in none of them time passes
unfoldable pub NonePass : List Event → Type 0
NonePass [] = Unit {0}
NonePass (call ∷ calls) = (is_pass call ≡ false) × NonePass calls

-- these calls with a wait after each, beside the same calls on the same panel without time
pub record ServedAlike (e : Seen) (s : State) (frame : List ℕ) (calls : List Event) : Type 0 where
  -- the same numbers, replies and counts, with the 0 of each wait
  pub numbers : numbers_of e s frame (spaced wait calls) ≡ spaced 0 (numbers_of e (without_time s) frame calls)
  pub replies : replies_of e s frame (spaced wait calls) ≡ spaced 0 (replies_of e (without_time s) frame calls)
  pub counts : counts_of e s frame (spaced wait calls) ≡ spaced 0 (counts_of e (without_time s) frame calls)
  -- at the end the same frame, memories, link and controls apart from time; and the panel is not busy
  pub frames : (after_calls e s frame (spaced wait calls)).frame ≡ (after_calls e (without_time s) frame calls).frame
  pub states : without_time (after_calls e s frame (spaced wait calls)).state ≡ (after_calls e (without_time s) frame calls).state
  pub idle : busy (after_calls e s frame (spaced wait calls)).state.control ≡ false

-- It holds on any panel with time that is not busy, on either link, for any calls, those of the other link among them, which are refused.
-- Frame and fonts fit; else every call is refused (demand 1).
abbrev pub WaitingIsServed : Type 0
WaitingIsServed =
    (e : Seen) (s : State) (frame : List ℕ) (calls : List Event)
    → Valid s
    → Fits e frame
    → s.control.time.timed ≡ true
    → busy s.control ≡ false
    → NonePass calls
    → ServedAlike e s frame calls

-- a board apart from its time
abbrev pub board_without_time : Board → Board
board_without_time b = record { memories = b.memories; control = with_time no_time b.control; frame = b.frame }

-- So it is with the sender's writes, over any link, and a wait between whole writes alone: where there is time none is refused for want of
-- it, none is lost, and apart from time they leave and count what they do on the same panel without time
pub record WritesServedAlike (e : Seen) (s : State) (frame : List ℕ) (writes : List WholeWrite) : Type 0 where
  pub timely : s.control.time.timed ≡ true → Timely s.control (spaced (passing enough) (items writes))
  pub none_lost : NoneLost e (board_of s frame) (spaced (passing enough) (items writes))
  pub boards : board_without_time (given e s frame (spaced (passing enough) (items writes))) ≡ given e (without_time s) frame (items writes)
  pub counts :
      item_counts e (board_of s frame) (spaced (passing enough) (items writes))
      ≡ spaced 0 (item_counts e (board_of (without_time s) frame) (items writes))

abbrev pub WaitingSenderIsServed : Type 0
WaitingSenderIsServed =
    (e : Seen) (s : State) (frame : List ℕ) (writes : List WholeWrite)
    → Valid s
    → busy s.control ≡ false
    → WritesServedAlike e s frame writes
