-- A wait as long as a clear takes leaves a panel in range idle, so that the next write is not lost; and an idle panel does what it does without
-- time.
use Prim.Native.Nat.{ℕ, ◌≤◌, ◌-◌, ◌*◌}
use mathlib.Core.Bool.{Bool, true, false, not}
use mathlib.Core.List.{List, [], ◌∷◌}
use mathlib.Core.Path.{◌≡◌, refl, sym, ap, ◌∙◌}
use native.Mathlib.Omega.{arith}
use borrow.Author.Tests.{le-ltb}
use Rattle.base.proofs.Choice.{either}
use Rattle.controller.specs.declared.Control.{Control}
use Rattle.controller.specs.State.{longest, InRange, AllInRange}
use Rattle.controller.specs.Instructions.{with_time}
use Rattle.time.specs.Time.{busy, elapsed}
use Rattle.deeds.specs.Transfers.{Acted, performed}
use Rattle.deeds.proofs.Kept.{performed-valid}
use Rattle.deeds.proofs.Untimed.{performed_timed, not-busy}
use Rattle.events.specs.declared.Deed.TheVariants.{Pass}
use Rattle.connector.specs.Items.{WholeWrite, Item, write, beside_wires, deed}
use Rattle.connector.specs.Connector.{does}
use Rattle.picture.specs.Picture.{Seen, look_of, byte_at, byte_over}
use Rattle.repaint.specs.Repaint.{repainted, named}
use Rattle.demands.specs.Wires.{Board, board_of, count_of, board_after, board, item_counts, passing, no_time, Timely, NoneLost, items}
use Rattle.demands.specs.Agreement.{NoneLostWithoutTime}
use Rattle.demands.specs.Waiting.{spaced, enough, board_without_time, WaitingSenderIsServed}
use Rattle.demands.proofs.Quiet.{none-painted, none-counted}
use Rattle.demands.proofs.Waiting.{acted_apart, performed-apart}

most : (timed : Bool) → longest timed ≤ 1600
most timed = either (λ (n : ℕ). n ≤ 1600) timed (omega arith) (omega arith)

idle_then : (c : Control) → InRange c → busy (with_time (elapsed enough c.time) c) ≡ false
idle_then c r = le-ltb 0 (c.time.remaining - enough * 8) (omega (arith, r.remaining, most c.time.timed))

-- the picture and the named bytes do not look at time
apart-after : (e : Seen) (b : Board) (a : Acted) → board_after e (board_without_time b) (acted_apart a) ≡ board_without_time (board_after e b a)
unfolding repainted named byte_at byte_over
apart-after e b a = refl

module _ (e : Seen) where
  -- where a write, and then a wait, leave a board
  abbrev written : Board → WholeWrite → Board
  written b w = ((board e).perform b (deed (write w))).state

  abbrev waited : Board → Board
  waited b = ((board e).perform b (Pass enough)).state

  module _ (b : Board) (v : AllInRange b.memories b.control) where
    written-valid : (w : WholeWrite) → AllInRange (written b w).memories (written b w).control
    written-valid w = performed-valid b.memories b.control v (deed (write w))

    waited-valid : AllInRange (waited b).memories (waited b).control
    waited-valid = performed-valid b.memories b.control v (Pass enough)

    waited-idle : busy (waited b).control ≡ false
    unfolding performed
    waited-idle = idle_then b.control v.control

  -- a wait leaves all but the time
  waited-apart : (b : Board) → board_without_time (waited b) ≡ board_without_time b
  unfolding performed
  waited-apart b =
      ap (λ (frame : List ℕ). record { memories = b.memories; control = with_time no_time b.control; frame = frame })
      (none-painted e.fonts b.memories (look_of e.phase b.control) b.frame)

  -- an idle board does a write as it does without time
  written_apart : (b : Board) (w : WholeWrite) → busy b.control ≡ false → written (board_without_time b) w ≡ board_without_time (written b w)
  written_apart b w idle =
      ap (λ (a : Acted). board_after e (board_without_time b) a) (performed-apart b.memories b.control idle (deed (write w)))
      ∙ apart-after e b (performed b.memories b.control (deed (write w)))

  none-lost :
      (writes : List WholeWrite) (b : Board)
      → AllInRange b.memories b.control
      → busy b.control ≡ false
      → NoneLost e b (spaced (passing enough) (items writes))
  unfolding NoneLost spaced passing
  none-lost [] b v idle = tt
  none-lost (w ∷ writes) b v idle =
      let after = written-valid b v w in
      (idle, none-lost writes (waited (written b w)) (waited-valid (written b w) after) (waited-idle (written b w) after))

  done-apart :
      (writes : List WholeWrite) (b : Board)
      → AllInRange b.memories b.control
      → busy b.control ≡ false
      → board_without_time (does (board e) b (spaced (passing enough) (items writes))) ≡ does (board e) (board_without_time b) (items writes)
  unfolding does spaced passing
  done-apart [] b v idle = refl
  done-apart (w ∷ writes) b v idle =
      let after = written-valid b v w in
      done-apart writes (waited (written b w)) (waited-valid (written b w) after) (waited-idle (written b w) after)
      ∙ ap (λ (x : Board). does (board e) x (items writes)) (waited-apart (written b w) ∙ sym (written_apart b w idle))

  counted-apart :
      (writes : List WholeWrite) (b : Board)
      → AllInRange b.memories b.control
      → busy b.control ≡ false
      → item_counts e b (spaced (passing enough) (items writes)) ≡ spaced 0 (item_counts e (board_without_time b) (items writes))
  unfolding item_counts spaced passing performed
  counted-apart [] b v idle = refl
  counted-apart (w ∷ writes) b v idle =
      let after = written-valid b v w in
      let first = count_of (performed b.memories b.control (deed (write w))) in
      let next = waited (written b w) in
      ap (λ (n : ℕ). first ∷ n ∷ item_counts e next (spaced (passing enough) (items writes)))
      (none-counted (written b w).control.view (written b w).memories.text)
      ∙ ap (λ (ns : List ℕ). first ∷ 0 ∷ ns) (counted-apart writes next (waited-valid (written b w) after) (waited-idle (written b w) after))
      ∙ ap (λ (x : Board). first ∷ 0 ∷ spaced 0 (item_counts e x (items writes))) (waited-apart (written b w) ∙ sym (written_apart b w idle))
      ∙ ap (λ (a : Acted). count_of a ∷ 0 ∷ spaced 0 (item_counts e (written (board_without_time b) w) (items writes)))
      (sym (performed-apart b.memories b.control idle (deed (write w))))

  -- without time none is lost at all
  never-busy :
      (list : List Item) (b : Board)
      → AllInRange b.memories b.control
      → b.control.time.timed ≡ false
      → NoneLost e b list
  unfolding NoneLost
  never-busy [] b v h = tt
  never-busy (write w ∷ list) b v h =
      (not-busy b.control v.control h, never-busy list (written b w) (written-valid b v w) (performed_timed b.memories b.control (deed (write w)) ∙ h))
  never-busy (beside_wires x ∷ list) b v h =
      never-busy list ((board e).perform b x.deed).state (performed-valid b.memories b.control v x.deed)
      (performed_timed b.memories b.control x.deed ∙ h)

pub none-lost-without-time : NoneLostWithoutTime
none-lost-without-time e s frame list v h = never-busy e list (board_of s frame) v h

all-timely : (c : Control) (writes : List WholeWrite) → c.time.timed ≡ true → Timely c (spaced (passing enough) (items writes))
unfolding Timely spaced passing
all-timely c [] h = tt
all-timely c (w ∷ writes) h = (ap not h, all-timely c writes h)

pub waiting_sender_is_served : WaitingSenderIsServed
waiting_sender_is_served e s frame writes v idle =
    record {
      timely = all-timely s.control writes;
      none_lost = none-lost e writes (board_of s frame) v idle;
      boards = done-apart e writes (board_of s frame) v idle;
      counts = counted-apart e writes (board_of s frame) v idle;
    }
