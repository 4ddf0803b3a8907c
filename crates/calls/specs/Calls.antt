-- Document 01, "Refusal numbers": each call whole, with its refusals, its answer, and what it leaves in the state and the frame.
use Rattle.std.specs.Prelude.{ℕ, Bool, false, not, List, [], ◌∷◌, eqb, None, Option, Some, Result, Ok, Err}
use Rattle.links.specs.declared.Carried.{Carried}
use Rattle.base.specs.Choice.{when◌then◌else◌}
use Rattle.controller.specs.declared.Control.{Control}
use Rattle.controller.specs.Memories.{Memories}
use Rattle.deeds.specs.Transfers.{Acted, performed}
use Rattle.events.specs.declared.Event.{Event}
use Rattle.events.specs.declared.Event.TheVariants.{Transfer, Bit, SelectLow, Reset, Pass}
use Rattle.events.specs.declared.Deed.{Deed}
use Rattle.events.specs.declared.Deed.TheVariants.{Nothing}
use Rattle.links.specs.declared.Rest.{Rest}
use Rattle.links.specs.Taken.{taken_by, replied}
use Rattle.picture.specs.Picture.{Seen, look_of, wide}
use Rattle.picture.specs.Refusals.{lent_refusal}
pub use Rattle.picture.specs.Refusals.{Fits}
use Rattle.refusals.specs.declared.Refusal.{Refusal}
use Rattle.refusals.specs.Numbers.{refusal_number}
use Rattle.repaint.specs.Repaint.{repainted, count_named}
use Rattle.calls.specs.declared.Kept.{Kept}
use Rattle.calls.specs.declared.LentOutcome.{LentOutcome}
use Rattle.calls.specs.State.{State, state, kept_state}

-- all that a call leaves: the state, the refusal number, the reply, the count and the frame
pub record Called : Type 0 where
  pub state : State
  pub number : ℕ
  pub reply : ℕ
  pub count : ℕ
  pub frame : List ℕ

-- a refusal returns its number, reply 0, count 0, and changes no state or buffer
abbrev pub refused : State → List ℕ → ℕ → Called
refused s frame number = record { state = s; number = number; reply = 0; count = 0; frame = frame }

-- an accepted call answers number 0, and what its link makes of the controller's answer; the bytes named are repainted, and counted
abbrev pub accepted : Seen → List ℕ → Acted → Rest → Called
accepted e frame a rest =
    record {
      state = state a.memories a.done.control (replied rest a.done.reply).link;
      number = 0;
      reply = (replied rest a.done.reply).reply;
      count = count_named wide a.done.control.view a.memories.text a.done.region;
      frame = repainted wide e.fonts a.memories (look_of e.phase a.done.control) a.done.region frame;
    }

-- refusal 5, checked last; else what reaches the controller is done
abbrev pub unless_other : Seen → State → List ℕ → Option Carried → Called
unless_other e s frame None = refused s frame 5
unless_other e s frame (Some c) = accepted e frame (performed s.memories s.control c.deed) c.rest

-- what the panel's link makes of an event
abbrev pub taken_on : State → Event → Option Carried
taken_on s event = taken_by s.control.function.dl s.link event

-- what of it reaches the controller: of an event of the other link nothing
abbrev pub reaching : Option Carried → Deed
reaching None = Nothing
reaching (Some c) = c.deed

-- refusal 8: time passes, but the panel has no time
abbrev pub timeless : Control → Event → Bool
timeless c (Transfer t) = false
timeless c (Bit bit) = false
timeless c SelectLow = false
timeless c (Reset pin) = false
timeless c (Pass eights) = not c.time.timed

abbrev pub unless_timeless : Seen → State → List ℕ → Event → Called
unless_timeless e s frame event =
    when timeless s.control event then refused s frame 8 else unless_other e s frame (taken_on s event)

-- a call: refusals 1, 2, 3 in their order, then 8, then 5
unfoldable pub called : Seen → State → List ℕ → Event → Called
called e s frame event =
    when eqb (lent_refusal e frame) 0
    then unless_timeless e s frame event
    else refused s frame (lent_refusal e frame)

-- what an accepted call on lent memories leaves
abbrev pub left_accepted : LentOutcome → Memories → List ℕ → Called
left_accepted r m frame = record { state = kept_state m r.kept; number = 0; reply = r.reply; count = r.count; frame = frame }

-- and any, of a panel of which this was kept: it is what is still kept after a refused one
abbrev pub left : Kept → Result LentOutcome Refusal → Memories → List ℕ → Called
left kept (Ok r) m frame = left_accepted r m frame
left kept (Err refusal) m frame = refused (kept_state m kept) frame (refusal_number refusal)

-- the state and the frame, where a sequence of calls stands
pub record Stands : Type 0 where
  pub state : State
  pub frame : List ℕ

-- a sequence of calls, with fonts and phase held: a refused one leaves both as they were
unfoldable pub after_calls : Seen → State → List ℕ → List Event → Stands
after_calls e s frame [] = record { state = s; frame = frame }
after_calls e s frame (event ∷ events) = after_calls e (called e s frame event).state (called e s frame event).frame events
