-- Request K1 left what there was: a panel without time does what a panel does that knows nothing of time.
-- Each statement is proved in proofs/, under its own name in small letters (`AsBeforeTime` as `as-before-time`).
use Rattle.std.specs.Prelude.{ℕ, Bool, true, false, List, ◌≡◌, eqb, None, Option, Some}
use Rattle.links.specs.declared.Carried.{Carried}
use Rattle.base.specs.Choice.{when◌then◌else◌}
use Rattle.controller.specs.declared.Control.{Control}
use Rattle.controller.specs.declared.Region.TheVariants as region
use Rattle.controller.specs.Memories.{Memories}
use Rattle.controller.specs.State.{remade}
use Rattle.deeds.specs.Transfers.{Acted, acted, executed, written, read_out, nothing_done, restarted}
use Rattle.events.specs.declared.Event.{Event}
use Rattle.events.specs.declared.Event.TheVariants.{Bit, SelectLow, Reset, Pass}
use Rattle.events.specs.declared.Event.TheVariants as event
use Rattle.events.specs.declared.Transfer.{Transfer}
use Rattle.events.specs.declared.Transfer.TheVariants.{Instruct, Write, Status, Read}
use Rattle.events.specs.declared.Deed.{Deed}
use Rattle.events.specs.declared.Deed.TheVariants as deed
use Rattle.picture.specs.Picture.{Seen}
use Rattle.picture.specs.Refusals.{lent_refusal}
use Rattle.calls.specs.State.{State, Valid}
use Rattle.calls.specs.Calls.{Called, refused, accepted, taken_on, Fits, called}

-- the call that time passes; every other is of document 01
abbrev pub is_pass : Event → Bool
is_pass (event.Transfer t) = false
is_pass (Bit bit) = false
is_pass SelectLow = false
is_pass (Reset pin) = false
is_pass (Pass value) = true

-- before there was time: a whole transfer is carried out, and a status read replies the counter
unfoldable pub carried_out_before : Memories → Control → Transfer → Acted
carried_out_before m c (Instruct byte) = executed m c byte
carried_out_before m c (Write byte) = written m c byte
carried_out_before m c Status = acted m (record { control = c; reply = c.place.counter; region = region.Nothing })
carried_out_before m c Read = acted m (read_out m c)

-- what reaches the controller: nothing, a whole transfer, or reset (that time passed was no deed; it stands here for nothing)
unfoldable pub performed_before : Memories → Control → Deed → Acted
performed_before m c deed.Nothing = acted m (nothing_done c)
performed_before m c (deed.Whole t) = carried_out_before m c t
performed_before m c (deed.Fresh pin) = restarted (remade c pin)
performed_before m c (deed.Pass value) = acted m (nothing_done c)

-- refusal 5, checked last
abbrev pub unless_other_before : Seen → State → List ℕ → Option Carried → Called
unless_other_before e s frame None = refused s frame 5
unless_other_before e s frame (Some c) = accepted e frame (performed_before s.memories s.control c.deed) c.rest

-- a call: refusals 1, 2, 3 in their order, then 5
unfoldable pub called_before : Seen → State → List ℕ → Event → Called
called_before e s frame call =
    when eqb (lent_refusal e frame) 0
    then unless_other_before e s frame (taken_on s call)
    else refused s frame (lent_refusal e frame)

-- On a panel without time every call of document 01 leaves and answers what it did before.
abbrev pub AsBeforeTime : Type 0
AsBeforeTime =
    (e : Seen) (s : State) (frame : List ℕ) (call : Event)
    → Valid s
    → s.control.time.timed ≡ false
    → is_pass call ≡ false
    → called e s frame call ≡ called_before e s frame call

-- And that time passes is refused there with 8, which changes nothing.
abbrev pub NoTimePasses : Type 0
NoTimePasses =
    (e : Seen) (s : State) (frame : List ℕ) (value : ℕ)
    → Fits e frame
    → s.control.time.timed ≡ false
    → called e s frame (Pass value) ≡ refused s frame 8
