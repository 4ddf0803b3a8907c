-- Demand 3 for every call: a place that is not named keeps its picture byte, so repainting a frame that equals the picture gives the
-- picture drawn afresh; and so over any sequence of calls.
use Prim.Native.Nat.{ℕ, ◌<◌}
use mathlib.Core.Bool.{false}
use mathlib.Core.Path.{◌≡◌, refl}
use Rattle.base.proofs.Choice.{either}
use Rattle.base.proofs.Layouts.{repainted-whole}
use Rattle.table.specs.Table.{said}
use Rattle.controller.specs.declared.Control.{Control}
use Rattle.controller.specs.Memories.{Memories}
use Rattle.controller.specs.State.{InRange}
use Rattle.controller.specs.Instructions.{modes}
use Rattle.controller.specs.Named.{covers}
use Rattle.time.specs.Time.{lost}
use Rattle.deeds.specs.Transfers.{Acted, executed, status_read, carried_out, on_time, performed}
use Rattle.events.specs.declared.Event.{Event}
use Rattle.events.specs.declared.Transfer.{Transfer}
use Rattle.events.specs.declared.Transfer.TheVariants.{Instruct, Write, Status, Read}
use Rattle.events.specs.declared.Deed.{Deed}
use Rattle.events.specs.declared.Deed.TheVariants as deed
use Rattle.picture.specs.Picture.{Seen, look_of, byte_at, wide, picture, pictured}
use Rattle.picture.proofs.Wide.{wide-placed}
use Rattle.controller.specs.Glass.{place_of}
use Rattle.repaint.specs.Repaint.{named, repainted}
use Rattle.repaint.proofs.Unnamed.{never-whole, obeyed_unnamed, written_unnamed, read_out_unnamed}
use Rattle.calls.specs.State.{State, Valid}
use Rattle.calls.specs.Calls.{Called, called}
use Rattle.calls.proofs.StaysInRange.{of-call}

-- the bytes that are not named in what a transfer leaves are those of the picture of m and c
abbrev pub UnnamedKept : Seen → Memories → Control → Acted → Type 0
UnnamedKept e m c a =
    (row column : ℕ)
    → column < 32
    → covers a.done.control.view a.memories.text a.done.region row column ≡ false
    → byte_at e.fonts a.memories (look_of e.phase a.done.control) row column ≡ byte_at e.fonts m (look_of e.phase c) row column

module _ (e : Seen) (m : Memories) (c : Control) (r : InRange c) where
  carried_out_unnamed : (t : Transfer) → UnnamedKept e m c (carried_out m c t)
  unfolding carried_out executed status_read
  carried_out_unnamed (Instruct byte) row column h u = obeyed_unnamed e.fonts e.phase m c row column (said (modes c) byte) u
  carried_out_unnamed (Write byte) row column h u = written_unnamed e.fonts e.phase m c row column byte r h u
  carried_out_unnamed Status row column h u = refl
  carried_out_unnamed Read row column h u = read_out_unnamed e.fonts e.phase m c row column u

  -- a lost one names nothing and changes nothing, and the picture does not look at time
  on_time_unnamed : (t : Transfer) → UnnamedKept e m c (on_time m c t)
  unfolding on_time
  on_time_unnamed t = either (UnnamedKept e m c) (lost c t) (λ row column h u. refl) (carried_out_unnamed t)

  pub performed_unnamed : (d : Deed) → UnnamedKept e m c (performed m c d)
  unfolding performed
  performed_unnamed deed.Nothing row column h u = refl
  performed_unnamed (deed.Whole t) row column h u = on_time_unnamed t row column h u
  performed_unnamed (deed.Fresh pin) row column h u = absurd (never-whole _ _ row column u)
  performed_unnamed (deed.Pass eights) row column h u = refl

-- a frame that was the picture is repainted to the new one
repainted-picture :
    (e : Seen) (m : Memories) (c : Control) (a : Acted)
    → UnnamedKept e m c a
    → repainted wide e.fonts a.memories (look_of e.phase a.done.control) a.done.region (pictured e m c)
    ≡ pictured e a.memories a.done.control
unfolding repainted named picture
repainted-picture e m c a k =
    repainted-whole wide 32 32 place_of wide-placed (covers a.done.control.view a.memories.text a.done.region)
    (byte_at e.fonts a.memories (look_of e.phase a.done.control)) (byte_at e.fonts m (look_of e.phase c))
    (λ row column h l u. k row column l u)

-- the frame is the picture of the state
abbrev pub ShowsPicture : Seen → Called → Type 0
ShowsPicture e k = k.frame ≡ pictured e k.state.memories k.state.control

-- a call on a frame that is the picture leaves the picture
pub called-shows :
    (e : Seen) (s : State) (event : Event) → Valid s → ShowsPicture e (called e s (pictured e s.memories s.control) event)
called-shows e s event v =
    of-call (ShowsPicture e) e s (pictured e s.memories s.control) event (λ n. refl)
    (λ c. repainted-picture e s.memories s.control (performed s.memories s.control c.deed)
    (performed_unnamed e s.memories s.control v.control c.deed))
