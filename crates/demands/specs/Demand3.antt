-- Demand 3. "Start with a frame that equals the picture of the present state. After any accepted sequence of transfers, with fonts and
-- blink phase held, repainting after each only the bytes that document 01 names gives the picture drawn afresh. Even on a frame that
-- held something else, the named bytes become the picture's. No other byte is altered, and the reported number is the number of bytes
-- named. With S at 0, so that no word shifts the display, a data transfer never names more than 64."
-- Proved in proofs/, as `demand-3`.
use Rattle.std.specs.Prelude.{ℕ, ◌≤◌, ◌<◌, Bool, true, false, ◌||◌, List, [], ◌∷◌, ◌≡◌, length, get_or}
use Rattle.base.specs.Choice.{when◌then◌else◌}
use Rattle.base.specs.Painting.{count}
use Rattle.deeds.specs.Transfers.{Acted, performed}
use Rattle.events.specs.declared.Event.{Event}
use Rattle.events.specs.declared.Transfer.{Transfer}
use Rattle.events.specs.declared.Transfer.TheVariants.{Write}
use Rattle.table.specs.declared.Target.TheVariants.{Glyph, Graphic}
use Rattle.events.specs.declared.Deed.TheVariants.{Whole}
use Rattle.picture.specs.Picture.{Seen, pictured, wide}
use Rattle.repaint.specs.Repaint.{named}
use Rattle.events.specs.declared.Made.{Made}
use Rattle.calls.specs.State.{State, fresh_state, Valid}
use Rattle.calls.specs.Calls.{taken_on, reaching, Fits, called, after_calls}
use Rattle.demands.specs.Wires.{is_data}

-- the picture of a state
abbrev pub picture_of : Seen → State → List ℕ
picture_of e s = pictured e s.memories s.control

-- the places that a deed names, in the state that it leaves
abbrev pub named_acted : Acted → ℕ → Bool
named_acted a i = named wide a.done.control.view a.memories.text a.done.region i

-- a call names what that names which of it reaches the controller
abbrev pub named_by : State → Event → ℕ → Bool
named_by s call = named_acted (performed s.memories s.control (reaching (taken_on s call)))

-- the places that some call of a sequence names
unfoldable pub ever_named : Seen → State → List ℕ → List Event → ℕ → Bool
ever_named e s frame [] i = false
ever_named e s frame (call ∷ calls) i =
    named_by s call i || ever_named e (called e s frame call).state (called e s frame call).frame calls i

-- from a frame that equals the picture, any sequence of calls leaves the picture drawn afresh
abbrev pub PictureStands : Type 0
PictureStands =
    (e : Seen) (s : State) (calls : List Event)
    → Valid s
    → (after_calls e s (picture_of e s) calls).frame ≡ picture_of e (after_calls e s (picture_of e s) calls).state

-- on any frame, the bytes that were named are the picture's, and no other byte is altered
abbrev pub NamedBytesShown : Type 0
NamedBytesShown =
    (e : Seen) (s : State) (frame : List ℕ) (calls : List Event) (i : ℕ)
    → Valid s
    → Fits e frame
    → i < 1024
    → get_or (after_calls e s frame calls).frame i 0
    ≡ (when ever_named e s frame calls i then get_or (picture_of e (after_calls e s frame calls).state) i 0 else get_or frame i 0)

-- and the frame keeps its length
abbrev pub KeepsLength : Type 0
KeepsLength = (e : Seen) (s : State) (frame : List ℕ) (calls : List Event) → length (after_calls e s frame calls).frame ≡ length frame

-- the reported number is the number of bytes named
abbrev pub CountIsNumber : Type 0
CountIsNumber =
    (e : Seen) (s : State) (frame : List ℕ) (call : Event)
    → Fits e frame
    → (called e s frame call).count ≡ count 1024 (named_by s call)

-- with S = 0 a data transfer, whatever link it came over, never names more than 64
abbrev pub AtMost64 : Type 0
AtMost64 =
    (e : Seen) (s : State) (frame : List ℕ) (call : Event) (t : Transfer)
    → reaching (taken_on s call) ≡ Whole t
    → is_data t ≡ true
    → s.control.entry.s ≡ false
    → (called e s frame call).count ≤ 64

-- a glyph write names at most 32, and a graphic write at most one, whatever S is
abbrev pub GlyphAtMost32 : Type 0
GlyphAtMost32 =
    (e : Seen) (s : State) (frame : List ℕ) (call : Event) (byte : ℕ)
    → reaching (taken_on s call) ≡ Whole (Write byte)
    → s.control.place.target ≡ Glyph
    → (called e s frame call).count ≤ 32

abbrev pub GraphicAtMost1 : Type 0
GraphicAtMost1 =
    (e : Seen) (s : State) (frame : List ℕ) (call : Event) (byte : ℕ)
    → reaching (taken_on s call) ≡ Whole (Write byte)
    → s.control.place.target ≡ Graphic
    → (called e s frame call).count ≤ 1

-- a fresh panel is valid, and every call hands on a valid state
abbrev pub FreshIsValid : Type 0
FreshIsValid = (made : Made) → Valid (fresh_state made)

abbrev pub StaysValid : Type 0
StaysValid = (e : Seen) (s : State) (frame : List ℕ) (calls : List Event) → Valid s → Valid (after_calls e s frame calls).state

pub record Demand3 : Type 0 where
  pub stands : PictureStands
  pub shown : NamedBytesShown
  pub lengths : KeepsLength
  pub counts : CountIsNumber
  pub bounded : AtMost64
  pub glyph_bounded : GlyphAtMost32
  pub graphic_bounded : GraphicAtMost1
  pub begins : FreshIsValid
  pub valid : StaysValid
