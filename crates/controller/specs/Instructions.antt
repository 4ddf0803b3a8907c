-- Document 01, "Instructions": what each entry of the table does to the controls, and to text memory.
use Rattle.std.specs.Prelude.{ℕ, ◌+◌, ◌%◌, Bool, true, false, not, List, get_or, set, replicate, None, Option, Some}
use Rattle.base.specs.Choice.{when◌then◌else◌}
use Rattle.base.specs.Bits.{bits5_0, bits3_0, bits1_0}
use Rattle.events.specs.declared.Numbering.{Numbering}
use Rattle.table.specs.declared.Target.{Target}
use Rattle.table.specs.declared.Target.TheVariants.{Text, Glyph, Graphic}
use Rattle.table.specs.declared.Modes.{Modes}
use Rattle.table.specs.declared.Touch.{Touch}
use Rattle.table.specs.declared.Touch.TheVariants as touch
use Rattle.table.specs.declared.Instruction.{Instruction}
use Rattle.table.specs.declared.Instruction.TheVariants.{Ignored, Clear, Home, EntryMode, Display, MoveCursor, MoveDisplay, FunctionSet, GlyphAddress, TextAddress, Standby, SetSr, ToggleReverse, Scroll, GraphicAddress}
use Rattle.controller.specs.declared.Place.{Place}
use Rattle.controller.specs.declared.Entry.{Entry}
use Rattle.controller.specs.declared.Shown.{Shown}
use Rattle.controller.specs.declared.Function.{Function}
use Rattle.controller.specs.declared.View.{View}
use Rattle.controller.specs.declared.Time.{Time}
use Rattle.controller.specs.declared.Control.{Control}

-- the controls with one part put in
abbrev pub with_place : Place → Control → Control
with_place p c = record { place = p; entry = c.entry; shown = c.shown; function = c.function; sr = c.sr; view = c.view; standby = c.standby; time = c.time }

abbrev pub with_entry : Entry → Control → Control
with_entry e c = record { place = c.place; entry = e; shown = c.shown; function = c.function; sr = c.sr; view = c.view; standby = c.standby; time = c.time }

abbrev pub with_shown : Shown → Control → Control
with_shown s c = record { place = c.place; entry = c.entry; shown = s; function = c.function; sr = c.sr; view = c.view; standby = c.standby; time = c.time }

abbrev pub with_function : Function → Control → Control
with_function f c = record { place = c.place; entry = c.entry; shown = c.shown; function = f; sr = c.sr; view = c.view; standby = c.standby; time = c.time }

abbrev pub with_sr : Bool → Control → Control
with_sr sr c = record { place = c.place; entry = c.entry; shown = c.shown; function = c.function; sr = sr; view = c.view; standby = c.standby; time = c.time }

abbrev pub with_view : View → Control → Control
with_view v c = record { place = c.place; entry = c.entry; shown = c.shown; function = c.function; sr = c.sr; view = v; standby = c.standby; time = c.time }

abbrev pub with_standby : Bool → Control → Control
with_standby s c = record { place = c.place; entry = c.entry; shown = c.shown; function = c.function; sr = c.sr; view = c.view; standby = s; time = c.time }

abbrev pub with_time : Time → Control → Control
with_time t c = record { place = c.place; entry = c.entry; shown = c.shown; function = c.function; sr = c.sr; view = c.view; standby = c.standby; time = t }

-- an address set, clear, home or a cursor move: the high half next, and a dummy read due
abbrev pub pointed : Target → ℕ → ℕ → Place
pointed target counter row = record { target = target; counter = counter; row = row; low = false; dummy = true; waiting = None }

-- the place with another waiting row, or none
abbrev pub with_waiting : Option ℕ → Place → Place
with_waiting w p = record { target = p.target; counter = p.counter; row = p.row; low = p.low; dummy = p.dummy; waiting = w }

-- every executed instruction drops a waiting row, unless it is its column, and ends standby, unless it is standby
abbrev pub begun : Control → Control
begun c = with_standby false (with_place (with_waiting None c.place) c)

-- a graphic address: first the row, which waits; then the column, and only then do target, row and column change
abbrev pub graphic_addressed : Option ℕ → Place → ℕ → Place
graphic_addressed None p a = with_waiting (Some (bits5_0 a)) p
graphic_addressed (Some y) p a = pointed Graphic (bits3_0 a) y

-- the counter one to the right or to the left, modulo 64
abbrev pub stepped : Bool → ℕ → ℕ
stepped right k = when right then (k + 1) % 64 else (k + 63) % 64

-- the view with one part put in
abbrev pub with_scroll : ℕ → View → View
with_scroll rows v = record { scroll = rows; shift = v.shift; reversed = v.reversed; numbering = v.numbering }

abbrev pub with_shift : ℕ → View → View
with_shift cells v = record { scroll = v.scroll; shift = cells; reversed = v.reversed; numbering = v.numbering }

abbrev pub with_reversed : List Bool → View → View
with_reversed lines v = record { scroll = v.scroll; shift = v.shift; reversed = lines; numbering = v.numbering }

-- no instruction puts in this one; statements do
abbrev pub with_numbering : Numbering → View → View
with_numbering n v = record { scroll = v.scroll; shift = v.shift; reversed = v.reversed; numbering = n }

-- display left adds 1 to the shift modulo 16, right subtracts 1
abbrev pub display_moved : Bool → View → View
display_moved right v = with_shift (when right then (v.shift + 15) % 16 else (v.shift + 1) % 16) v

-- home: target text, counter 0, shift 0
abbrev pub home : Control → Control
home c = with_view (with_shift 0 c.view) (with_place (pointed Text 0 c.place.row) c)

-- function set: bit 4 DL, bit 2 RE, bit 1 G (RE = 1 only); if bit 2 differs from RE, only RE changes
abbrev pub set_function : Function → Bool → Bool → Bool → Function
set_function f dl re g = by f.re re
  where
    by : Bool → Bool → Function
    by false false = record { dl = dl; re = false; g = f.g }
    by true true = record { dl = dl; re = true; g = g }
    by false true = record { dl = f.dl; re = true; g = f.g }
    by true false = record { dl = f.dl; re = false; g = f.g }

-- the reverse of line bits 1..0 is toggled
abbrev pub reverse_toggled : ℕ → View → View
reverse_toggled b v = with_reversed (set v.reversed (bits1_0 b) (not (get_or v.reversed (bits1_0 b) false))) v

-- the table's entries, one by one
unfoldable pub obeyed : Control → Instruction → Control
obeyed c Ignored = c
obeyed c Clear = with_entry (record { id = true; s = c.entry.s }) (home (begun c))
obeyed c Home = home (begun c)
obeyed c (EntryMode id s) = with_entry (record { id = id; s = s }) (begun c)
obeyed c (Display display cursor blink) = with_shown (record { display = display; cursor = cursor; blink = blink }) (begun c)
obeyed c (MoveCursor right) = with_place (pointed Text (stepped right c.place.counter) c.place.row) (begun c)
obeyed c (MoveDisplay right) = with_view (display_moved right c.view) (begun c)
obeyed c (FunctionSet dl re g) = with_function (set_function c.function dl re g) (begun c)
obeyed c (GlyphAddress a) = with_place (pointed Glyph a c.place.row) (begun c)
obeyed c (TextAddress a) = with_place (pointed Text a c.place.row) (begun c)
obeyed c Standby = with_standby true (begun c)
obeyed c (SetSr sr) = with_sr sr (begun c)
obeyed c (ToggleReverse b) = with_view (reverse_toggled b c.view) (begun c)
obeyed c (Scroll rows) = with_view (with_scroll rows c.view) (begun c)
obeyed c (GraphicAddress a) = with_place (graphic_addressed c.place.waiting c.place a) (begun c)

-- clear: text bytes 20h
abbrev pub cleared : Touch → List ℕ → List ℕ
cleared touch.Nothing text = text
cleared touch.Counter text = text
cleared touch.All text = text
cleared touch.AllAndText text = replicate 128 0x20

-- what the table asks for beside the byte
abbrev pub modes : Control → Modes
modes c = record { re = c.function.re; sr = c.sr; target = c.place.target }
