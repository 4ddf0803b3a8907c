-- What no instruction touches, the time and the numbering: beside others it leaves the same.
use mathlib.Core.Path.{◌≡◌, refl, sym, ap, ◌∙◌}
use Rattle.table.specs.declared.Instruction.{Instruction}
use Rattle.table.specs.declared.Instruction.TheVariants.{Ignored, Clear, Home, EntryMode, Display, MoveCursor, MoveDisplay, FunctionSet, GlyphAddress, TextAddress, Standby, SetSr, ToggleReverse, Scroll, GraphicAddress}
use Rattle.events.specs.declared.Numbering.{Numbering}
use Rattle.controller.specs.declared.Time.{Time}
use Rattle.controller.specs.declared.Control.{Control}
use Rattle.controller.specs.Instructions.{with_view, with_time, with_numbering, obeyed}

-- the controls with another time and another numbering
abbrev beside : Time → Numbering → Control → Control
beside t n c = with_time t (with_view (with_numbering n c.view) c)

-- the table's entries, one by one
obeyed-beside : (t : Time) (n : Numbering) (c : Control) (i : Instruction) → obeyed (beside t n c) i ≡ beside t n (obeyed c i)
unfolding obeyed
obeyed-beside t n c Ignored = refl
obeyed-beside t n c Clear = refl
obeyed-beside t n c Home = refl
obeyed-beside t n c (EntryMode id s) = refl
obeyed-beside t n c (Display display cursor blink) = refl
obeyed-beside t n c (MoveCursor right) = refl
obeyed-beside t n c (MoveDisplay right) = refl
obeyed-beside t n c (FunctionSet dl re g) = refl
obeyed-beside t n c (GlyphAddress a) = refl
obeyed-beside t n c (TextAddress a) = refl
obeyed-beside t n c Standby = refl
obeyed-beside t n c (SetSr sr) = refl
obeyed-beside t n c (ToggleReverse line) = refl
obeyed-beside t n c (Scroll rows) = refl
obeyed-beside t n c (GraphicAddress a) = refl

-- beside its own, it keeps the time
pub obeyed-time : (c : Control) (i : Instruction) → (obeyed c i).time ≡ c.time
obeyed-time c i = ap (λ (d : Control). d.time) (obeyed-beside c.time c.view.numbering c i)

-- and beside another numbering it does what it does
pub obeyed-alike : (n : Numbering) (c : Control) (i : Instruction)
    → obeyed (with_view (with_numbering n c.view) c) i ≡ with_view (with_numbering n (obeyed c i).view) (obeyed c i)
obeyed-alike n c i =
    obeyed-beside c.time n c i
    ∙ ap (λ (t : Time). with_time t (with_view (with_numbering n (obeyed c i).view) (obeyed c i))) (sym (obeyed-time c i))
