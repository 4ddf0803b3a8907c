-- Document 01, "Instructions" and "Bytes named for repaint": what each entry of the table touches of the text and of the glass.
use Rattle.table.specs.declared.Instruction.{Instruction}
use Rattle.table.specs.declared.Instruction.TheVariants.{Ignored, Clear, Home, EntryMode, Display, MoveCursor, MoveDisplay, FunctionSet, GlyphAddress, TextAddress, Standby, SetSr, ToggleReverse, Scroll, GraphicAddress}
use Rattle.table.specs.declared.Touch.{Touch}
use Rattle.table.specs.declared.Touch.TheVariants.{Nothing, Counter, All, AllAndText}

-- address sets and cursor moves: the counter's cell before and after; every other executed instruction: all; clear: the text too
abbrev pub touches : Instruction → Touch
touches Ignored = Nothing
touches Clear = AllAndText
touches Home = All
touches (EntryMode id s) = All
touches (Display display cursor blink) = All
touches (MoveCursor right) = Counter
touches (MoveDisplay right) = All
touches (FunctionSet dl re g) = All
touches (GlyphAddress a) = Counter
touches (TextAddress a) = Counter
touches Standby = All
touches (SetSr sr) = All
touches (ToggleReverse line) = All
touches (Scroll rows) = All
touches (GraphicAddress a) = Counter
