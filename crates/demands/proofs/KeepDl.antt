-- Only a function set changes DL, and only to its bit 4: so a list whose function sets all have the link's DL keeps it.
use Prim.{Unit}
use Prim.Native.Nat.{ℕ, ◌≤◌, ◌<◌}
use mathlib.Core.Bool.{Bool, true, false}
use mathlib.Core.List.{List, [], ◌∷◌}
use mathlib.Core.Path.{◌≡◌, refl}
use lib.Dec.{ltb}
use borrow.Author.Tests.{ltb-true, ltb-false}
use Rattle.base.specs.Bits.{bit}
use Rattle.base.proofs.Choice.{either, either-told}
use Rattle.table.specs.declared.Target.{Target}
use Rattle.table.specs.declared.Target.TheVariants.{Text, Glyph, Graphic}
use Rattle.table.specs.declared.Modes.{Modes}
use Rattle.table.specs.declared.Instruction.{Instruction}
use Rattle.table.specs.declared.Instruction.TheVariants.{Ignored, Clear, Home, EntryMode, Display, MoveCursor, MoveDisplay, FunctionSet, GlyphAddress, TextAddress, Standby, SetSr, ToggleReverse, Scroll, GraphicAddress}
use Rattle.table.specs.Table.{Row, row_of, if_text, moving, table, said}
use Rattle.controller.specs.declared.Control.{Control}
use Rattle.controller.specs.Memories.{Memories}
use Rattle.controller.specs.Instructions as instructions
use Rattle.controller.specs.Instructions.{obeyed, modes}
use Rattle.controller.specs.Data.{moved_on}
use Rattle.time.specs.Time.{lost}
use Rattle.deeds.specs.Transfers.{Acted, executed, written, carried_out, on_time, performed}
use Rattle.links.specs.Halves as halves
use Rattle.connector.specs.Items.{WholeWrite, whole_bytes, halves, serial}
use Rattle.connector.specs.Connector.{act, HasDl}
use Rattle.picture.specs.Picture.{Seen}
use Rattle.demands.specs.Wires.{Board, board_of, items, board, SetsDl}
use Rattle.demands.specs.Agreement.{FunctionSetsKeepDl}

-- an instruction that is a function set has this DL
abbrev Has : Bool → Instruction → Type 0
Has dl Ignored = Unit {0}
Has dl Clear = Unit {0}
Has dl Home = Unit {0}
Has dl (EntryMode id s) = Unit {0}
Has dl (Display display cursor blink) = Unit {0}
Has dl (MoveCursor right) = Unit {0}
Has dl (MoveDisplay right) = Unit {0}
Has dl (FunctionSet is re g) = is ≡ dl
Has dl (GlyphAddress a) = Unit {0}
Has dl (TextAddress a) = Unit {0}
Has dl Standby = Unit {0}
Has dl (SetSr sr) = Unit {0}
Has dl (ToggleReverse line) = Unit {0}
Has dl (Scroll rows) = Unit {0}
Has dl (GraphicAddress a) = Unit {0}

module _ (dl : Bool) where
  function_dl :
      (was is r g re new : Bool)
      → was ≡ dl
      → is ≡ dl
      → (instructions.set_function (record { dl = was; re = r; g = g }) is re new).dl ≡ dl
  function_dl was is false g false new h k = k
  function_dl was is false g true new h k = h
  function_dl was is true g false new h k = h
  function_dl was is true g true new h k = k

  obeyed-dl : (c : Control) (i : Instruction) → c.function.dl ≡ dl → Has dl i → (obeyed c i).function.dl ≡ dl
  unfolding obeyed
  obeyed-dl c Ignored h k = h
  obeyed-dl c Clear h k = h
  obeyed-dl c Home h k = h
  obeyed-dl c (EntryMode id s) h k = h
  obeyed-dl c (Display display cursor blink) h k = h
  obeyed-dl c (MoveCursor right) h k = h
  obeyed-dl c (MoveDisplay right) h k = h
  obeyed-dl c (FunctionSet is re g) h k =
      function_dl c.function.dl is c.function.re c.function.g re g h k
  obeyed-dl c (GlyphAddress a) h k = h
  obeyed-dl c (TextAddress a) h k = h
  obeyed-dl c Standby h k = h
  obeyed-dl c (SetSr sr) h k = h
  obeyed-dl c (ToggleReverse line) h k = h
  obeyed-dl c (Scroll rows) h k = h
  obeyed-dl c (GraphicAddress a) h k = h

  -- the table has function sets in one row alone
  moving_has : (t : Target) (b : ℕ) → Has dl (moving t b)
  moving_has t b = either (Has dl) (bit 3 b) tt (by t)
    where
      by : (u : Target) → Has dl (if_text u (MoveCursor (bit 2 b)))
      by Text = tt
      by Glyph = tt
      by Graphic = tt

  module _ (m : Modes) (b : ℕ) where
    -- both columns of a row
    abbrev Both : Row → Type 0
    Both r = Has dl (table m r b).basic × Has dl (table m r b).extended

    rows_have : (0x20 ≤ b → b < 0x40 → bit 4 b ≡ dl) → Both (row_of b)
    unfolding row_of
    rows_have h =
        either Both (ltb b 0x01) (tt, tt)
        (either Both (ltb b 0x02) (tt, tt)
        (either Both (ltb b 0x04) (tt, tt)
        (either Both (ltb b 0x08) (tt, tt)
        (either Both (ltb b 0x10) (tt, tt)
        (either-told Both (ltb b 0x20) (λ u. (moving_has m.target b, tt))
        (λ low.
        either-told Both (ltb b 0x40)
        (λ high. let d = h (ltb-false b 0x20 low) (ltb-true b 0x40 high) in (d, d))
        (λ u.
        either Both (ltb b 0x80) (either (Has dl) m.sr tt tt, either (Has dl) m.sr tt tt) (tt, tt))))))))

    said_has : (0x20 ≤ b → b < 0x40 → bit 4 b ≡ dl) → Has dl (said m b)
    unfolding said
    said_has h = let both = rows_have h in either (Has dl) m.re both.1 both.0

  write-dl :
      (m : Memories) (c : Control) (register : Bool) (b : ℕ)
      → c.function.dl ≡ dl
      → (register ≡ false → 0x20 ≤ b → b < 0x40 → bit 4 b ≡ dl)
      → (carried_out m c (halves.writing register b)).done.control.function.dl ≡ dl
  unfolding carried_out executed written moved_on
  write-dl m c false b h k = obeyed-dl c (said (modes c) b) h (said_has (modes c) b (k refl))
  write-dl m c true b h k = h

  -- a lost write leaves DL
  on_time-dl :
      (m : Memories) (c : Control) (register : Bool) (b : ℕ)
      → c.function.dl ≡ dl
      → (register ≡ false → 0x20 ≤ b → b < 0x40 → bit 4 b ≡ dl)
      → (on_time m c (halves.writing register b)).done.control.function.dl ≡ dl
  unfolding on_time
  on_time-dl m c register b h k =
      either (λ (a : Acted). a.done.control.function.dl ≡ dl) (lost c (halves.writing register b)) h (write-dl m c register b h k)

  writes-dl : (e : Seen) (writes : List WholeWrite) (b : Board) → b.control.function.dl ≡ dl → SetsDl dl writes → HasDl (board e) dl b (items writes)
  unfolding HasDl SetsDl performed
  writes-dl e [] b h k = h
  writes-dl e (w ∷ writes) b h k = (
    h,
    writes-dl e writes (act (board e) b w.register w.byte)
        (on_time-dl b.memories b.control w.register w.byte h k.0) k.1,
  )

pub function_sets-keep-dl : FunctionSetsKeepDl
function_sets-keep-dl e whole_bytes s frame writes h k = writes-dl true e writes (board_of s frame) h k
function_sets-keep-dl e (halves low) s frame writes h k = writes-dl false e writes (board_of s frame) h k
function_sets-keep-dl e serial s frame writes h k = tt
