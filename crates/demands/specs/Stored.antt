-- Document 01, "Panel readings to be proved", cases 3, 5, 6, 8 and 11 for every address, every two bytes and every way: the hyphen and the
-- seven. An address and two data writes put the first byte into the high half of the word there and the second into its low half; no
-- other byte of any memory changes; and each write counts the bytes that document 01 names for it. Proved in proofs/, as `words-stored`.
use Rattle.std.specs.Prelude.{ℕ, ◌≤◌, ◌<◌, Bool, true, false, List, [], ◌∷◌, ◌≡◌, set, None, Some}
use Rattle.base.specs.Bits.{bits5_0, bits3_0}
use Rattle.base.specs.Choice.{when◌then◌else◌}
use Rattle.controller.specs.declared.Region.{Region}
use Rattle.controller.specs.declared.Region.TheVariants.{Cells, GlyphHalf, GraphicHalf}
use Rattle.controller.specs.Memories.{Memories, memories, word_place, graphic_place}
use Rattle.controller.specs.Instructions.{stepped}
use Rattle.controller.specs.Named.{counter_cell}
use Rattle.connector.specs.Items.{Item, write, Way, wires, idle_on}
use Rattle.picture.specs.Picture.{Seen, wide}
use Rattle.repaint.specs.Repaint.{count_named}
use Rattle.calls.specs.State.{State}
use Rattle.calls.specs.Calls.{Fits, after_calls}
use Rattle.demands.specs.Wires.{sums_of, no_time, HasWidth}

-- a byte written as an instruction, and one as data
abbrev pub instruction : (byte : ℕ) → byte < 256 → Item
instruction byte small = write (record { register = false; byte = byte; small = small })

abbrev pub datum : (byte : ℕ) → byte < 256 → Item
datum byte small = write (record { register = true; byte = byte; small = small })

-- a memory with a byte in each half of a word
abbrev pub with_halves : (Bool → ℕ) → ℕ → ℕ → List ℕ → List ℕ
with_halves place high low memory = set (set memory (place false) high) (place true) low

abbrev pub with_text_word : ℕ → ℕ → ℕ → Memories → Memories
with_text_word word high low m = memories (with_halves (word_place word) high low m.text) m.glyph m.graphic

abbrev pub with_glyph_word : ℕ → ℕ → ℕ → Memories → Memories
with_glyph_word word high low m = memories m.text (with_halves (word_place word) high low m.glyph) m.graphic

abbrev pub with_graphic_word : ℕ → ℕ → ℕ → ℕ → Memories → Memories
with_graphic_word row column high low m =
    memories m.text m.glyph (with_halves (graphic_place row column) high low m.graphic)

-- how many bytes a region has on the glass of a state
abbrev pub size_on : State → Region → ℕ
size_on s region = count_named wide s.control.view s.memories.text region

-- all 1,024 where an instruction ends standby, or a text word completes with S = 1
abbrev pub all_if : Bool → ℕ → ℕ
all_if all size = when all then 1024 else size

-- what an address and two bytes name. Text: the counter's cell before and after; the word's cell; the word's cell and, as the counter
-- steps, the new word's
abbrev pub text_sizes : State → ℕ → List ℕ
text_sizes s word =
    all_if s.control.standby (size_on s (Cells (counter_cell s.control.place) (Some word)))
    ∷ size_on s (Cells (Some word) None)
    ∷ all_if s.control.entry.s (size_on s (Cells (Some word) (Some (stepped s.control.entry.id word))))
    ∷ []

-- glyph memory: the counter's cell before; each byte showing that half of that image row
abbrev pub glyph_sizes : State → ℕ → List ℕ
glyph_sizes s word =
    all_if s.control.standby (size_on s (Cells (counter_cell s.control.place) None))
    ∷ size_on s (GlyphHalf word false)
    ∷ size_on s (GlyphHalf word true)
    ∷ []

-- graphic memory: for a row alone none; the counter's cell before; each byte, if visible
abbrev pub graphic_sizes : State → ℕ → ℕ → List ℕ
graphic_sizes s row column =
    all_if s.control.standby 0
    ∷ size_on s (Cells (counter_cell s.control.place) None)
    ∷ size_on s (GraphicHalf row column false)
    ∷ size_on s (GraphicHalf row column true)
    ∷ []

-- a panel without time whose link is idle and has the way's width, with frame and fonts that fit (with time, and a wait after each write, it is
-- the same: `WaitingSenderIsServed`)
pub record Begins (e : Seen) (way : Way) (s : State) (frame : List ℕ) : Type 0 where
  pub fits : Fits e frame
  pub idle : s.link ≡ idle_on way
  pub width : HasWidth way s.control
  pub untimed : s.control.time ≡ no_time

-- the calls that carry these writes leave these memories, and for each write count so many bytes
pub record Stores (e : Seen) (way : Way) (s : State) (frame : List ℕ) (list : List Item) (m : Memories) (sizes : List ℕ) : Type 0 where
  pub memories : (after_calls e s frame (wires way list)).state.memories ≡ m
  pub counts : sums_of e way s frame list ≡ sizes

pub record WordsStored : Type 0 where
  -- text, with RE = 0: the address is 80h..FFh, bit 6 dropped
  pub text :
      (e : Seen) (way : Way) (s : State) (frame : List ℕ) (a b c : ℕ) (h : a < 256) (p : b < 256) (q : c < 256)
      → Begins e way s frame
      → s.control.function.re ≡ false
      → 0x80 ≤ a
      → let word : ℕ = bits5_0 a in
      Stores e way s frame (instruction a h ∷ datum b p ∷ datum c q ∷ []) (with_text_word word b c s.memories) (text_sizes s word)
  -- glyph memory, with RE = 0 and SR = 0: the address is 40h..7Fh
  pub glyph :
      (e : Seen) (way : Way) (s : State) (frame : List ℕ) (a b c : ℕ) (h : a < 256) (p : b < 256) (q : c < 256)
      → Begins e way s frame
      → s.control.function.re ≡ false
      → s.control.sr ≡ false
      → 0x40 ≤ a
      → a < 0x80
      → let word : ℕ = bits5_0 a in
      Stores e way s frame (instruction a h ∷ datum b p ∷ datum c q ∷ []) (with_glyph_word word b c s.memories) (glyph_sizes s word)
  -- graphic memory, with RE = 1, where no row waits for its column: row and column are 80h..FFh
  pub graphic :
      (e : Seen) (way : Way) (s : State) (frame : List ℕ) (y x b c : ℕ) (h : y < 256) (i : x < 256) (p : b < 256) (q : c < 256)
      → Begins e way s frame
      → s.control.function.re ≡ true
      → s.control.place.waiting ≡ None
      → 0x80 ≤ y
      → 0x80 ≤ x
      → let row : ℕ = bits5_0 y in
      let column : ℕ = bits3_0 x in
      Stores e way s frame (instruction y h ∷ instruction x i ∷ datum b p ∷ datum c q ∷ []) (with_graphic_word row column b c s.memories)
      (graphic_sizes s row column)
