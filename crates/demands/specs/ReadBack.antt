-- Document 01, "Panel readings to be proved", cases 2 to 6 and 8 for every address and every two bytes: what is written is read back, and
-- status tells the counter. Proved in proofs/, as `read_back`.
use Rattle.std.specs.Prelude.{ℕ, ◌+◌, ◌%◌, ◌<◌, true, false, List, [], ◌∷◌, ◌++◌, ◌≡◌, length, replicate, None}
use Rattle.controller.specs.Instructions.{stepped}
use Rattle.events.specs.declared.Event.{Event}
use Rattle.picture.specs.Picture.{Seen}
use Rattle.calls.specs.State.{State, Valid}
use Rattle.calls.specs.Calls.{Fits}
use Rattle.demands.specs.Wires.{replies_of, no_time}
use Rattle.links.specs.Idle.{is_serial}
use Rattle.demands.specs.Readings.{instruct, write_data, read_status, read_data}

-- the instructions that set an address: of text (80h + a), of glyph memory (40h + a), of graphic memory (80h + row, 80h + column)
abbrev pub to_text : ℕ → List Event
to_text a = instruct (0x80 + a) ∷ []

abbrev pub to_glyph : ℕ → List Event
to_glyph a = instruct (0x40 + a) ∷ []

abbrev pub to_graphic : ℕ → ℕ → List Event
to_graphic row column = instruct (0x80 + row) ∷ instruct (0x80 + column) ∷ []

-- there: the address, and two data writes; and back: the address, and three data reads; status after each address, byte and word
abbrev pub there_and_back : List Event → ℕ → ℕ → List Event
there_and_back address b c =
    address
    ++ (read_status ∷ write_data b ∷ read_status ∷ write_data c ∷ read_status ∷ (address ++ (read_data ∷ read_data ∷ read_data ∷ read_status ∷ [])))

-- instructions and writes reply 0, and status the counter: at the word, and stepped once it is complete; of the reads the first, which is
-- a dummy, replies 0, and the others the two bytes
abbrev pub both_read : List Event → ℕ → ℕ → ℕ → ℕ → List ℕ
both_read address counter next b c =
    replicate (length address) 0
    ++ (counter ∷ 0 ∷ counter ∷ 0 ∷ next ∷ (replicate (length address) 0 ++ (0 ∷ b ∷ c ∷ next ∷ [])))

-- a valid state without time on the parallel link with DL = 1, and frame and fonts that fit (with time, and a wait after each call, it
-- is the same: `WaitingIsServed`)
pub record TakesBytes (e : Seen) (s : State) (frame : List ℕ) : Type 0 where
  pub valid : Valid s
  pub fits : Fits e frame
  pub parallel : is_serial s.link ≡ false
  pub wide : s.control.function.dl ≡ true
  pub untimed : s.control.time ≡ no_time

pub record ReadBack : Type 0 where
  -- text: with RE = 0; the counter steps by I/D
  pub text :
      (e : Seen) (s : State) (frame : List ℕ) (a b c : ℕ)
      → TakesBytes e s frame
      → s.control.function.re ≡ false
      → a < 64
      → replies_of e s frame (there_and_back (to_text a) b c) ≡ both_read (to_text a) a (stepped s.control.entry.id a) b c
  -- glyph memory: with RE = 0 and SR = 0
  pub glyph :
      (e : Seen) (s : State) (frame : List ℕ) (a b c : ℕ)
      → TakesBytes e s frame
      → s.control.function.re ≡ false
      → s.control.sr ≡ false
      → a < 64
      → replies_of e s frame (there_and_back (to_glyph a) b c) ≡ both_read (to_glyph a) a (stepped s.control.entry.id a) b c
  -- graphic memory: with RE = 1, where no row waits for its column; the counter steps to the right
  pub graphic :
      (e : Seen) (s : State) (frame : List ℕ) (row column b c : ℕ)
      → TakesBytes e s frame
      → s.control.function.re ≡ true
      → s.control.place.waiting ≡ None
      → row < 64
      → column < 16
      → replies_of e s frame (there_and_back (to_graphic row column) b c) ≡ both_read (to_graphic row column) column ((column + 1) % 16) b c
