-- Document 01, "Panel readings to be proved": one statement over one table; and one each over a second, of a panel with time (request K1),
-- a third, of a clear that turns the direction (K2), and a fourth, of the numberings (K3). Each row has the calls made from fresh and what is
-- read off then, by the definitions that the contracts of the public calls cite. `ReadingsHold`, `TimedReadingsHold`, `TurnedReadingsHold` and
-- `NumberedReadingsHold` are proved in proofs/, as `readings-hold`, `timed-readings-hold`, `turned-readings-hold` and `numbered-readings-hold`.
use Prim.{Unit}
use Rattle.std.specs.Prelude.{ℕ, ◌+◌, ◌*◌, Bool, true, false, List, [], ◌∷◌, map, ◌≡◌, replicate, get_or, None, Some}
use Rattle.controller.specs.Memories.{word_place, graphic_place, fresh_memories}
use Rattle.events.specs.declared.Numbering.{Numbering}
use Rattle.events.specs.declared.Numbering.TheVariants.{By96, By160}
use Rattle.events.specs.declared.Event.{Event}
use Rattle.events.specs.declared.Event.TheVariants.{Transfer, Bit, Reset, Pass}
use Rattle.events.specs.declared.Transfer.TheVariants.{Instruct, Write, Status, Read}
use Rattle.connector.specs.Items.{bits_of}
use Rattle.numbering.specs.Numbering.{number_of}
use Rattle.picture.specs.Picture.{Seen}
use Rattle.records.specs.Records.{pin_of}
use Rattle.events.specs.declared.Made.{Made}
use Rattle.calls.specs.State.{State, fresh_state}
use Rattle.calls.specs.Calls.{after_calls}
use Rattle.demands.specs.Wires.{answers}

-- the calls as the table writes them
abbrev pub instruct : ℕ → Event
instruct byte = Transfer (Instruct byte)

abbrev pub write_data : ℕ → Event
write_data byte = Transfer (Write byte)

abbrev pub read_status : Event
read_status = Transfer Status

abbrev pub read_data : Event
read_data = Transfer Read

abbrev pub let_pass : ℕ → Event
let_pass eights = Pass eights

abbrev pub reset_to : ℕ → Event
reset_to value = Reset (pin_of value)

-- serial bytes, bit by bit with chip select high
abbrev pub serial_bytes : List ℕ → List Event
serial_bytes bs = map Bit (bits_of bs)

-- what is read off: of all calls in their order the replies, the counts or the refusal numbers; at the end a word of text or graphic
-- memory, RE and G, that the memories are as fresh, or the numbering; or the number of a glyph's code, or that it has none
pub data Reading : Type 0 where
  replies : List ℕ → Reading
  counts : List ℕ → Reading
  numbers : List ℕ → Reading
  text_word : ℕ → ℕ → Reading
  graphic_word : ℕ → ℕ → ℕ → Reading
  re_and_g : Bool → Bool → Reading
  nothing_stored : Reading
  numbering : Numbering → Reading
  glyph_number : Numbering → ℕ → ℕ → ℕ → Reading
  no_number : Numbering → ℕ → ℕ → Reading

-- a case: its number, what the panel is made with, the frame's length, the calls, and the readings
pub record Case : Type 0 where
  pub number : ℕ
  pub made : Made
  pub frame : ℕ
  pub calls : List Event
  pub readings : List Reading

abbrev pub in_case : ℕ → List Event → List Reading → Case
in_case number calls readings = record { number = number; made = record { parallel = true; time = false; numbering = By96 }; frame = 1024; calls = calls; readings = readings }

abbrev pub in_serial_case : ℕ → List Event → List Reading → Case
in_serial_case number calls readings = record { number = number; made = record { parallel = false; time = false; numbering = By96 }; frame = 1024; calls = calls; readings = readings }

abbrev pub in_framed_case : ℕ → ℕ → List Event → List Reading → Case
in_framed_case number length calls readings = record { number = number; made = record { parallel = true; time = false; numbering = By96 }; frame = length; calls = calls; readings = readings }

abbrev pub in_timed_case : ℕ → List Event → List Reading → Case
in_timed_case number calls readings = record { number = number; made = record { parallel = true; time = true; numbering = By96 }; frame = 1024; calls = calls; readings = readings }

unfoldable pub cases : List Case
cases =
    in_case 1 (read_status ∷ []) (replies (0x00 ∷ []) ∷ [])
    ∷ in_case 2 (instruct 0x85 ∷ read_status ∷ []) (replies (0 ∷ 0x05 ∷ []) ∷ [])
    ∷ in_case 3 (instruct 0x80 ∷ write_data 0x2D ∷ write_data 0x37 ∷ read_status ∷ [])
    (text_word 0 0x2D37 ∷ replies (0 ∷ 0 ∷ 0 ∷ 0x01 ∷ []) ∷ counts (32 ∷ 32 ∷ 64 ∷ 0 ∷ []) ∷ [])
    ∷ in_case 4 (instruct 0x80 ∷ write_data 0x2D ∷ write_data 0x37 ∷ read_status ∷ instruct 0x80 ∷ read_data ∷ read_data ∷ read_data ∷ [])
    (replies (0 ∷ 0 ∷ 0 ∷ 0x01 ∷ 0 ∷ 0x00 ∷ 0x2D ∷ 0x37 ∷ []) ∷ [])
    ∷ in_case 5 (instruct 0xBF ∷ write_data 0x2D ∷ write_data 0x37 ∷ read_status ∷ [])
    (replies (0 ∷ 0 ∷ 0 ∷ 0x00 ∷ []) ∷ counts (32 ∷ 0 ∷ 32 ∷ 0 ∷ []) ∷ [])
    ∷ in_case 6 (instruct 0x04 ∷ instruct 0x80 ∷ write_data 0x2D ∷ write_data 0x37 ∷ read_status ∷ []) (replies (0 ∷ 0 ∷ 0 ∷ 0 ∷ 0x3F ∷ []) ∷ [])
    ∷ in_case 7 (instruct 0x36 ∷ []) (re_and_g true false ∷ [])
    ∷ in_case 7 (instruct 0x36 ∷ instruct 0x36 ∷ []) (re_and_g true true ∷ [])
    ∷ in_case 8 (instruct 0x34 ∷ instruct 0x36 ∷ instruct 0x83 ∷ instruct 0x8F ∷ write_data 0xAA ∷ write_data 0x55 ∷ read_status ∷ [])
    (graphic_word 3 15 0xAA55 ∷ replies (0 ∷ 0 ∷ 0 ∷ 0 ∷ 0 ∷ 0 ∷ 0x00 ∷ []) ∷ [])
    ∷ in_case 9 [] (glyph_number By96 0xA1 0xA0 0 ∷ glyph_number By96 0xF7 0xFF 8351 ∷ [])
    ∷ in_framed_case 10 1023 (read_status ∷ []) (numbers (1 ∷ []) ∷ [])
    ∷ in_framed_case 10 1025 (read_status ∷ []) (numbers (1 ∷ []) ∷ [])
    ∷ in_serial_case 11 (serial_bytes (0xFA ∷ 0x20 ∷ 0xD0 ∷ [])) (text_word 0 0x2D20 ∷ [])
    ∷ in_serial_case 12 (serial_bytes (0xFA ∷ 0x20 ∷ 0xD1 ∷ [])) (nothing_stored ∷ [])
    ∷ []

-- the same of a panel with time. 1: clear, and status until it is no longer busy. 2: a meter that waits has its hyphen and its seven. 3: one
-- that does not loses the hyphen, and the seven stands in its place. 4: a read that comes too early answers 0,
-- and is lost. 5: so it is with a dummy read, which stays due. 6 and 7, by half bytes: a write busy at its first half and idle at its second is
-- carried out; a read lost at its first half hands over 0 at its second, though time has passed
unfoldable pub timed_cases : List Case
timed_cases =
    in_timed_case 1 (instruct 0x01 ∷ read_status ∷ let_pass 199 ∷ read_status ∷ let_pass 1 ∷ read_status ∷ [])
    (replies (0 ∷ 0x80 ∷ 0 ∷ 0x80 ∷ 0 ∷ 0x00 ∷ []) ∷ counts (1024 ∷ 0 ∷ 0 ∷ 0 ∷ 0 ∷ 0 ∷ []) ∷ [])
    ∷ in_timed_case 2 (instruct 0x80 ∷ let_pass 9 ∷ write_data 0x2D ∷ let_pass 9 ∷ write_data 0x37 ∷ read_status ∷ let_pass 9 ∷ read_status ∷ [])
    (text_word 0 0x2D37 ∷ replies (0 ∷ 0 ∷ 0 ∷ 0 ∷ 0 ∷ 0x81 ∷ 0 ∷ 0x01 ∷ []) ∷ counts (32 ∷ 0 ∷ 32 ∷ 0 ∷ 64 ∷ 0 ∷ 0 ∷ 0 ∷ []) ∷ [])
    ∷ in_timed_case 3 (instruct 0x80 ∷ write_data 0x2D ∷ let_pass 9 ∷ write_data 0x37 ∷ [])
    (text_word 0 0x3720 ∷ counts (32 ∷ 0 ∷ 0 ∷ 32 ∷ []) ∷ numbers (0 ∷ 0 ∷ 0 ∷ 0 ∷ []) ∷ [])
    ∷ in_timed_case 4 (instruct 0x80 ∷ let_pass 9 ∷ read_data ∷ read_data ∷ let_pass 9 ∷ read_data ∷ []) (replies (0 ∷ 0 ∷ 0x00 ∷ 0x00 ∷ 0 ∷ 0x20 ∷ []) ∷ [])
    ∷ in_timed_case 5 (instruct 0x80 ∷ read_data ∷ let_pass 9 ∷ read_data ∷ let_pass 9 ∷ read_data ∷ []) (replies (0 ∷ 0x00 ∷ 0 ∷ 0x00 ∷ 0 ∷ 0x20 ∷ []) ∷ [])
    ∷ in_timed_case 6 (instruct 0x20 ∷ write_data 0x20 ∷ let_pass 9 ∷ write_data 0xD0 ∷ []) (text_word 0 0x2D20 ∷ counts (1024 ∷ 0 ∷ 0 ∷ 32 ∷ []) ∷ [])
    ∷ in_timed_case 7
    (instruct 0x20
    ∷ let_pass 9
    ∷ instruct 0x80
    ∷ instruct 0x00
    ∷ let_pass 9
    ∷ read_data
    ∷ read_data
    ∷ read_data
    ∷ let_pass 9
    ∷ read_data
    ∷ read_data
    ∷ read_data
    ∷ [])
    (replies (0 ∷ 0 ∷ 0 ∷ 0 ∷ 0 ∷ 0x00 ∷ 0x00 ∷ 0x00 ∷ 0 ∷ 0x00 ∷ 0x20 ∷ 0x00 ∷ []) ∷ [])
    ∷ []

-- the same of the direction. 1: with I/D at 0 a menu is written and left by a clear; the two words behind it stand from left to right. 2: behind
-- home, which turns nothing, the second word stands to the left of word 0, as word 63. 3: S stays, so a word behind the clear shifts the
-- display, and names all. 4: with time, a clear that is lost turns nothing
unfoldable pub turned_cases : List Case
turned_cases =
    in_case 1
    (instruct 0x04
    ∷ instruct 0x85
    ∷ write_data 0x4F
    ∷ write_data 0x4B
    ∷ instruct 0x01
    ∷ write_data 0x2D
    ∷ write_data 0x37
    ∷ write_data 0x2E
    ∷ write_data 0x35
    ∷ read_status
    ∷ [])
    (text_word 0 0x2D37 ∷ text_word 1 0x2E35 ∷ text_word 5 0x2020 ∷ replies (0 ∷ 0 ∷ 0 ∷ 0 ∷ 0 ∷ 0 ∷ 0 ∷ 0 ∷ 0 ∷ 0x02 ∷ []) ∷ [])
    ∷ in_case 2 (instruct 0x04 ∷ instruct 0x02 ∷ write_data 0x2D ∷ write_data 0x37 ∷ write_data 0x2E ∷ write_data 0x35 ∷ read_status ∷ [])
    (text_word 0 0x2D37 ∷ text_word 63 0x2E35 ∷ replies (0 ∷ 0 ∷ 0 ∷ 0 ∷ 0 ∷ 0 ∷ 0x3E ∷ []) ∷ [])
    ∷ in_case 3 (instruct 0x05 ∷ instruct 0x01 ∷ write_data 0x2D ∷ write_data 0x37 ∷ read_status ∷ [])
    (replies (0 ∷ 0 ∷ 0 ∷ 0 ∷ 0x01 ∷ []) ∷ counts (1024 ∷ 1024 ∷ 32 ∷ 1024 ∷ 0 ∷ []) ∷ [])
    ∷ in_timed_case 4
    (instruct 0x04
    ∷ instruct 0x01
    ∷ let_pass 9
    ∷ write_data 0x2D
    ∷ let_pass 9
    ∷ write_data 0x37
    ∷ let_pass 9
    ∷ read_status
    ∷ [])
    (text_word 0 0x2D37 ∷ replies (0 ∷ 0 ∷ 0 ∷ 0 ∷ 0 ∷ 0 ∷ 0 ∷ 0x3F ∷ []) ∷ counts (1024 ∷ 0 ∷ 0 ∷ 32 ∷ 0 ∷ 32 ∷ 0 ∷ 0 ∷ []) ∷ [])
    ∷ []

-- the same of the numberings. 1: both ends of both ranges of trails, the next lead, and the last number. 2: what has none: trails before
-- and between the ranges, leads before and behind theirs. 3: fresh has the numbering that it is made with, here the old one; a reset to
-- value 3 chooses the new one, and a clear, an address and data keep it. 4: a reset to value 1 chooses the old one again. 5: a reset to
-- value 2 makes the panel serial, with the new one
unfoldable pub numbered_cases : List Case
numbered_cases =
    in_case 1 []
    (glyph_number By160 0xA1 0x40 0
    ∷ glyph_number By160 0xA1 0x7F 63
    ∷ glyph_number By160 0xA1 0xA0 64
    ∷ glyph_number By160 0xA1 0xFF 159
    ∷ glyph_number By160 0xA2 0x40 160
    ∷ glyph_number By160 0xD7 0xFF 8799
    ∷ [])
    ∷ in_case 2 []
    (no_number By160 0xA1 0x3F
    ∷ no_number By160 0xA1 0x80
    ∷ no_number By160 0xA1 0x9F
    ∷ no_number By160 0xA0 0x40
    ∷ no_number By160 0xD8 0x40
    ∷ no_number By96 0xA0 0xA0
    ∷ no_number By96 0xA1 0x40
    ∷ no_number By96 0xA1 0x9F
    ∷ no_number By96 0xF8 0xA0
    ∷ [])
    ∷ in_case 3 [] (numbering By96 ∷ [])
    ∷ in_case 3 (reset_to 3 ∷ instruct 0x01 ∷ instruct 0x80 ∷ write_data 0xA1 ∷ write_data 0x40 ∷ [])
    (numbering By160 ∷ text_word 0 0xA140 ∷ counts (1024 ∷ 1024 ∷ 32 ∷ 32 ∷ 64 ∷ []) ∷ [])
    ∷ in_case 4 (reset_to 3 ∷ reset_to 1 ∷ read_status ∷ []) (numbering By96 ∷ numbers (0 ∷ 0 ∷ 0 ∷ []) ∷ [])
    ∷ in_case 5 (reset_to 2 ∷ serial_bytes (0xFA ∷ 0x20 ∷ 0xD0 ∷ [])) (numbering By160 ∷ text_word 0 0x2D20 ∷ [])
    ∷ []

-- seen with a zero half font, an empty full font and phase 0; each row's frame is zero too
abbrev pub zero_fonts : Seen
zero_fonts = record { fonts = record { half = replicate 2048 0; full = [] }; phase = false }

-- what can be read off a panel after some calls
pub record Observed : Type 0 where
  pub replies : List ℕ
  pub counts : List ℕ
  pub numbers : List ℕ
  pub end : State

abbrev pub observed : Case → Observed
observed r =
    let answered = answers zero_fonts (fresh_state r.made) (replicate r.frame 0) r.calls in
    record {
      replies = map (λ k. k.reply) answered;
      counts = map (λ k. k.count) answered;
      numbers = map (λ k. k.number) answered;
      end = (after_calls zero_fonts (fresh_state r.made) (replicate r.frame 0) r.calls).state;
    }

-- a word of a memory, of its two halves
abbrev pub word_of : List ℕ → ℕ → ℕ → ℕ
word_of memory high low = get_or memory high 0 * 256 + get_or memory low 0

abbrev pub Reads : Observed → Reading → Type 0
Reads o (replies bytes) = o.replies ≡ bytes
Reads o (counts ns) = o.counts ≡ ns
Reads o (numbers ns) = o.numbers ≡ ns
Reads o (text_word word value) = word_of o.end.memories.text (word_place word false) (word_place word true) ≡ value
Reads o (graphic_word line column value) =
    word_of o.end.memories.graphic (graphic_place line column false) (graphic_place line column true) ≡ value
Reads o (re_and_g re g) = (o.end.control.function.re ≡ re) × (o.end.control.function.g ≡ g)
Reads o nothing_stored = o.end.memories ≡ fresh_memories
Reads o (numbering n) = o.end.control.view.numbering ≡ n
Reads o (glyph_number n lead trail number) = number_of n lead trail ≡ Some number
Reads o (no_number n lead trail) = number_of n lead trail ≡ None

unfoldable pub AllRead : Observed → List Reading → Type 0
AllRead o [] = Unit {0}
AllRead o (reading ∷ readings) = Reads o reading × AllRead o readings

unfoldable pub AllHold : List Case → Type 0
AllHold [] = Unit {0}
AllHold (c ∷ more) = AllRead (observed c) c.readings × AllHold more

abbrev pub ReadingsHold : Type 0
ReadingsHold = AllHold cases

abbrev pub TimedReadingsHold : Type 0
TimedReadingsHold = AllHold timed_cases

abbrev pub TurnedReadingsHold : Type 0
TurnedReadingsHold = AllHold turned_cases

abbrev pub NumberedReadingsHold : Type 0
NumberedReadingsHold = AllHold numbered_cases
