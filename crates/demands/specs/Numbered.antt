-- Request K3, "traditional and mixed fonts": the two numberings, and where the one that a panel has is chosen, kept and seen.
-- Each statement is proved in proofs/, under its own name in small letters (`NoTwoShare` as `no-two-share`).
use Rattle.std.specs.Prelude.{ℕ, ◌+◌, ◌*◌, ◌/◌, ◌%◌, ◌≤◌, ◌<◌, Bool, true, false, List, map, ◌≡◌, length, get_or, Option, Some}
use Rattle.controller.specs.declared.View.{View}
use Rattle.controller.specs.Memories.{Memories, word_place}
use Rattle.controller.specs.Glass.{shown_row, shown_word}
use Rattle.controller.specs.Instructions.{with_view, with_numbering}
use Rattle.events.specs.declared.Event.{Event}
use Rattle.events.specs.declared.Event.TheVariants.{Transfer, Bit, SelectLow, Reset, Pass}
use Rattle.events.specs.declared.Made.{Made}
use Rattle.events.specs.declared.Numbering.{Numbering}
use Rattle.events.specs.declared.Numbering.TheVariants.{By96}
use Rattle.events.specs.declared.Pin.{Pin}
use Rattle.numbering.specs.Numbering.{number_of, number_count}
use Rattle.glyph.specs.Lookup.{content_of}
use Rattle.picture.specs.Picture.{Fonts, Seen, cell_byte}
use Rattle.calls.specs.State.{State, state, fresh_state}
use Rattle.calls.specs.Calls.{Called, Fits, called}
use Rattle.demands.specs.Wires.{answers}
use Rattle.demands.specs.Demand3.{named_by}

-- 1. No two codes of one numbering share a number.
abbrev pub NoTwoShare : Type 0
NoTwoShare =
    (n : Numbering) (lead trail otherLead otherTrail i : ℕ)
    → trail < 256
    → otherTrail < 256
    → number_of n lead trail ≡ Some i
    → number_of n otherLead otherTrail ≡ Some i
    → (lead ≡ otherLead) × (trail ≡ otherTrail)

-- a code of two bytes that has a number
pub record CodeOf (n : Numbering) (i : ℕ) : Type 0 where
  pub lead : ℕ
  pub trail : ℕ
  pub lead_byte : lead < 256
  pub trail_byte : trail < 256
  pub numbered : number_of n lead trail ≡ Some i

-- 2. Each of its 8,352 or 8,800 numbers is some code's, and no code has another.
abbrev pub EachIsSomeCodes : Type 0
EachIsSomeCodes = (n : Numbering) (i : ℕ) → i < number_count n → CodeOf n i

abbrev pub NoneBeyond : Type 0
NoneBeyond = (n : Numbering) (lead trail i : ℕ) → trail < 256 → number_of n lead trail ≡ Some i → i < number_count n

-- 3. Images and half glyphs are as before: by either numbering a word with a high byte below A1h shows the same.
abbrev pub OthersAsBefore : Type 0
OthersAsBefore = (n : Numbering) (high low size : ℕ) → high < 0xA1 → content_of n high low size ≡ content_of By96 high low size

-- 4. By the old numbering a word shows the same with a longer font as with one of its own 267,264 bytes: the end is never asked for.
abbrev pub EndNotAskedFor : Type 0
EndNotAskedFor = (high low size : ℕ) → low < 256 → 267264 ≤ size → content_of By96 high low size ≡ content_of By96 high low 267264

-- the two bytes of the word that a cell shows, and the number that they have as a code in the panel's numbering
abbrev pub lead_at : List ℕ → View → ℕ → ℕ → ℕ
lead_at text v row cell = get_or text (word_place (shown_word v row cell) false) 0

abbrev pub trail_at : List ℕ → View → ℕ → ℕ → ℕ
trail_at text v row cell = get_or text (word_place (shown_word v row cell) true) 0

abbrev pub code_at : List ℕ → View → ℕ → ℕ → Option ℕ
code_at text v row cell = number_of v.numbering (lead_at text v row cell) (trail_at text v row cell)

-- 5. A cell whose code has a number in the panel's numbering shows the glyph of that number, where that lies inside the lent font (else the
-- box: Missing.antt).
abbrev pub ShownByNumber : Type 0
ShownByNumber =
    (e : Fonts) (m : Memories) (v : View) (row column i : ℕ)
    → code_at m.text v row (column / 2) ≡ Some i
    → 32 * i + 32 ≤ length e.full
    → cell_byte e m v row column ≡ get_or e.full (32 * i + 2 * (shown_row v row % 16) + column % 2) 0

-- 6. It is chosen when a panel is made, and at reset; no other call changes it.
abbrev pub ChosenWhenMade : Type 0
ChosenWhenMade = (made : Made) → (fresh_state made).control.view.numbering ≡ made.numbering

abbrev pub ChosenAtReset : Type 0
ChosenAtReset =
    (e : Seen) (s : State) (frame : List ℕ) (pin : Pin)
    → Fits e frame
    → (called e s frame (Reset pin)).state.control.view.numbering ≡ pin.numbering

abbrev pub is_reset : Event → Bool
is_reset (Transfer t) = false
is_reset (Bit bit) = false
is_reset SelectLow = false
is_reset (Reset pin) = true
is_reset (Pass eights) = false

abbrev pub KeptOtherwise : Type 0
KeptOtherwise =
    (e : Seen) (s : State) (frame : List ℕ) (call : Event)
    → is_reset call ≡ false
    → (called e s frame call).state.control.view.numbering ≡ s.control.view.numbering

-- a state with another numbering, and all that a call leaves but the frame
abbrev pub renumbered : Numbering → State → State
renumbered n s = state s.memories (with_view (with_numbering n s.control.view) s.control) s.link

pub record Answered : Type 0 where
  pub state : State
  pub number : ℕ
  pub reply : ℕ
  pub count : ℕ

-- apart from the numbering
abbrev pub answered : Numbering → Called → Answered
answered n k = record { state = renumbered n k.state; number = k.number; reply = k.reply; count = k.count }

-- 7. It shows in the picture alone: two panels that differ in it, and in what their frames hold, take any calls with the same numbers, replies
-- and counts, and differ in nothing else then; and each call names the same bytes.
abbrev pub SeenInPictureAlone : Type 0
SeenInPictureAlone =
    (e : Seen) (n : Numbering) (s : State) (frame other : List ℕ) (calls : List Event)
    → length frame ≡ length other
    → map (answered n) (answers e s frame calls) ≡ map (answered n) (answers e (renumbered n s) other calls)

abbrev pub NamesTheSame : Type 0
NamesTheSame = (n : Numbering) (s : State) (call : Event) (i : ℕ) → named_by s call i ≡ named_by (renumbered n s) call i
