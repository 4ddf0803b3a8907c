-- Document 01, "Instructions": where data transfers go, and how place and view move on.
use Rattle.std.specs.Prelude.{ℕ, ◌+◌, ◌%◌, Bool, true, false, not, ◌&&◌, get_or, set, None}
use Rattle.base.specs.Choice.{when◌then◌else◌}
use Rattle.table.specs.declared.Target.{Target}
use Rattle.table.specs.declared.Target.TheVariants.{Text, Glyph, Graphic}
use Rattle.controller.specs.declared.Place.{Place}
use Rattle.controller.specs.declared.Control.{Control}
use Rattle.controller.specs.Memories.{Memories, memories, word_place, graphic_place}
use Rattle.controller.specs.Instructions.{with_place, with_view, stepped, display_moved}

abbrev pub is_text : Target → Bool
is_text Text = true
is_text Glyph = false
is_text Graphic = false

-- store into the next half
unfoldable pub stored : Target → Place → ℕ → Memories → Memories
stored Text p b m = memories (set m.text (word_place p.counter p.low) b) m.glyph m.graphic
stored Glyph p b m = memories m.text (set m.glyph (word_place p.counter p.low) b) m.graphic
stored Graphic p b m = memories m.text m.glyph (set m.graphic (graphic_place p.row p.counter p.low) b)

-- the next half
unfoldable pub found : Target → Place → Memories → ℕ
found Text p m = get_or m.text (word_place p.counter p.low) 0
found Glyph p m = get_or m.glyph (word_place p.counter p.low) 0
found Graphic p m = get_or m.graphic (graphic_place p.row p.counter p.low) 0

-- text and glyph step by +1 (I/D = 1) or −1, modulo 64; graphic by +1 modulo 16
abbrev pub next_counter : Target → Bool → ℕ → ℕ
next_counter Text id k = stepped id k
next_counter Glyph id k = stepped id k
next_counter Graphic id k = (k + 1) % 16

-- after the low half, step
abbrev pub counter_after : Bool → Place → ℕ
counter_after id p = when p.low then next_counter p.target id p.counter else p.counter

-- the other half comes next, in the same row; a data transfer drops the waiting row, and a write leaves the mark
unfoldable pub moved : Bool → Place → Place
moved id p =
    record {
      target = p.target;
      counter = counter_after id p;
      row = p.row;
      low = not p.low;
      dummy = p.dummy;
      waiting = None;
    }

-- a text word completes with this half
abbrev pub completes : Place → Bool
completes p = is_text p.target && p.low

-- a text word completes, and S = 1
abbrev pub shifts : Control → Bool
shifts c = completes c.place && c.entry.s

-- a write, or a read that is no dummy, moves on; when a text word completes with S = 1, the display shifts left (I/D = 1) or right
unfoldable pub moved_on : Control → Control
moved_on c =
    with_view (when shifts c then display_moved (not c.entry.id) c.view else c.view)
    (with_place (moved c.entry.id c.place) c)

-- a dummy read: the mark is cleared, and nothing moves; like every data transfer it drops the waiting row
abbrev pub dummy_read : Control → Control
dummy_read c =
    with_place
    (record {
      target = c.place.target;
      counter = c.place.counter;
      row = c.place.row;
      low = c.place.low;
      dummy = false;
      waiting = None;
    })
    c
