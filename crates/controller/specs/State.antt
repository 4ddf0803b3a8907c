-- Document 01, "Memories and flags", and requests K1 and K3: everything but the memories and the link. What it is when fresh, and the ranges it keeps to.
use Rattle.std.specs.Prelude.{ℕ, ◌<◌, ◌≤◌, Bool, true, false, ◌≡◌, length, replicate, None, Option, Some}
use Prim.{Unit}
use Rattle.base.specs.Choice.{when◌then◌else◌}
use Rattle.events.specs.declared.Made.{Made}
use Rattle.events.specs.declared.Pin.{Pin}
use Rattle.events.specs.declared.Numbering.{Numbering}
use Rattle.events.specs.declared.Numbering.TheVariants.{By96, By160}
use Rattle.table.specs.declared.Target.{Target}
use Rattle.table.specs.declared.Target.TheVariants.{Text, Glyph, Graphic}
use Rattle.controller.specs.declared.Place.{Place}
use Rattle.controller.specs.declared.View.{View}
use Rattle.controller.specs.declared.Control.{Control}
use Rattle.controller.specs.Memories.{Memories}

-- target text, counter 0, high half next; no row waiting, no dummy read due
abbrev pub fresh_place : Place
fresh_place = record { target = Text; counter = 0; row = 0; low = false; dummy = false; waiting = None }

-- scroll 0, shift 0, no line reversed; the numbering as it is made
abbrev pub fresh_view : Numbering → View
fresh_view numbering = record { scroll = 0; shift = 0; reversed = replicate 4 false; numbering = numbering }

-- I/D 1, S 0; display, cursor, blink, RE, SR, G 0; DL 1; no standby; not busy, with or without time as it is made
unfoldable pub fresh_control : Made → Control
fresh_control made =
    record {
      place = fresh_place;
      entry = record { id = true; s = false };
      shown = record { display = false; cursor = false; blink = false };
      function = record { dl = true; re = false; g = false };
      sr = false;
      view = fresh_view made.numbering;
      standby = false;
      time = record { timed = made.time; remaining = 0 };
    }

-- reset takes the interface pin and chooses the numbering: these, and what the state keeps, are what the next state is made with
abbrev pub remade : Control → Pin → Made
remade c pin = record { parallel = pin.parallel; time = c.time.timed; numbering = pin.numbering }

-- a bit that chooses the numbering: 0 the old one, 1 the new
abbrev pub numbering_of : Bool → Numbering
numbering_of bit = when bit then By160 else By96

-- the counter has 6 bits for text and glyph memory, 4 for graphic memory
abbrev pub limit : Target → ℕ
limit Text = 64
limit Glyph = 64
limit Graphic = 16

abbrev pub RowInRange : Option ℕ → Type 0
RowInRange None = Unit {0}
RowInRange (Some y) = y < 64

-- the most microseconds that remain: those of a clear, or none where there is no time
abbrev pub longest : Bool → ℕ
longest timed = when timed then 1600 else 0

-- the controls lie within these ranges
pub record InRange (c : Control) : Type 0 where
  pub counter : c.place.counter < limit c.place.target
  pub row : c.place.row < 64
  pub waiting : RowInRange c.place.waiting
  pub scroll : c.view.scroll < 64
  pub shift : c.view.shift < 16
  pub lines : length c.view.reversed ≡ 4
  pub remaining : c.time.remaining ≤ longest c.time.timed

-- a state that may be handed to a call: its controls lie within their ranges, and its memories have their sizes
pub record AllInRange (m : Memories) (c : Control) : Type 0 where
  pub control : InRange c
  pub text : length m.text ≡ 128
  pub glyph : length m.glyph ≡ 128
  pub graphic : length m.graphic ≡ 2048
