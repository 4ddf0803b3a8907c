-- The controls as bytes: target, counter, row, half next, dummy due, whether a row waits and which, I/D, S, display, cursor, blink,
-- DL, RE, G, SR, standby, scroll, shift, the four reversed lines, whether there is time, the time that remains in two bytes, the high one
-- first, and the numbering. A flag is bit 0 of its byte, a number the bits it has room for.
use Rattle.std.specs.Prelude.{ℕ, ◌+◌, ◌*◌, ◌/◌, ◌%◌, min, Bool, false, List, [], ◌∷◌, get_or, eqb, None, Option, Some}
use Rattle.base.specs.Choice.{when◌then◌else◌}
use Rattle.events.specs.declared.Numbering.{Numbering}
use Rattle.events.specs.declared.Numbering.TheVariants.{By96, By160}
use Rattle.table.specs.declared.Target.{Target}
use Rattle.table.specs.declared.Target.TheVariants.{Text, Glyph, Graphic}
use Rattle.controller.specs.declared.Place.{Place}
use Rattle.controller.specs.declared.View.{View}
use Rattle.controller.specs.declared.Time.{Time}
use Rattle.controller.specs.declared.Control.{Control}
use Rattle.controller.specs.State.{numbering_of, longest}

abbrev pub flag : ℕ → Bool
flag byte = eqb (byte % 2) 1

-- 0 text, 1 glyph, 2 graphic
abbrev pub target_from : ℕ → Target
target_from byte = when eqb (byte % 4) 0 then Text else when eqb (byte % 4) 1 then Glyph else Graphic

abbrev pub counter_from : Target → ℕ → ℕ
counter_from Text byte = byte % 64
counter_from Glyph byte = byte % 64
counter_from Graphic byte = byte % 16

abbrev pub waiting_from : Bool → ℕ → Option ℕ
waiting_from waits row = when waits then Some (row % 64) else None

-- the time that remains has 16 bits here, and more than a panel's longest counts as that
abbrev pub time_from : ℕ → ℕ → ℕ → Time
time_from timed high low = record { timed = flag timed; remaining = min (high * 256 + low) (longest (flag timed)) }

unfoldable pub place_from : List ℕ → Place
place_from b =
    record {
      target = target_from (get_or b 0 0);
      counter = counter_from (target_from (get_or b 0 0)) (get_or b 1 0);
      row = get_or b 2 0 % 64;
      low = flag (get_or b 3 0);
      dummy = flag (get_or b 4 0);
      waiting = waiting_from (flag (get_or b 5 0)) (get_or b 6 0);
    }

unfoldable pub view_from : List ℕ → View
view_from b =
    record {
      scroll = get_or b 17 0 % 64;
      shift = get_or b 18 0 % 16;
      reversed = flag (get_or b 19 0) ∷ flag (get_or b 20 0) ∷ flag (get_or b 21 0) ∷ flag (get_or b 22 0) ∷ [];
      numbering = numbering_of (flag (get_or b 26 0));
    }

unfoldable pub unpacked : List ℕ → Control
unpacked b =
    record {
      place = place_from b;
      entry = record { id = flag (get_or b 7 0); s = flag (get_or b 8 0) };
      shown = record { display = flag (get_or b 9 0); cursor = flag (get_or b 10 0); blink = flag (get_or b 11 0) };
      function = record { dl = flag (get_or b 12 0); re = flag (get_or b 13 0); g = flag (get_or b 14 0) };
      sr = flag (get_or b 15 0);
      view = view_from b;
      standby = flag (get_or b 16 0);
      time = time_from (get_or b 23 0) (get_or b 24 0) (get_or b 25 0);
    }

-- the same the other way: the controls as such bytes. A flag is 0 or 1
abbrev pub flag_byte : Bool → ℕ
flag_byte on = when on then 1 else 0

abbrev pub target_byte : Target → ℕ
target_byte Text = 0
target_byte Glyph = 1
target_byte Graphic = 2

-- 0 the old one, 1 the new
abbrev pub numbering_byte : Numbering → ℕ
numbering_byte By96 = 0
numbering_byte By160 = 1

abbrev pub waits_byte : Option ℕ → ℕ
waits_byte None = 0
waits_byte (Some y) = 1

-- where no row waits, its byte is 0
abbrev pub waiting_byte : Option ℕ → ℕ
waiting_byte None = 0
waiting_byte (Some y) = y

abbrev pub line_byte : View → ℕ → ℕ
line_byte v line = flag_byte (get_or v.reversed line false)

-- a number of 16 bits, as two
abbrev pub high_byte : ℕ → ℕ
high_byte number = number / 256

abbrev pub low_byte : ℕ → ℕ
low_byte number = number % 256

unfoldable pub packed : Control → List ℕ
packed c =
    target_byte c.place.target ∷ c.place.counter ∷ c.place.row ∷ flag_byte c.place.low ∷ flag_byte c.place.dummy
    ∷ waits_byte c.place.waiting ∷ waiting_byte c.place.waiting
    ∷ flag_byte c.entry.id ∷ flag_byte c.entry.s
    ∷ flag_byte c.shown.display ∷ flag_byte c.shown.cursor ∷ flag_byte c.shown.blink
    ∷ flag_byte c.function.dl ∷ flag_byte c.function.re ∷ flag_byte c.function.g
    ∷ flag_byte c.sr ∷ flag_byte c.standby
    ∷ c.view.scroll ∷ c.view.shift
    ∷ line_byte c.view 0 ∷ line_byte c.view 1 ∷ line_byte c.view 2 ∷ line_byte c.view 3
    ∷ flag_byte c.time.timed ∷ high_byte c.time.remaining ∷ low_byte c.time.remaining
    ∷ numbering_byte c.view.numbering ∷ []
