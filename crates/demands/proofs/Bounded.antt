-- With S = 0 a data transfer names at most 64 bytes, on any link: a glyph write at most 32, a graphic write at most 1.
use Rattle.std.proofs.Common.{None, Option, Some}
use Rattle.links.specs.declared.Carried.{Carried}
use Prim.Native.Nat.{ℕ, ◌≤◌}
use mathlib.Core.Bool.{Bool, true, false, ◌&&◌, and-false, true≢false}
use mathlib.Core.List.{List}
use mathlib.Core.Path.{◌≡◌, ◌∙◌, sym, ap, subst}
use native.Mathlib.Nat.{le_trans}
use native.Mathlib.Omega.{arith}
use lib.ListN.{length}
use lib.Dec.{eqb}
use Rattle.base.proofs.Choice.{either}
use Rattle.table.specs.declared.Target.{Target}
use Rattle.table.specs.declared.Target.TheVariants.{Text, Glyph, Graphic}
use Rattle.controller.specs.declared.View.{View}
use Rattle.controller.specs.declared.Control.{Control}
use Rattle.controller.specs.declared.Place.{Place}
use Rattle.controller.specs.declared.Region.{Region}
use Rattle.controller.specs.declared.Region.TheVariants.{Nothing}
use Rattle.deeds.specs.declared.Done.{Done}
use Rattle.controller.specs.Memories.{Memories}
use Rattle.controller.specs.Data.{completes, shifts, moved_on}
use Rattle.controller.specs.Named.{covers, text_names, write_by_target, write_names, read_names, both_cells}
use Rattle.time.specs.Time.{lost}
use Rattle.deeds.specs.Transfers.{Acted, written, read_out, carried_out, on_time, performed}
use Rattle.events.specs.declared.Event.{Event}
use Rattle.events.specs.declared.Transfer.{Transfer}
use Rattle.events.specs.declared.Transfer.TheVariants.{Instruct, Write, Status, Read}
use Rattle.picture.specs.Picture.{Seen, wide}
use Rattle.picture.specs.Refusals.{refusal_of}
use Rattle.repaint.specs.Repaint.{named, count_named}
use Rattle.repaint.proofs.Counts.{count_cells, count-glyph, count-graphic, count-nothing}
use Rattle.calls.specs.State.{State}
use Rattle.calls.specs.Calls.{Called, unless_other, taken_on, reaching, timeless, called}
use Rattle.demands.specs.Wires.{count_of, is_data}
use Rattle.demands.specs.Demand3.{AtMost64, GlyphAtMost32, GraphicAtMost1}

-- with S = 0 no word shifts the display
unshifted : (c : Control) → c.entry.s ≡ false → shifts c ≡ false
unshifted c s = ap (λ (x : Bool). completes c.place && x) s ∙ and-false (completes c.place)

-- the bound of a write, by the target
abbrev pub write_bound : Target → ℕ
write_bound Text = 64
write_bound Glyph = 32
write_bound Graphic = 1

text-count : (v : View) (text : List ℕ) (p q : Place) → count_named wide v text (text_names p q) ≤ 64
unfolding count_named named
text-count v text p q = count_cells v text _ _

by_target :
    (v : View) (text : List ℕ) (t : Target) (p q : Place) → count_named wide v text (write_by_target t p q) ≤ write_bound t
unfolding count_named named covers
by_target v text Text p q = text-count v text p q
by_target v text Glyph p q = count-glyph v text p.counter p.low
by_target v text Graphic p q = count-graphic v p.row p.counter p.low

pub written_count :
    (m : Memories) (c : Control) (b : ℕ)
    → c.entry.s ≡ false
    → count_of (written m c b) ≤ write_bound c.place.target
unfolding written write_names
written_count m c b s =
    rw (unshifted c s) (by_target _ _ c.place.target c.place (moved_on c).place)

bound_64 : (t : Target) → write_bound t ≤ 64
bound_64 Text = omega arith
bound_64 Glyph = omega arith
bound_64 Graphic = omega arith

nothing-count : (v : View) (text : List ℕ) (n : ℕ) → count_named wide v text Nothing ≤ n
unfolding count_named named
nothing-count v text n = subst (λ (k : ℕ). k ≤ n) (sym (count-nothing v text)) (omega arith)

cells_count : (v : View) (text : List ℕ) (p q : Place) → count_named wide v text (both_cells p q) ≤ 64
unfolding count_named named
cells_count v text p q = count_cells v text _ _

pub read_count :
    (m : Memories) (c : Control) → c.entry.s ≡ false → count_named wide (read_out m c).control.view m.text (read_out m c).region ≤ 64
unfolding read_out read_names
read_count m c s =
    either (λ (d : Done). count_named wide d.control.view m.text d.region ≤ 64) c.place.dummy (nothing-count _ m.text 64)
    (rw (unshifted c s)
    (either (λ (r : Region). count_named wide (moved_on c).view m.text r ≤ 64) (completes c.place)
    (cells_count (moved_on c).view m.text c.place (moved_on c).place)
    (nothing-count (moved_on c).view m.text 64)))

pub data_count :
    (m : Memories) (c : Control) (t : Transfer) → is_data t ≡ true → c.entry.s ≡ false → count_of (carried_out m c t) ≤ 64
unfolding carried_out
data_count m c (Instruct byte) d s = absurd (true≢false (sym d))
data_count m c (Write byte) d s = le_trans (written_count m c byte s) (bound_64 c.place.target)
data_count m c Status d s = absurd (true≢false (sym d))
data_count m c Read d s = read_count m c s

-- a lost transfer names none
on_time-count : (m : Memories) (c : Control) (t : Transfer) (n : ℕ) → count_of (carried_out m c t) ≤ n → count_of (on_time m c t) ≤ n
unfolding on_time
on_time-count m c t n h = either (λ (a : Acted). count_of a ≤ n) (lost c t) (nothing-count c.view m.text n) h

-- a bound on what reaches the controller is a bound on the call, whatever link it comes over
module _ (e : Seen) (s : State) (frame : List ℕ) (event : Event) (n : ℕ) where
  reached_count : (t : Option Carried) → count_of (performed s.memories s.control (reaching t)) ≤ n → (unless_other e s frame t).count ≤ n
  reached_count None h = omega arith
  reached_count (Some c) h = h

  bounded-count : count_of (performed s.memories s.control (reaching (taken_on s event))) ≤ n → (called e s frame event).count ≤ n
  unfolding called
  bounded-count h =
      either (λ (x : Called). x.count ≤ n) (eqb (refusal_of (length frame) (length e.fonts.half) (length e.fonts.full)) 0)
      (either (λ (x : Called). x.count ≤ n) (timeless s.control event) (omega arith) (reached_count (taken_on s event) h)) (omega arith)

-- with S = 0 a call that carries out a data transfer names at most 64
pub at_most_64 : AtMost64
unfolding performed
at_most_64 e s frame event t k d z = bounded-count e s frame event 64 (rw k (on_time-count s.memories s.control t 64 (data_count s.memories s.control t d z)))

-- glyph and graphic writes never shift the display, so S does not matter
glyph-count : (m : Memories) (c : Control) (b : ℕ) → c.place.target ≡ Glyph → count_of (written m c b) ≤ 32
unfolding written write_names count_named named covers
glyph-count m c b h = rw h (count-glyph _ _ _ _)

graphic-count : (m : Memories) (c : Control) (b : ℕ) → c.place.target ≡ Graphic → count_of (written m c b) ≤ 1
unfolding written write_names count_named named covers
graphic-count m c b h = rw h (count-graphic _ _ _ _)

pub glyph_at_most_32 : GlyphAtMost32
unfolding performed carried_out
glyph_at_most_32 e s frame call byte k t = bounded-count e s frame call 32 (rw k (on_time-count s.memories s.control (Write byte) 32 (glyph-count s.memories s.control byte t)))

pub graphic_at_most_1 : GraphicAtMost1
unfolding performed carried_out
graphic_at_most_1 e s frame call byte k t = bounded-count e s frame call 1 (rw k (on_time-count s.memories s.control (Write byte) 1 (graphic-count s.memories s.control byte t)))
