-- Fresh is valid, and every transfer keeps the ranges and the memories' sizes: place and view are looked at apart.
use Rattle.std.proofs.Common.{None, Option, Some}
use Prim.Native.Nat.{ℕ, ◌<◌, ◌≤◌}
use mathlib.Core.Bool.{Bool, true, false, not, ◌&&◌}
use mathlib.Core.Path.{◌≡◌, refl, sym, subst}
use mathlib.Core.List.{List}
use native.Mathlib.Omega.{arith}
use lib.Dec.{ltb}
use lib.ListN.{length, length-set}
use Rattle.base.specs.Choice.{when◌then◌else◌}
use Rattle.base.proofs.Choice.{either}
use Rattle.table.specs.declared.Target.{Target}
use Rattle.table.specs.declared.Target.TheVariants.{Text, Glyph, Graphic}
use Rattle.table.specs.declared.Instruction.{Instruction}
use Rattle.table.specs.declared.Instruction.TheVariants.{MoveCursor}
use Rattle.table.specs.declared.Touch.{Touch}
use Rattle.table.specs.declared.Touch.TheVariants as touch
use Rattle.table.specs.Table.{Row, 00h, 01h, 02h_03h, 04h_07h, 08h_0Fh, 10h_1Fh, 20h_3Fh, 40h_7Fh, 80h_FFh, row_of, if_text, table, said}
use Rattle.table.specs.Touches.{touches}
use Rattle.base.specs.Bits.{bit}
use Rattle.events.specs.declared.Transfer.{Transfer}
use Rattle.events.specs.declared.Transfer.TheVariants.{Instruct, Write, Status, Read}
use Rattle.events.specs.declared.Made.{Made}
use Rattle.events.specs.declared.Deed.{Deed}
use Rattle.events.specs.declared.Deed.TheVariants as deed
use Rattle.controller.specs.declared.Place.{Place}
use Rattle.controller.specs.declared.Entry.{Entry}
use Rattle.controller.specs.declared.View.{View}
use Rattle.controller.specs.declared.Time.{Time}
use Rattle.controller.specs.declared.Control.{Control}
use Rattle.deeds.specs.declared.Done.{Done}
use Rattle.controller.specs.Memories.{Memories, fresh_memories}
use Rattle.controller.specs.State.{fresh_control, remade, limit, RowInRange, longest, InRange, AllInRange}
use Rattle.controller.specs.Instructions.{with_place, with_entry, with_view, with_time, with_waiting, pointed, begun, home, stepped, display_moved, graphic_addressed, with_scroll, with_shift, reverse_toggled, obeyed, cleared, modes}
use Rattle.controller.specs.Data.{stored, next_counter, moved, shifts, moved_on, dummy_read}
use Rattle.time.specs.Time.{lost, instruction_cost, cost, charged, elapsed}
use Rattle.deeds.specs.Transfers.{Acted, executed, written, read_out, status_read, carried_out, at_cost, on_time, performed}

record PlaceIn (p : Place) : Type 0 where
  counter : p.counter < limit p.target
  row : p.row < 64
  waiting : RowInRange p.waiting

record ViewIn (v : View) : Type 0 where
  scroll : v.scroll < 64
  shift : v.shift < 16
  lines : length v.reversed ≡ 4

-- what remains is at most what a clear costs, and nothing without time
abbrev TimeIn : Time → Type 0
TimeIn t = t.remaining ≤ longest t.timed

place_in : (c : Control) → InRange c → PlaceIn c.place
place_in c r = record { counter = r.counter; row = r.row; waiting = r.waiting }

view_in : (c : Control) → InRange c → ViewIn c.view
view_in c r = record { scroll = r.scroll; shift = r.shift; lines = r.lines }

in_range : (c : Control) → PlaceIn c.place → ViewIn c.view → TimeIn c.time → InRange c
in_range c p v t =
    record {
      counter = p.counter;
      row = p.row;
      waiting = p.waiting;
      scroll = v.scroll;
      shift = v.shift;
      lines = v.lines;
      remaining = t;
    }

pub fresh_in_range : (made : Made) → InRange (fresh_control made)
unfolding fresh_control
fresh_in_range made =
    record {
      counter = omega arith;
      row = omega arith;
      waiting = tt;
      scroll = omega arith;
      shift = omega arith;
      lines = refl;
      remaining = either (λ (n : ℕ). 0 ≤ n) made.time (omega arith) (omega arith);
    }

pub fresh-valid : (made : Made) → AllInRange fresh_memories (fresh_control made)
unfolding fresh_memories
fresh-valid made = record { control = fresh_in_range made; text = refl; glyph = refl; graphic = refl }

-- instructions

pointed_in : (t : Target) (k y : ℕ) → k < limit t → y < 64 → PlaceIn (pointed t k y)
pointed_in t k y h g = record { counter = h; row = g; waiting = tt }

dropped_in : (p : Place) → PlaceIn p → PlaceIn (with_waiting None p)
dropped_in p r = record { counter = r.counter; row = r.row; waiting = tt }

stepped_64 : (right : Bool) (k : ℕ) → stepped right k < 64
stepped_64 right k = either (λ (n : ℕ). n < 64) right (omega arith) (omega arith)

addressed_in : (w : Option ℕ) (p : Place) (a : ℕ) → RowInRange w → PlaceIn p → PlaceIn (graphic_addressed w p a)
addressed_in None p a h r = record { counter = r.counter; row = r.row; waiting = omega arith }
addressed_in (Some y) p a h r = pointed_in Graphic _ y (omega arith) h

shifted_in : (right : Bool) (v : View) → ViewIn v → ViewIn (display_moved right v)
shifted_in right v r =
    record {
      scroll = r.scroll;
      shift = either (λ (n : ℕ). n < 16) right (omega arith) (omega arith);
      lines = r.lines;
    }

home_in : (v : View) → ViewIn v → ViewIn (with_shift 0 v)
home_in v r = record { scroll = r.scroll; shift = omega arith; lines = r.lines }

toggled_in : (line : ℕ) (v : View) → ViewIn v → ViewIn (reverse_toggled line v)
toggled_in line v r = record { scroll = r.scroll; shift = r.shift; lines = simp length-set r.lines }

scrolled_in : (rows : ℕ) (v : View) → rows < 64 → ViewIn v → ViewIn (with_scroll rows v)
scrolled_in rows v h r = record { scroll = h; shift = r.shift; lines = r.lines }

-- the table's entries, row by row; what an entry changes of place and view, it changes within their ranges
module _ (c : Control) (r : InRange c) where
  Keeps : Instruction → Type 0
  Keeps i = InRange (obeyed c i)

  -- an entry that leaves place and view, but for a waiting row
  drops : {d : Control} → d.place ≡ with_waiting None c.place → d.view ≡ c.view → d.time ≡ c.time → InRange d
  drops {d} p v t =
      in_range d (subst PlaceIn (sym p) (dropped_in _ (place_in c r))) (subst ViewIn (sym v) (view_in c r)) (subst TimeIn (sym t) r.remaining)

  points : (t : Target) (k : ℕ) → k < limit t → InRange (with_place (pointed t k c.place.row) (begun c))
  points t k h = in_range _ (pointed_in t k _ h r.row) (view_in c r) r.remaining

  looks : (v : View) → ViewIn v → InRange (with_view v (begun c))
  looks v h = in_range _ (dropped_in _ (place_in c r)) h r.remaining

  homes : (e : Entry) → InRange (with_entry e (home (begun c)))
  homes e = in_range _ (pointed_in Text 0 _ (omega arith) r.row) (home_in _ (view_in c r)) r.remaining

  moves : (t : Target) (right : Bool) → Keeps (if_text t (MoveCursor right))
  unfolding Keeps obeyed
  moves Text right = points Text _ (stepped_64 right c.place.counter)
  moves Glyph right = r
  moves Graphic right = r

  basic-kept : (row : Row) (b : ℕ) → Keeps (table (modes c) row b).basic
  unfolding Keeps obeyed
  basic-kept 00h b = r
  basic-kept 01h b = homes _
  basic-kept 02h_03h b = homes c.entry
  basic-kept 04h_07h b = drops refl refl refl
  basic-kept 08h_0Fh b = drops refl refl refl
  basic-kept 10h_1Fh b =
      either Keeps (bit 3 b) (looks _ (shifted_in (bit 2 b) c.view (view_in c r))) (moves c.place.target (bit 2 b))
  basic-kept 20h_3Fh b = drops refl refl refl
  basic-kept 40h_7Fh b = either Keeps c.sr r (points Glyph _ (omega arith))
  basic-kept 80h_FFh b = points Text _ (omega arith)

  extended-kept : (row : Row) (b : ℕ) → Keeps (table (modes c) row b).extended
  unfolding Keeps obeyed
  extended-kept 00h b = r
  extended-kept 01h b = drops refl refl refl
  extended-kept 02h_03h b = drops refl refl refl
  extended-kept 04h_07h b = looks _ (toggled_in b c.view (view_in c r))
  extended-kept 08h_0Fh b = r
  extended-kept 10h_1Fh b = r
  extended-kept 20h_3Fh b = drops refl refl refl
  extended-kept 40h_7Fh b = either Keeps c.sr (looks _ (scrolled_in _ c.view (omega arith) (view_in c r))) r
  extended-kept 80h_FFh b = in_range _ (addressed_in c.place.waiting c.place _ r.waiting (place_in c r)) (view_in c r) r.remaining

  pub obeyed_in_range : (b : ℕ) → InRange (obeyed c (said (modes c) b))
  unfolding said Keeps
  obeyed_in_range b = either Keeps c.function.re (extended-kept (row_of b) b) (basic-kept (row_of b) b)

cleared-length : (t : Touch) (text : List ℕ) → length text ≡ 128 → length (cleared t text) ≡ 128
cleared-length touch.Nothing text h = h
cleared-length touch.Counter text h = h
cleared-length touch.All text h = h
cleared-length touch.AllAndText text h = refl

-- what a deed leaves is valid
abbrev pub ActedValid : Acted → Type 0
ActedValid a = AllInRange a.memories a.done.control

executed-valid : (m : Memories) (c : Control) (b : ℕ) → AllInRange m c → ActedValid (executed m c b)
unfolding executed
executed-valid m c b v =
    record {
      control = obeyed_in_range c v.control b;
      text = cleared-length (touches (said (modes c) b)) m.text v.text;
      glyph = v.glyph;
      graphic = v.graphic;
    }

-- data transfers

next-limit : (t : Target) (id : Bool) (k : ℕ) → next_counter t id k < limit t
next-limit Text id k = stepped_64 id k
next-limit Glyph id k = stepped_64 id k
next-limit Graphic id k = omega arith

moved_in : (id : Bool) (p : Place) → PlaceIn p → PlaceIn (moved id p)
unfolding moved
moved_in id p r =
    record {
      counter = either (λ (k : ℕ). k < limit p.target) p.low (next-limit p.target id p.counter) r.counter;
      row = r.row;
      waiting = tt;
    }

pub moved_on_in_range : (c : Control) → InRange c → InRange (moved_on c)
unfolding moved_on
moved_on_in_range c r =
    in_range _ (moved_in c.entry.id c.place (place_in c r))
    (either ViewIn (shifts c) (shifted_in (not c.entry.id) c.view (view_in c r)) (view_in c r))
    r.remaining

pub dummy_read_in_range : (c : Control) → InRange c → InRange (dummy_read c)
dummy_read_in_range c r =
    in_range (dummy_read c) (record { counter = r.counter; row = r.row; waiting = tt }) (view_in c r) r.remaining

-- storing a byte keeps the sizes of the memories
stored_sizes :
    (t : Target) (p : Place) (b : ℕ) (m : Memories) {x y z : ℕ}
    → length m.text ≡ x → length m.glyph ≡ y → length m.graphic ≡ z
    → (length (stored t p b m).text ≡ x) × (length (stored t p b m).glyph ≡ y) × (length (stored t p b m).graphic ≡ z)
unfolding stored
stored_sizes Text p b m e f g = (simp length-set e, f, g)
stored_sizes Glyph p b m e f g = (e, simp length-set f, g)
stored_sizes Graphic p b m e f g = (e, f, simp length-set g)

pub written-valid :
    (m : Memories) (c : Control) (b : ℕ) → AllInRange m c → ActedValid (written m c b)
unfolding written
written-valid m c b v =
    let sizes = stored_sizes c.place.target c.place b m v.text v.glyph v.graphic in
    record { control = moved_on_in_range c v.control; text = sizes.0; glyph = sizes.1; graphic = sizes.2 }

pub read_out_in_range : (m : Memories) (c : Control) → InRange c → InRange (read_out m c).control
unfolding read_out
read_out_in_range m c r =
    either (λ (d : Done). InRange d.control) c.place.dummy (dummy_read_in_range c r) (moved_on_in_range c r)

pub read_out-valid : (m : Memories) (c : Control) → AllInRange m c → AllInRange m (read_out m c).control
read_out-valid m c v =
    record { control = read_out_in_range m c v.control; text = v.text; glyph = v.glyph; graphic = v.graphic }

pub status_read-valid : (m : Memories) (c : Control) → AllInRange m c → AllInRange m (status_read c).control
unfolding status_read
status_read-valid m c v = v

-- time

timed_in_range : (t : Time) (c : Control) → TimeIn t → InRange c → InRange (with_time t c)
timed_in_range t c h r = in_range (with_time t c) (place_in c r) (view_in c r) h

instruction-most : (t : Touch) → instruction_cost t ≤ 1600
instruction-most touch.Nothing = omega arith
instruction-most touch.Counter = omega arith
instruction-most touch.All = omega arith
instruction-most touch.AllAndText = omega arith

pub cost-most : (c : Control) (t : Transfer) → cost c t ≤ 1600
cost-most c (Instruct byte) = instruction-most (touches (said (modes c) byte))
cost-most c (Write byte) = omega arith
cost-most c Status = omega arith
cost-most c Read = omega arith

charged_in : (n : ℕ) (t : Time) → n ≤ 1600 → TimeIn t → TimeIn (charged n t)
charged_in n t most h = by t.timed (ltb 0 n) h
  where
    by : (timed costs : Bool) → t.remaining ≤ longest timed → (when timed && costs then n else t.remaining) ≤ longest timed
    by true true h = most
    by true false h = h
    by false costs h = h

elapsed_in : (eights : ℕ) (t : Time) → TimeIn t → TimeIn (elapsed eights t)
elapsed_in eights t h = omega (arith, h)

pub elapsed_in_range : (eights : ℕ) (c : Control) → InRange c → InRange (with_time (elapsed eights c.time) c)
elapsed_in_range eights c r = timed_in_range _ c (elapsed_in eights c.time r.remaining) r

pub at_cost_in_range : (n : ℕ) (d : Done) → n ≤ 1600 → InRange d.control → InRange (at_cost n d).control
at_cost_in_range n d most r = timed_in_range _ d.control (charged_in n d.control.time most r.remaining) r

at_cost-valid : (n : ℕ) (a : Acted) → n ≤ 1600 → ActedValid a → AllInRange a.memories (at_cost n a.done).control
at_cost-valid n a most v =
    record { control = at_cost_in_range n a.done most v.control; text = v.text; glyph = v.glyph; graphic = v.graphic }

module _ (m : Memories) (c : Control) (v : AllInRange m c) where
  carried_out-valid : (t : Transfer) → ActedValid (carried_out m c t)
  unfolding carried_out
  carried_out-valid (Instruct byte) = executed-valid m c byte v
  carried_out-valid (Write byte) = written-valid m c byte v
  carried_out-valid Status = status_read-valid m c v
  carried_out-valid Read = read_out-valid m c v

  on_time-valid : (t : Transfer) → ActedValid (on_time m c t)
  unfolding on_time
  on_time-valid t = either ActedValid (lost c t) v (at_cost-valid (cost c t) (carried_out m c t) (cost-most c t) (carried_out-valid t))

  pub performed-valid : (d : Deed) → ActedValid (performed m c d)
  unfolding performed
  performed-valid deed.Nothing = v
  performed-valid (deed.Whole t) = on_time-valid t
  performed-valid (deed.Fresh pin) = fresh-valid (remade c pin)
  performed-valid (deed.Pass eights) =
      record { control = elapsed_in_range eights c v.control; text = v.text; glyph = v.glyph; graphic = v.graphic }
