-- A byte that a transfer does not name is the same in the picture before and after it: every part that it depends on is.
use Rattle.std.proofs.Common.{None, Option, Some}
use Prim.Native.Nat.{ℕ, ◌/◌, ◌<◌}
use mathlib.Core.Bool.{Bool, true, false, not, ◌&&◌, ◌||◌, true≢false, and-true}
use mathlib.Core.Path.{◌≡◌, refl, ◌∙◌, sym, ap, subst}
use mathlib.Core.List.{List}
use lib.Dec.{eqb}
use borrow.Author.Tests.{eqb-false}
use Rattle.base.specs.Choice.{when◌then◌else◌}
use Rattle.base.proofs.Choice.{by_test, either-told}
use Rattle.base.proofs.Tests.{or_neither}
use Rattle.table.specs.declared.Target.{Target}
use Rattle.table.specs.declared.Target.TheVariants.{Text, Glyph, Graphic}
use Rattle.table.specs.declared.Instruction.{Instruction}
use Rattle.table.specs.declared.Instruction.TheVariants.{Ignored, Clear, Home, EntryMode, Display, MoveCursor, MoveDisplay, FunctionSet, GlyphAddress, TextAddress, Standby, SetSr, ToggleReverse, Scroll, GraphicAddress}
use Rattle.table.specs.Touches.{touches}
use Rattle.controller.specs.declared.Place.{Place}
use Rattle.controller.specs.declared.View.{View}
use Rattle.controller.specs.declared.Control.{Control}
use Rattle.controller.specs.declared.Region.{Region}
use Rattle.controller.specs.declared.Region.TheVariants.{Nothing, Whole, Cells}
use Rattle.deeds.specs.declared.Done.{Done}
use Rattle.controller.specs.Memories.{Memories, memories}
use Rattle.controller.specs.State.{InRange, limit}
use Rattle.controller.specs.Instructions.{with_place, begun, graphic_addressed, obeyed, cleared}
use Rattle.controller.specs.Data.{is_text, stored, next_counter, counter_after, moved, completes, shifts, moved_on, dummy_read}
use Rattle.controller.specs.Glass.{shown_word}
use Rattle.controller.specs.Named.{counter_cell, both_cells, address_names, instruction_names, write_by_target, write_names, read_names, in_cell, in_some_cell, covers}
use Rattle.deeds.specs.Transfers.{written, read_out}
use Rattle.picture.specs.Picture.{Fonts, look_of, at_counter, cell_byte, graphic_byte, byte_at}
use Rattle.picture.proofs.Parts.{equal_parts_equal_bytes}
use Rattle.repaint.proofs.Shows.{in_cell-shows, some-cell-shows}
use Rattle.picture.proofs.Unread.{text_unread, glyph_unshown, graphic_unshown}

module _ (v : View) (text : List ℕ) (row column : ℕ) where
  pub never-whole : covers v text Whole row column ≡ false → ⊥
  unfolding covers
  never-whole e = true≢false e

  not-whole :
      (s : Bool) (r : Region)
      → covers v text (when s then Whole else r) row column ≡ false
      → (s ≡ false) × (covers v text r row column ≡ false)
  not-whole true r e = absurd (never-whole e)
  not-whole false r e = (refl, e)

  -- where neither cell has the place, the counter's word is not shown there, before or after
  neither-here :
      (a b : Option ℕ)
      → covers v text (Cells a b) row column ≡ false
      → at_counter b (shown_word v row (column / 2)) ≡ at_counter a (shown_word v row (column / 2))
  unfolding covers
  neither-here a b e =
      let n = or_neither (in_some_cell v a row column) (in_some_cell v b row column) e in
      sym (some-cell-shows v b row column) ∙ n.1 ∙ sym n.0 ∙ some-cell-shows v a row column

-- after the low half the new word is not shown here either; after the high half the counter has not moved
same_word :
    (v : View) (row column : ℕ) (low : Bool) (k next : ℕ)
    → eqb (shown_word v row (column / 2)) k ≡ false
    → in_some_cell v (when low then Some (when low then next else k) else None) row column ≡ false
    → eqb (shown_word v row (column / 2)) (when low then next else k) ≡ eqb (shown_word v row (column / 2)) k
same_word v row column true k next e u = sym (in_cell-shows v next row column) ∙ u ∙ sym e
same_word v row column false k next e u = refl

-- where the target is not text the counter's word is nowhere
neither : (t : Bool) (w x y : ℕ) → t ≡ false → at_counter (when t then Some x else None) w ≡ at_counter (when t then Some y else None) w
neither true w x y e = absurd (true≢false e)
neither false w x y e = refl

-- where the same words are shown the counter's is
at-text : (t : Bool) (w x y : ℕ) → eqb w x ≡ eqb w y → at_counter (when t then Some x else None) w ≡ at_counter (when t then Some y else None) w
at-text true w x y e = e
at-text false w x y e = refl

-- where no text word completes the counter's word stays
incomplete :
    (t low : Bool) (w next k : ℕ)
    → (t && low) ≡ false
    → at_counter (when t then Some (when low then next else k) else None) w ≡ at_counter (when t then Some k else None) w
incomplete true true w next k e = absurd (true≢false e)
incomplete true false w next k e = refl
incomplete false low w next k e = refl

module _ (e : Fonts) (phase : Bool) (m : Memories) (c : Control) (row column : ℕ) where
  -- instructions

  -- an address set or a cursor move to p
  relocated :
      (p : Place)
      → covers c.view m.text (when c.standby && true then Whole else both_cells c.place p) row column ≡ false
      → byte_at e m (look_of phase (with_place p (begun c))) row column ≡ byte_at e m (look_of phase c) row column
  relocated p u =
      let n = not-whole c.view m.text row column (c.standby && true) (both_cells c.place p) u in
      equal_parts_equal_bytes e m m (look_of phase c) (look_of phase (with_place p (begun c))) row column
      (record {
        view = refl;
        here = neither-here c.view m.text row column (counter_cell c.place) (counter_cell p) n.1;
        cursor = refl;
        blink = refl;
        g = refl;
        dark = ap (λ (x : Bool). not c.shown.display || x) (sym n.0 ∙ and-true c.standby);
        cell = refl;
        graphic = refl;
      })

  -- a graphic address: a row alone moves nothing, its column is an address set
  graphic-relocated :
      (w : Option ℕ) (a : ℕ)
      → covers c.view m.text (when c.standby && true then Whole else address_names (graphic_addressed w c.place a).waiting c.place (graphic_addressed w c.place a)) row column ≡ false
      → byte_at e m (look_of phase (with_place (graphic_addressed w c.place a) (begun c))) row column ≡ byte_at e m (look_of phase c) row column
  graphic-relocated None a u =
      let n = not-whole c.view m.text row column (c.standby && true) Nothing u in
      equal_parts_equal_bytes e m m (look_of phase c) (look_of phase (with_place (graphic_addressed None c.place a) (begun c))) row column
      (record {
        view = refl;
        here = refl;
        cursor = refl;
        blink = refl;
        g = refl;
        dark = ap (λ (x : Bool). not c.shown.display || x) (sym n.0 ∙ and-true c.standby);
        cell = refl;
        graphic = refl;
      })
  graphic-relocated (Some y) a u = relocated (graphic_addressed (Some y) c.place a) u

  all_named : {P : Type 0} (v : View) (text : List ℕ) (s : Bool) → covers v text (when s then Whole else Whole) row column ≡ false → P
  all_named v text s u = absurd (never-whole v text row column (not-whole v text row column s Whole u).1)

  pub obeyed_unnamed :
      (i : Instruction)
      → covers (obeyed c i).view (cleared (touches i) m.text) (instruction_names c (obeyed c i) (touches i)) row column ≡ false
      → byte_at e (memories (cleared (touches i) m.text) m.glyph m.graphic) (look_of phase (obeyed c i)) row column ≡ byte_at e m (look_of phase c) row column
  unfolding obeyed instruction_names
  obeyed_unnamed Ignored u = refl
  obeyed_unnamed Clear u = all_named _ _ (c.standby && true) u
  obeyed_unnamed Home u = all_named _ _ (c.standby && true) u
  obeyed_unnamed (EntryMode id s) u = all_named _ _ (c.standby && true) u
  obeyed_unnamed (Display display cursor blink) u = all_named _ _ (c.standby && true) u
  obeyed_unnamed (MoveCursor right) u = relocated (obeyed c (MoveCursor right)).place u
  obeyed_unnamed (MoveDisplay right) u = all_named _ _ (c.standby && true) u
  obeyed_unnamed (FunctionSet dl re g) u = all_named _ _ (c.standby && true) u
  obeyed_unnamed (GlyphAddress a) u = relocated (obeyed c (GlyphAddress a)).place u
  obeyed_unnamed (TextAddress a) u = relocated (obeyed c (TextAddress a)).place u
  obeyed_unnamed Standby u = all_named _ _ (c.standby && false) u
  obeyed_unnamed (SetSr sr) u = all_named _ _ (c.standby && true) u
  obeyed_unnamed (ToggleReverse line) u = all_named _ _ (c.standby && true) u
  obeyed_unnamed (Scroll rows) u = all_named _ _ (c.standby && true) u
  obeyed_unnamed (GraphicAddress a) u = graphic-relocated c.place.waiting a u

  -- data transfers

  -- a transfer that shifts nothing leaves the view
  view-kept : shifts c ≡ false → (moved_on c).view ≡ c.view
  unfolding moved_on
  view-kept s = rw s

  -- a data transfer that shifts nothing and leaves the memories n
  moved-on-same :
      (n : Memories)
      → shifts c ≡ false
      → at_counter (counter_cell (moved c.entry.id c.place)) (shown_word c.view row (column / 2)) ≡ at_counter (counter_cell c.place) (shown_word c.view row (column / 2))
      → cell_byte e n c.view row column ≡ cell_byte e m c.view row column
      → graphic_byte n.graphic c.view row column ≡ graphic_byte m.graphic c.view row column
      → byte_at e n (look_of phase (moved_on c)) row column ≡ byte_at e m (look_of phase c) row column
  unfolding moved_on
  moved-on-same n s h k g =
      equal_parts_equal_bytes e m n (look_of phase c) (look_of phase (moved_on c)) row column
      (record { view = view-kept s; here = h; cursor = refl; blink = refl; g = refl; dark = refl; cell = k; graphic = g })

  -- a write into the memory of the target t
  stored_unnamed :
      (b : ℕ) (t : Target)
      → InRange c
      → column < 32
      → c.place.target ≡ t
      → shifts c ≡ false
      → covers c.view (stored t c.place b m).text (write_by_target t c.place (moved_on c).place) row column ≡ false
      → byte_at e (stored t c.place b m) (look_of phase (moved_on c)) row column ≡ byte_at e m (look_of phase c) row column
  unfolding stored covers moved moved_on cell_byte graphic_byte
  stored_unnamed b Text r l q s u =
      let n = or_neither (in_cell c.view c.place.counter row column) (in_some_cell c.view (when c.place.low then Some (counter_after c.entry.id c.place) else None) row column) u in
      let k : eqb (shown_word c.view row (column / 2)) c.place.counter ≡ false = sym (in_cell-shows c.view c.place.counter row column) ∙ n.0 in
      moved-on-same (stored Text c.place b m) s
      (at-text (is_text c.place.target) _ _ _ (same_word c.view row column c.place.low c.place.counter _ k n.1))
      (text_unread e m c.view row column c.place.counter c.place.low b (eqb-false (shown_word c.view row (column / 2)) c.place.counter k))
      refl
  stored_unnamed b Glyph r l q s u =
      moved-on-same (stored Glyph c.place b m) s
      (neither (is_text c.place.target) _ _ _ (ap is_text q))
      (glyph_unshown e m c.view row column c.place.counter c.place.low b u)
      refl
  stored_unnamed b Graphic r l q s u =
      moved-on-same (stored Graphic c.place b m) s
      (neither (is_text c.place.target) _ _ _ (ap is_text q))
      refl
      (graphic_unshown e m c.view row column c.place.row c.place.counter c.place.low b l (subst (λ (t : Target). c.place.counter < limit t) q r.counter) u)

  pub written_unnamed :
      (b : ℕ)
      → InRange c
      → column < 32
      → covers (written m c b).done.control.view (written m c b).memories.text (written m c b).done.region row column ≡ false
      → byte_at e (written m c b).memories (look_of phase (written m c b).done.control) row column ≡ byte_at e m (look_of phase c) row column
  unfolding written write_names
  written_unnamed b r l u =
      let n = not-whole (moved_on c).view (stored c.place.target c.place b m).text row column (shifts c) (write_by_target c.place.target c.place (moved_on c).place) u in
      stored_unnamed b c.place.target r l refl n.0 (rw (view-kept n.0) at n.1)

  -- a data read that is no dummy and shifts nothing
  moved_unnamed :
      shifts c ≡ false
      → covers c.view m.text (when completes c.place then both_cells c.place (moved_on c).place else Nothing) row column ≡ false
      → byte_at e m (look_of phase (moved_on c)) row column ≡ byte_at e m (look_of phase c) row column
  unfolding moved moved_on
  moved_unnamed s u =
      moved-on-same m s
      (by_test (completes c.place)
      (λ t. neither-here c.view m.text row column (counter_cell c.place) (counter_cell (moved_on c).place) (rw t at u))
      (λ t. incomplete (is_text c.place.target) c.place.low (shown_word c.view row (column / 2)) (next_counter c.place.target c.entry.id c.place.counter) c.place.counter t))
      refl
      refl

  dummy_same : byte_at e m (look_of phase (dummy_read c)) row column ≡ byte_at e m (look_of phase c) row column
  dummy_same =
      equal_parts_equal_bytes e m m (look_of phase c) (look_of phase (dummy_read c)) row column
      (record { view = refl; here = refl; cursor = refl; blink = refl; g = refl; dark = refl; cell = refl; graphic = refl })

  pub read_out_unnamed :
      covers (read_out m c).control.view m.text (read_out m c).region row column ≡ false
      → byte_at e m (look_of phase (read_out m c).control) row column ≡ byte_at e m (look_of phase c) row column
  unfolding read_out read_names
  read_out_unnamed =
      either-told
      (λ (d : Done). covers d.control.view m.text d.region row column ≡ false → byte_at e m (look_of phase d.control) row column ≡ byte_at e m (look_of phase c) row column)
      c.place.dummy
      (λ q u. dummy_same)
      (λ q u. let n = not-whole (moved_on c).view m.text row column (shifts c) _ u in moved_unnamed n.0 (rw (view-kept n.0) at n.1))
