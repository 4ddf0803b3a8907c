-- A place lies in the cell of the text word that it shows, and in no other: so what is at the counter's word lies in the counter's cell.
use Rattle.std.proofs.Common.{None, Option, Some}
use Prim.Native.Nat.{ℕ, ◌+◌, ◌*◌, ◌/◌, ◌%◌, ◌<◌}
use mathlib.Core.Bool.{true, ◌&&◌}
use mathlib.Core.Path.{◌≡◌, refl}
use native.Mathlib.Omega.{arith}
use lib.Dec.{eqb}
use borrow.Author.Tests.{eqb-true, eq-eqb}
use Rattle.base.proofs.Tests.{alike, and_both}
use Rattle.controller.specs.declared.View.{View}
use Rattle.controller.specs.Glass.{shown_row, shown_word}
use Rattle.controller.specs.Named.{in_cell, in_some_cell}
use Rattle.picture.specs.Picture.{at_counter}

-- a word is the one at its line and column
line-and-column : (a b w : ℕ) → b < 16 → (eqb a (w / 16) && eqb b (w % 16)) ≡ eqb (16 * a + b) w
line-and-column a b w h = alike (eqb a (w / 16) && eqb b (w % 16)) (eqb (16 * a + b) w) to from
  where
    to : (eqb a (w / 16) && eqb b (w % 16)) ≡ true → eqb (16 * a + b) w ≡ true
    to e =
        let both = and_both (eqb a (w / 16)) (eqb b (w % 16)) e in
        let line : a ≡ w / 16 = eqb-true a (w / 16) both.0 in
        let column : b ≡ w % 16 = eqb-true b (w % 16) both.1 in
        eq-eqb (16 * a + b) w (omega arith)

    from : eqb (16 * a + b) w ≡ true → (eqb a (w / 16) && eqb b (w % 16)) ≡ true
    from e =
        let word : 16 * a + b ≡ w = eqb-true (16 * a + b) w e in
        rw (eq-eqb a (w / 16) (omega arith)) (eq-eqb b (w % 16) (omega arith))

pub in_cell-shows : (v : View) (word row column : ℕ) → in_cell v word row column ≡ eqb (shown_word v row (column / 2)) word
unfolding in_cell shown_word
in_cell-shows v word row column = line-and-column (shown_row v row / 16) ((column / 2 + v.shift) % 16) word (omega arith)

-- the cell of a word, or none
pub some-cell-shows : (v : View) (cell : Option ℕ) (row column : ℕ) → in_some_cell v cell row column ≡ at_counter cell (shown_word v row (column / 2))
some-cell-shows v None row column = refl
some-cell-shows v (Some word) row column = in_cell-shows v word row column
