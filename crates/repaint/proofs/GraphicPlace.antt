-- The one byte that shows a byte of the graphic: on the row that shows y, which is (y + 64 - scroll) % 64, if the glass has that row.
use Prim.Native.Nat.{ℕ, ◌+◌, ◌-◌, ◌/◌, ◌%◌, ◌<◌, ◌≤◌}
use mathlib.Core.Path.{◌≡◌}
use mathlib.Core.Bool.{true}
use mathlib.Core.List.{List}
use native.Mathlib.Omega.{arith}
use lib.ListN.{length, set}
use lib.Dec.{eqb}
use borrow.Author.Tests.{eqb-true, eq-eqb}
use Rattle.base.specs.Layout.{on}
use Rattle.base.proofs.Tests.{alike, never, and_both}
use Rattle.base.proofs.Layouts.{only}
use Rattle.controller.specs.declared.View.{View}
use Rattle.controller.specs.Glass.{place_of, shown_row}
use Rattle.picture.specs.Picture.{wide}
use Rattle.picture.proofs.Wide.{wide-placed}
use Rattle.repaint.specs.Repaint.{painting, paints_on, shows_place}
use Rattle.repaint.proofs.Paintings.{paints-none, paints-byte}

-- a row of the glass shows y just where it is that row
row_of : (r y scroll : ℕ) → r < 32 → y < 64 → scroll < 64 → (r + scroll) % 64 ≡ y → r ≡ (y + 64 - scroll) % 64
row_of r y scroll a b c e = omega arith

of_row : (y scroll : ℕ) → y < 64 → scroll < 64 → ((y + 64 - scroll) % 64 + scroll) % 64 ≡ y
of_row y scroll b c = omega arith

module _ (v : View) (y k : ℕ) (scrolled : v.scroll < 64) (lines : y < 64) where
  -- the row that shows y
  abbrev row : ℕ
  row = (y + 64 - v.scroll) % 64

  place_is : (r c : ℕ) → shows_place v y k r c ≡ true → ((r + v.scroll) % 64 ≡ y) × (c ≡ k)
  unfolding shown_row
  place_is r c e =
      let q = and_both (eqb ((r + v.scroll) % 64) y) (eqb c k) e in
      (eqb-true ((r + v.scroll) % 64) y q.0, eqb-true c k q.1)

  pub graphic-none : (b : ℕ → ℕ → ℕ) (f : List ℕ) → length f ≡ 1024 → 32 ≤ row → painting 0 f ≡ paints_on wide (shows_place v y k) b f
  graphic-none b f size h =
      paints-none 1024 (on wide (shows_place v y k)) (on wide b) f size
      (λ i l. never _ (λ e.
      let q = place_is (i / 32) (i % 32) e in
      let r : i / 32 ≡ row = row_of (i / 32) y v.scroll (omega arith) lines scrolled q.0 in
      omega arith))

  one_byte_lem : (r c : ℕ) → r < 32 → shows_place v y k r c ≡ only row k r c
  unfolding shown_row
  one_byte_lem r c h =
      alike (shows_place v y k r c) (only row k r c)
      (λ e.
      let q = place_is r c e in
      rw (eq-eqb r row (row_of r y v.scroll h lines scrolled q.0)) (eq-eqb c k q.1))
      (λ e.
      let q = and_both (eqb r row) (eqb c k) e in
      let x : r ≡ row = eqb-true r row q.0 in
      rw (x, eq-eqb ((row + v.scroll) % 64) y (of_row y v.scroll lines scrolled)) q.1)

  pub graphic-one :
      (b : ℕ → ℕ → ℕ) (f g : List ℕ)
      → k < 32
      → length f ≡ 1024
      → row < 32
      → g ≡ set f (place_of row k) (b row k)
      → painting 1 g ≡ paints_on wide (shows_place v y k) b f
  graphic-one b f g c size visible e =
      paints-byte wide 32 32 place_of wide-placed (shows_place v y k) b f g row k size visible c (λ r c h x. one_byte_lem r c h) e
