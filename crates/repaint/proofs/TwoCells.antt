-- Two cells: one and the same, or with no byte in common, since a place lies only in the cell of the word that it shows.
use Rattle.std.proofs.Common.{None, Option, Some}
use Prim.Native.Nat.{ℕ, ◌+◌, ◌/◌, ◌%◌}
use mathlib.Core.Bool.{Bool, true, false, ◌&&◌, ◌||◌, and-false, true≢false}
use mathlib.Core.List.{List}
use mathlib.Core.Path.{◌≡◌, refl, ◌∙◌, sym, ap}
use lib.ListN.{length}
use borrow.Author.Tests.{eqb-true, eqb-false}
use Rattle.base.specs.Layout.{on}
use Rattle.base.proofs.Tests.{never, and_both}
use Rattle.controller.specs.declared.View.{View}
use Rattle.picture.specs.declared.Look.{Look}
use Rattle.controller.specs.declared.Region.TheVariants.{Cells}
use Rattle.controller.specs.Memories.{Memories}
use Rattle.controller.specs.Glass.{shown_word}
use Rattle.controller.specs.Named.{in_cell, in_some_cell, covers}
use Rattle.picture.specs.Picture.{Fonts, byte_at, wide}
use Rattle.repaint.specs.Repaint.{named, repainted, count_named, painting, paints_on, repaint, same_cell}
use Rattle.repaint.proofs.Shows.{in_cell-shows}
use Rattle.repaint.proofs.Paintings.{paints-same, paints-both}

or_same : (p : Bool) → p ≡ (p || p)
or_same true = refl
or_same false = refl

one_cell :
    (v : View) (a b : Option ℕ) (row column : ℕ)
    → same_cell a b ≡ true
    → in_some_cell v a row column ≡ (in_some_cell v a row column || in_some_cell v b row column)
one_cell v None b row column e = absurd (true≢false (sym e))
one_cell v (Some x) None row column e = absurd (true≢false (sym e))
one_cell v (Some x) (Some y) row column e =
    or_same (in_cell v x row column) ∙ ap (λ (w : ℕ). in_cell v x row column || in_cell v w row column) (eqb-true x y e)

apart_cells :
    (v : View) (a b : Option ℕ) (row column : ℕ)
    → same_cell a b ≡ false
    → (in_some_cell v a row column && in_some_cell v b row column) ≡ false
apart_cells v None b row column e = refl
apart_cells v (Some x) None row column e = and-false (in_cell v x row column)
apart_cells v (Some x) (Some y) row column e =
    never _
    (λ h.
    let q = and_both (in_cell v x row column) (in_cell v y row column) h in
    let first = eqb-true (shown_word v row (column / 2)) x (sym (in_cell-shows v x row column) ∙ q.0) in
    let second = eqb-true (shown_word v row (column / 2)) y (sym (in_cell-shows v y row column) ∙ q.1) in
    eqb-false x y e (sym first ∙ second))

module _ (e : Fonts) (m : Memories) (look : Look) (a b : Option ℕ) (f : List ℕ) (size : length f ≡ 1024) where
  pub cells_as_one :
      (n : ℕ) (g : List ℕ)
      → same_cell a b ≡ true
      → painting n g ≡ paints_on wide (in_some_cell look.view a) (byte_at e m look) f
      → painting n g ≡ repaint wide e m look (Cells a b) f
  unfolding repainted count_named named covers
  cells_as_one n g s h =
      h ∙ paints-same 1024 (on wide (in_some_cell look.view a)) _ (on wide (byte_at e m look)) f size (λ i l. one_cell look.view a b (i / 32) (i % 32) s)

  pub cells_as_two :
      (n k : ℕ) (g h : List ℕ)
      → same_cell a b ≡ false
      → painting n g ≡ paints_on wide (in_some_cell look.view a) (byte_at e m look) f
      → painting k h ≡ paints_on wide (in_some_cell look.view b) (byte_at e m look) g
      → painting (n + k) h ≡ repaint wide e m look (Cells a b) f
  unfolding repainted count_named named covers
  cells_as_two n k g h s first second =
      paints-both 1024 (on wide (in_some_cell look.view a)) (on wide (in_some_cell look.view b)) (on wide (byte_at e m look)) f g h n k
      (λ i. apart_cells look.view a b (i / 32) (i % 32) s) first second
