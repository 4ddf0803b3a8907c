-- Tiles: two bytes to a row, from a block or from two columns.
use Prim.Native.Nat.{ℕ, ◌+◌, ◌*◌, ◌-◌, ◌/◌, ◌%◌, ◌<◌, ◌≤◌}
use mathlib.Core.Path.{◌≡◌, refl, sym, ap, ◌∙◌}
use mathlib.Core.Logic.{◌≢◌}
use mathlib.Core.Bool.{Bool, true, false}
use mathlib.Core.List.{List}
use native.Mathlib.Omega.{arith}
use lib.ListN.{length, get_or, set, take, drop, length-drop}
use lib.Seq.{length-take-le}
use Rattle.std.proofs.lemmas.List.{get_or-take, get_or-drop}
use borrow.Author.Tests.{eqb-true, eqb-false, eq-eqb, ne_eqb}
use Rattle.base.specs.Lists.{upto}
use Rattle.base.specs.Painting.{painted, everywhere, between}
use Rattle.base.proofs.Choice.{by_test}
use Rattle.base.proofs.Lists.{get_or-upto, is-upto, upto_cong, length-upto}
use Rattle.base.proofs.Loops.{in_between, paint_every}
use Rattle.base.proofs.Painting.{painted_cong}
use Rattle.base.proofs.Copies.{two_further}
use Rattle.controller.specs.Memories.{half}
use Rattle.glyph.specs.Dots.{dots_of}
use Rattle.glyph.specs.Tiles.{odd, tile_dots, beside}
use Rattle.glyph.specs.declared.Content.{Content}
use Rattle.glyph.specs.declared.Content.TheVariants.{Image, Full}

-- bytes that lie together
pub stretch : (from : List ℕ) (at n : ℕ) → at + n ≤ length from → take (at + n - at) (drop at from) ≡ upto n (λ i. get_or from (at + i) 0)
stretch from at n h =
    let k : at + n - at ≡ n = omega arith in
    rw k
    (is-upto n (λ i. get_or from (at + i) 0) (take n (drop at from)) (length-take-le n (drop at from) (rw length-drop (omega arith)))
    (λ i l. get_or-take n (drop at from) i 0 l ∙ get_or-drop at from i 0))

-- one row further
pub row-further : (left right f g : List ℕ) (y : ℕ) → 2 * y + 1 < length f → g ≡ painted (between 0 (2 * y) everywhere) (beside left right) f
    → set (set g (2 * y) (get_or left y 0)) (2 * y + 1) (get_or right y 0) ≡ painted (between 0 (2 * (y + 1)) everywhere) (beside left right) f
row-further left right f g y k c =
    let a : 2 * y / 2 ≡ y = omega arith in
    let b : (2 * y + 1) / 2 ≡ y = omega arith in
    two_further (beside left right) f g 0 (2 * y) (2 * (y + 1)) (omega arith) c _ _ k (omega arith)
    (rw (ne_eqb (2 * y % 2) 1 (λ e. omega arith), a))
    (rw (eq-eqb ((2 * y + 1) % 2) 1 (omega arith), b))

-- an odd place is the second of its word
half-odd : (j : ℕ) → half (odd j) ≡ j % 2
half-odd j =
    by_test (odd j)
    (λ t. let k : j % 2 ≡ 1 = eqb-true (j % 2) 1 t in rw (t, k))
    (λ t. let n : j % 2 ≢ 1 = eqb-false (j % 2) 1 t in let k : j % 2 ≡ 0 = omega arith in rw (t, k))

-- two columns side by side, each given by what stands on its rows
pub columns-laid : (to : ℕ) (f : List ℕ) (byte : ℕ → Bool → ℕ) → painted (between to (to + 32) everywhere) (λ k. beside (upto 16 (λ y. byte y false)) (upto 16 (λ y. byte y true)) (k - to)) f
    ≡ painted (between to (to + 32) everywhere) (λ k. byte ((k - to) / 2) (odd (k - to))) f
columns-laid to f byte =
    painted_cong _ _ _ _ f (λ i l. refl) (λ i l t. let q = in_between to (to + 32) everywhere i t in at (i - to) (omega arith))
  where
    at : (j : ℕ) → j < 32 → beside (upto 16 (λ y. byte y false)) (upto 16 (λ y. byte y true)) j ≡ byte (j / 2) (odd j)
    at j k =
        by_test (odd j)
        (λ e. rw e (get_or-upto 16 (λ y. byte y true) (j / 2) (omega arith)))
        (λ e. rw e (get_or-upto 16 (λ y. byte y false) (j / 2) (omega arith)))

-- a tile that is laid from its beginning is all of it
laid-whole : (b : ℕ → ℕ) (f : List ℕ) → length f ≡ 32 → upto 32 b ≡ painted (between 0 (0 + 32) everywhere) (λ k. b (k - 0)) f
laid-whole b f h =
    sym (paint_every b f _ 32 h refl)
    ∙ painted_cong _ _ b (λ k. b (k - 0)) f (λ i l. refl) (λ i l t. let k : i ≡ i - 0 = omega arith in ap b k)

columns : (byte : ℕ → Bool → ℕ) → upto 32 (beside (upto 16 (λ y. byte y false)) (upto 16 (λ y. byte y true))) ≡ upto 32 (λ j. byte (j / 2) (odd j))
columns byte =
    let blank : List ℕ = upto 32 (λ j. 0) in let h = length-upto 32 (λ j. 0) in
    laid-whole (beside (upto 16 (λ y. byte y false)) (upto 16 (λ y. byte y true))) blank h
    ∙ columns-laid 0 blank byte
    ∙ sym (laid-whole (λ j. byte (j / 2) (odd j)) blank h)

module _ (halves fulls glyph : List ℕ) where
  pub image_tile : (i : ℕ) → upto 32 (λ j. get_or glyph (32 * i + j) 0) ≡ upto 32 (tile_dots halves fulls glyph (Image i))
  unfolding dots_of
  image_tile i =
      upto_cong 32 (λ j. get_or glyph (32 * i + j) 0) (tile_dots halves fulls glyph (Image i))
      (λ j l. let h = half-odd j in let k : 32 * i + j ≡ 2 * (16 * i + j / 2) + half (odd j) = omega arith in ap (λ (k : ℕ). get_or glyph k 0) k)

  pub full-tile : (i : ℕ) → upto 32 (λ j. get_or fulls (32 * i + j) 0) ≡ upto 32 (tile_dots halves fulls glyph (Full i))
  unfolding dots_of
  full-tile i =
      upto_cong 32 (λ j. get_or fulls (32 * i + j) 0) (tile_dots halves fulls glyph (Full i))
      (λ j l. let h = half-odd j in let k : 32 * i + j ≡ 32 * i + 2 * (j / 2) + half (odd j) = omega arith in ap (λ (k : ℕ). get_or fulls k 0) k)

  pub columns-tile : (c : Content) → upto 32 (beside (upto 16 (λ y. dots_of halves fulls glyph c y false)) (upto 16 (λ y. dots_of halves fulls glyph c y true)))
      ≡ upto 32 (tile_dots halves fulls glyph c)
  columns-tile c = columns (dots_of halves fulls glyph c)
