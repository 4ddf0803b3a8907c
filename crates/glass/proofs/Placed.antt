-- Each glass: the byte of every row and column has its place, and every place its byte; the two bytes of a cell's row lie side by side.
use Prim.Native.Nat.{ℕ, ◌+◌, ◌*◌, ◌/◌, ◌%◌, ◌<◌, ◌≤◌}
use mathlib.Core.Path.{◌≡◌, sym, ap₂, ◌∙◌}
use native.Mathlib.Omega.{arith}
use Rattle.base.specs.Layout.{Layout}
use Rattle.base.proofs.Layouts.{Placed}
use Rattle.glass.specs.declared.Glass.{Glass}
use Rattle.glass.specs.declared.Glass.TheVariants.{Wide, Folded}
use Rattle.glass.specs.Frames.{wide, folded, layout_of, OneToOne, Onto}
use Rattle.glass.specs.Places.{stride_of, place_on}

wide-placed : Placed wide 32 32 (place_on Wide)
wide-placed =
    record {
      inside = λ r c h k. omega arith;
      row-at = λ r c h k. omega arith;
      column-at = λ r c h k. omega arith;
      back = λ i h. omega arith;
      row_within = λ i h. omega arith;
      column-within = λ i h. omega arith;
    }

-- by the half q of the folded frame, and the column m in it
folded-row : (r q m : ℕ) → r < 32 → q < 2 → m < 16 → (16 * r + (512 * q + m)) / 16 % 32 ≡ r
folded-row r q m h k l = omega arith

folded-column : (r q m : ℕ) → r < 32 → q < 2 → m < 16 → (16 * r + (512 * q + m)) % 16 + 16 * ((16 * r + (512 * q + m)) / 16 / 32) ≡ m + 16 * q
folded-column r q m h k l =
    let a : (16 * r + (512 * q + m)) % 16 ≡ m = omega arith in
    let b : (16 * r + (512 * q + m)) / 16 ≡ r + 32 * q = omega arith in
    let d : (r + 32 * q) / 32 ≡ q = omega arith in
    rw (a, b, d)

folded_back : (i : ℕ) → place_on Folded (folded.row i) (folded.column i) ≡ i
folded_back i =
    let a : (i % 16 + 16 * (i / 16 / 32)) / 16 ≡ i / 16 / 32 = omega arith in
    let b : (i % 16 + 16 * (i / 16 / 32)) % 16 ≡ i % 16 = omega arith in
    rw (a, b) (whole i)
  where
    whole : (i : ℕ) → 16 * (i / 16 % 32) + (512 * (i / 16 / 32) + i % 16) ≡ i
    whole i = omega arith

folded-placed : Placed folded 32 32 (place_on Folded)
folded-placed =
    record {
      inside = λ r c h k. omega arith;
      row-at = λ r c h k. folded-row r (c / 16) (c % 16) h (omega arith) (omega arith);
      column-at = λ r c h k. folded-column r (c / 16) (c % 16) h (omega arith) (omega arith) ∙ (let e : c % 16 + 16 * (c / 16) ≡ c = omega arith in e);
      back = λ i h. folded_back i;
      row_within = λ i h. omega arith;
      column-within = λ i h. omega arith;
    }

pub placed : (g : Glass) → Placed (layout_of g) 32 32 (place_on g)
placed Wide = wide-placed
placed Folded = folded-placed

-- what has such places is one to one, and has every byte
module _ (l : Layout) (place : ℕ → ℕ → ℕ) (p : Placed l 32 32 place) where
  pub one-to-one : OneToOne l
  one-to-one =
      record {
        rows = p.row_within;
        columns = p.column-within;
        once = λ i j h k r c. sym (p.back i h) ∙ ap₂ place r c ∙ p.back j k;
      }

  pub onto : Onto l
  onto = record { place = place; inside = p.inside; row_at = p.row-at; column_at = p.column-at }

pub size_le : (g : Glass) → (layout_of g).size ≤ 1024
size_le Wide = omega arith
size_le Folded = omega arith

pub stride_le : (g : Glass) → stride_of g ≤ 32
stride_le Wide = omega arith
stride_le Folded = omega arith

-- the right byte of a cell's row is the left one's neighbour
pub beside : (g : Glass) (row cell : ℕ) → place_on g row (2 * cell + 1) ≡ place_on g row (2 * cell) + 1
beside Wide row cell = omega arith
beside Folded row cell = neighbours (16 * row) (2 * cell) (let e : 2 * cell % 2 ≡ 0 = omega arith in e)
  where
    neighbours : (n c : ℕ) → c % 2 ≡ 0 → n + (512 * ((c + 1) / 16) + (c + 1) % 16) ≡ n + (512 * (c / 16) + c % 16) + 1
    neighbours n c h = omega arith

pub pair_inside : (g : Glass) (row cell : ℕ) → row < 32 → cell < 16 → place_on g row (2 * cell) + 2 ≤ (layout_of g).size
pair_inside g row cell h k =
    let z = (placed g).inside row (2 * cell + 1) h (omega arith) in
    let e = beside g row cell in
    omega arith

-- the next row of a column
pub next_row : (g : Glass) (row column : ℕ) → place_on g (row + 1) column ≡ place_on g row column + stride_of g
next_row Wide row column = omega arith
next_row Folded row column = omega arith
