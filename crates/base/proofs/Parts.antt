-- A part of a list, lent and put back.
use Prim.Native.Nat.{ℕ, ◌+◌, ◌-◌, ◌<◌, ◌≤◌}
use mathlib.Core.Path.{◌≡◌, sym, ap, ◌∙◌}
use mathlib.Core.List.{List, [], ◌∷◌, ◌++◌}
use native.Mathlib.Nat.{add-zero, zero-add, suc-add}
use native.Mathlib.Omega.{arith}
use lib.ListN.{length, take, drop, set, length-set, length-take, length-drop}
use lib.Seq.{set-append_left, length-take-le}
use borrow.Rule.Slice.PartMut.{put_mid, post_of, set_mid_at}

set_append_add : (xs ys : List ℕ) (i v : ℕ) → set (xs ++ ys) (length xs + i) v ≡ xs ++ set ys i v
set_append_add [] ys i v = rw zero-add
set_append_add (x ∷ xs) ys i v = rw (suc-add (length xs) i) (ap (λ (l : List ℕ). x ∷ l) (set_append_add xs ys i v))

-- a byte stored in a part before it is put back is stored in the whole
pub put_set : (a k j : ℕ) (xs ys : List ℕ) (v : ℕ) → a ≤ length xs → j < length ys → put_mid a k xs (set ys j v) ≡ set (put_mid a k xs ys) (a + j) v
put_set a k j xs ys v h l =
    ap (λ (z : List ℕ). take a xs ++ z) (sym (set-append_left ys (post_of a k xs) j v l))
    ∙ sym (set_append_add (take a xs) (ys ++ post_of a k xs) j v)
    ∙ ap (λ (n : ℕ). set (put_mid a k xs ys) (n + j) v) (length-take-le a xs h)

-- a part of two has two
pub mid_two : (a : ℕ) (xs : List ℕ) → a + 2 ≤ length xs → length (take (a + 2 - a) (drop a xs)) ≡ 2
mid_two a xs h = simp (length-take, length-drop) (omega arith)

-- two neighbours stored in a part of two
pub put_pair : (a : ℕ) (xs : List ℕ) (x y : ℕ) → a + 2 ≤ length xs
    → put_mid a (a + 2 - a) xs (set (set (take (a + 2 - a) (drop a xs)) 0 x) 1 y) ≡ set (set xs a x) (a + 1) y
put_pair a xs x y h =
    let q = mid_two a xs h in
    put_set a (a + 2 - a) 1 xs (set (take (a + 2 - a) (drop a xs)) 0 x) y (omega arith) (rw length-set (omega arith))
    ∙ ap (λ (l : List ℕ). set l (a + 1) y) (set_mid_at a (a + 2 - a) 0 xs x (omega arith) ∙ ap (λ (n : ℕ). set xs n x) (add-zero a))
