-- A part of a list that is put back as other bytes, is painted.
use Prim.Native.Nat.{ℕ, ◌+◌, ◌-◌, ◌<◌, ◌≤◌}
use mathlib.Core.Path.{◌≡◌, refl, sym, ap, ◌∙◌}
use mathlib.Core.List.{List, ◌++◌}
use native.Mathlib.Omega.{arith}
use lib.ListN.{length, get_or, take, drop}
use lib.Dec.{ltb}
use lib.Seq.{length-take-le}
use borrow.Author.Tests.{ltb-true, ltb-false}
use borrow.Rule.Slice.PartMut.{put_mid, post_of, same_len_mid, mid_len}
use Rattle.std.proofs.lemmas.List.{get_or-take, get_or-drop, get_or_append_left, get_or-append_right}
use Rattle.base.specs.Painting.{painted, everywhere, between}
use Rattle.base.proofs.Choice.{by_test}
use Rattle.base.proofs.Tests.{never}
use Rattle.base.proofs.Lists.{is-upto}
use Rattle.base.proofs.Loops.{in_between, of-between}

pub part_painted : (a n : ℕ) (xs ys : List ℕ) → length ys ≡ n → a + n ≤ length xs
    → put_mid a (a + n - a) xs ys ≡ painted (between a (a + n) everywhere) (λ i. get_or ys (i - a) 0) xs
unfolding painted
part_painted a n xs ys k h =
    let z : a + n - a ≡ n = omega arith in
    is-upto (length xs) _ (put_mid a (a + n - a) xs ys) (same_len_mid a (a + n - a) xs ys (k ∙ sym z ∙ sym (mid_len a (a + n) xs h)))
    (λ i l. by_test (ltb i a)
    (λ t. let c : i < a = ltb-true i a t in
    let e = never (between a (a + n) everywhere i) (λ e. let q = in_between a (a + n) everywhere i e in omega arith) in
    rw e (get_or_append_left (take a xs) (ys ++ post_of a (a + n - a) xs) 0 i (rw (length-take-le a xs (omega arith)) c) ∙ get_or-take a xs i 0 c))
    (λ t. let c : a ≤ i = ltb-false i a t in
    get_or-append_right (take a xs) (ys ++ post_of a (a + n - a) xs) a i 0 (length-take-le a xs (omega arith)) c
    ∙ by_test (ltb i (a + n))
    (λ s. let d : i < a + n = ltb-true i (a + n) s in
    rw (of-between a (a + n) everywhere i c d refl) (get_or_append_left ys (post_of a (a + n - a) xs) 0 (i - a) (omega arith)))
    (λ s. let d : a + n ≤ i = ltb-false i (a + n) s in
    let e = never (between a (a + n) everywhere i) (λ e. let q = in_between a (a + n) everywhere i e in omega arith) in
    let j : a + (a + n - a + (i - a - n)) ≡ i = omega arith in
    rw e (get_or-append_right ys (post_of a (a + n - a) xs) n (i - a) 0 k (omega arith)
    ∙ get_or-drop (a + n - a) (drop a xs) (i - a - n) 0 ∙ get_or-drop a xs (a + n - a + (i - a - n)) 0 ∙ ap (λ (m : ℕ). get_or xs m 0) j))))
