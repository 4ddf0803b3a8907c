-- Laws of the list given by what stands at each place: its length, its elements, and that these decide it.
use lib.Dec.{leb}
use borrow.Author.Tests.{leb-true, leb-false}
use mathlib.Core.Bool.{Bool, true, false}
use Prim.Native.Nat.{ℕ, zero, suc, ◌+◌, ◌<◌, min}
use mathlib.Core.Path.{◌≡◌, refl, sym, ap, ◌∙◌, subst}
use mathlib.Core.List.{List, [], ◌∷◌, ◌++◌}
use native.Mathlib.Nat.{add-zero, not-suc-le-zero, le_of_suc-le-suc, min-eq_left, min-eq_right, le_of_lt}
use native.Mathlib.Omega.{arith}
use lib.ListN.{length, get_or, set, drop, drop_of_length-le}
use lib.Seq.{ext_get_or, drop-length, sets}
use Rattle.base.specs.Lists.{upto}

pub length-upto : (n : ℕ) (f : ℕ → ℕ) → length (upto n f) ≡ n
unfolding upto
length-upto zero f = refl
length-upto (suc n) f = ap suc (length-upto n (λ i. f (suc i)))

pub get_or-upto : (n : ℕ) (f : ℕ → ℕ) (i : ℕ) → i < n → get_or (upto n f) i 0 ≡ f i
unfolding upto
get_or-upto zero f i h = absurd (not-suc-le-zero h)
get_or-upto (suc n) f zero h = refl
get_or-upto (suc n) f (suc i) h = get_or-upto n (λ i. f (suc i)) i (le_of_suc-le-suc h)

-- a list that has the length and the elements is the list
pub is-upto : (n : ℕ) (f : ℕ → ℕ) (l : List ℕ) → length l ≡ n → ((i : ℕ) → i < n → get_or l i 0 ≡ f i) → l ≡ upto n f
is-upto n f l e g =
    ext_get_or 0 l (upto n f) (e ∙ sym (length-upto n f))
    (λ i h. let k : i < n = subst (λ (m : ℕ). i < m) e h in g i k ∙ sym (get_or-upto n f i k))

-- two such lists with equal elements are equal
pub upto_cong : (n : ℕ) (f g : ℕ → ℕ) → ((i : ℕ) → i < n → f i ≡ g i) → upto n f ≡ upto n g
upto_cong n f g e = is-upto n g (upto n f) (length-upto n f) (λ i h. get_or-upto n f i h ∙ e i h)

-- to drop more than there is, is to drop all there is
pub drop_min : {A : Type 0} (n : ℕ) (s : List A) → drop (min n (length s)) s ≡ drop n s
drop_min {A} n s = by (leb n (length s)) refl
  where
    by : (t : Bool) → leb n (length s) ≡ t → drop (min n (length s)) s ≡ drop n s
    by true e = rw (min-eq_left (leb-true n (length s) e))
    by false e =
        rw (min-eq_right (le_of_lt (leb-false n (length s) e))) (drop-length s ∙ sym (drop_of_length-le s (le_of_lt (leb-false n (length s) e))))

-- to store one run after another is to store the two as one
pub sets_append : {A : Type 0} (l : List A) (i : ℕ) (a b : List A) → sets l i (a ++ b) ≡ sets (sets l i a) (i + length a) b
sets_append l i [] b = ap (λ (k : ℕ). sets l k b) (sym (add-zero i))
sets_append l i (x ∷ a) b =
    let e : suc i + length a ≡ i + length (x ∷ a) = omega arith in
    sets_append (set l i x) (suc i) a b ∙ ap (λ (k : ℕ). sets (sets (set l i x) (suc i) a) k b) e
