-- Laws of painting, over any frame, set of places and bytes: each by what stands at each place.
use Prim.Native.Nat.{ℕ, ◌<◌}
use mathlib.Core.Path.{◌≡◌, refl, sym, ap, ◌∙◌, subst}
use mathlib.Core.Bool.{Bool, true, false, ◌||◌}
use mathlib.Core.List.{List}
use lib.ListN.{length, get_or, set, length-set}
use lib.Seq.{get_or-set_same, get_or-set_other}
use lib.Dec.{eqb}
use borrow.Author.Tests.{eqb-true, eqb-false}
use Rattle.base.specs.Choice.{when◌then◌else◌}
use Rattle.base.specs.Lists.{upto}
use Rattle.base.specs.Painting.{painted}
use Rattle.base.proofs.Lists.{length-upto, get_or-upto, is-upto}

module _ (P : ℕ → Bool) (b : ℕ → ℕ) where
  pub painted-length : (f : List ℕ) → length (painted P b f) ≡ length f
  unfolding painted
  painted-length f = length-upto (length f) _

  pub painted-at : (f : List ℕ) (i : ℕ) → i < length f → get_or (painted P b f) i 0 ≡ (when P i then b i else get_or f i 0)
  unfolding painted
  painted-at f i h = get_or-upto (length f) _ i h

  -- a named byte is the new one, any other is kept
  pub painted-named : (f : List ℕ) (i : ℕ) → i < length f → P i ≡ true → get_or (painted P b f) i 0 ≡ b i
  painted-named f i h e = painted-at f i h ∙ rw e

  pub painted-other : (f : List ℕ) (i : ℕ) → i < length f → P i ≡ false → get_or (painted P b f) i 0 ≡ get_or f i 0
  painted-other f i h e = painted-at f i h ∙ rw e

  -- a list that has the painted bytes is the painted frame
  pub is-painted : (f l : List ℕ) → length l ≡ length f → ((i : ℕ) → i < length f → get_or l i 0 ≡ (when P i then b i else get_or f i 0)) → l ≡ painted P b f
  unfolding painted
  is-painted f l e g = is-upto (length f) _ l e g

-- a painted frame keeps its length
pub as_long : (P : ℕ → Bool) (b : ℕ → ℕ) (f g : List ℕ) → g ≡ painted P b f → length g ≡ length f
as_long P b f g e = ap length e ∙ painted-length P b f

-- the same places, with the same bytes where they are named
pub painted_cong : (P Q : ℕ → Bool) (b d : ℕ → ℕ) (f : List ℕ) → ((i : ℕ) → i < length f → P i ≡ Q i) → ((i : ℕ) → i < length f → P i ≡ true → b i ≡ d i)
    → painted P b f ≡ painted Q d f
painted_cong P Q b d f e g =
    is-painted Q d f (painted P b f) (painted-length P b f)
    (λ i h. painted-at P b f i h ∙ choice (P i) (get_or f i 0) (g i h) ∙ ap (λ (t : Bool). when t then d i else get_or f i 0) (e i h))
  where
    choice : (t : Bool) {x y : ℕ} (z : ℕ) → (t ≡ true → x ≡ y) → (when t then x else z) ≡ (when t then y else z)
    choice true z h = h refl
    choice false z h = refl

-- the same places
pub painted_same : (P Q : ℕ → Bool) (b : ℕ → ℕ) (f : List ℕ) → ((i : ℕ) → i < length f → P i ≡ Q i) → painted P b f ≡ painted Q b f
painted_same P Q b f e = painted_cong P Q b b f e (λ i h t. refl)

pub painted-none : (P : ℕ → Bool) (b : ℕ → ℕ) (f : List ℕ) → ((i : ℕ) → i < length f → P i ≡ false) → painted P b f ≡ f
painted-none P b f e = sym (is-painted P b f f refl (λ i h. rw (e i h)))

-- one place painted is one byte stored
pub painted-one : (a : ℕ) (b : ℕ → ℕ) (f : List ℕ) → a < length f → set f a (b a) ≡ painted (λ i. eqb i a) b f
painted-one a b f l = is-painted (λ i. eqb i a) b f (set f a (b a)) (length-set f a (b a)) (λ i h. by i (eqb i a) refl)
  where
    by : (i : ℕ) (t : Bool) → eqb i a ≡ t → get_or (set f a (b a)) i 0 ≡ (when t then b i else get_or f i 0)
    by i true e = rw (eqb-true i a e) (get_or-set_same f a (b a) 0 l)
    by i false e = get_or-set_other f a i (b a) 0 (eqb-false i a e)

-- painting P and then Q, with the same bytes, is painting the places of either
pub painted_or : (P Q : ℕ → Bool) (b : ℕ → ℕ) (f : List ℕ) → painted Q b (painted P b f) ≡ painted (λ i. P i || Q i) b f
painted_or P Q b f =
    is-painted (λ i. P i || Q i) b f (painted Q b (painted P b f)) (painted-length Q b (painted P b f) ∙ painted-length P b f)
    (λ i h. let l : i < length (painted P b f) = subst (λ (n : ℕ). i < n) (sym (painted-length P b f)) h in
    painted-at Q b (painted P b f) i l ∙ ap (λ (z : ℕ). when Q i then b i else z) (painted-at P b f i h) ∙ by (P i) (Q i) (b i) (get_or f i 0))
  where
    by : (p q : Bool) (x y : ℕ) → (when q then x else when p then x else y) ≡ (when p || q then x else y)
    by true true x y = refl
    by true false x y = refl
    by false q x y = refl

-- painting the same places twice: the second bytes stay
pub painted-twice : (P : ℕ → Bool) (b d : ℕ → ℕ) (f : List ℕ) → painted P d (painted P b f) ≡ painted P d f
painted-twice P b d f =
    is-painted P d f (painted P d (painted P b f)) (painted-length P d (painted P b f) ∙ painted-length P b f)
    (λ i h. let l : i < length (painted P b f) = subst (λ (n : ℕ). i < n) (sym (painted-length P b f)) h in
    painted-at P d (painted P b f) i l ∙ ap (λ (z : ℕ). when P i then d i else z) (painted-at P b f i h) ∙ by (P i) (d i) (b i) (get_or f i 0))
  where
    by : (p : Bool) (x y z : ℕ) → (when p then x else when p then y else z) ≡ (when p then x else z)
    by true x y z = refl
    by false x y z = refl

-- painting every place
pub painted-all : (P : ℕ → Bool) (b : ℕ → ℕ) (n : ℕ) (f : List ℕ) → length f ≡ n → ((i : ℕ) → i < n → P i ≡ true) → painted P b f ≡ upto n b
painted-all P b n f e g =
    is-upto n b (painted P b f) (painted-length P b f ∙ e)
    (λ i h. let l : i < length f = subst (λ (m : ℕ). i < m) (sym e) h in painted-named P b f i l (g i h))

-- a frame that held the old bytes holds the new ones, if those that are not named are the old ones
pub painted_old : (P : ℕ → Bool) (b old : ℕ → ℕ) (n : ℕ) → ((i : ℕ) → i < n → P i ≡ false → b i ≡ old i) → painted P b (upto n old) ≡ upto n b
painted_old P b old n e =
    is-upto n b (painted P b (upto n old)) (painted-length P b (upto n old) ∙ length-upto n old)
    (λ i h. let l : i < length (upto n old) = subst (λ (m : ℕ). i < m) (sym (length-upto n old)) h in
    painted-at P b (upto n old) i l ∙ by (P i) (λ u. e i h u ∙ sym (get_or-upto n old i h)))
  where
    by : (p : Bool) {x y : ℕ} → (p ≡ false → x ≡ y) → (when p then x else y) ≡ x
    by true h = refl
    by false h = sym (h refl)

-- painting with what is there changes nothing
pub painted-kept : (P : ℕ → Bool) (f : List ℕ) → f ≡ painted P (λ i. get_or f i 0) f
painted-kept P f = is-painted P (λ i. get_or f i 0) f f refl (λ i l. by (P i))
  where
    by : (t : Bool) {x : ℕ} → x ≡ (when t then x else x)
    by true = refl
    by false = refl

-- a list given by its bytes, painted
pub painted_upto : (P : ℕ → Bool) (b f : ℕ → ℕ) (n : ℕ) → painted P b (upto n f) ≡ upto n (λ i. when P i then b i else f i)
painted_upto P b f n =
    is-upto n _ (painted P b (upto n f)) (painted-length P b (upto n f) ∙ length-upto n f)
    (λ i l. painted-at P b (upto n f) i (rw (length-upto n f) l) ∙ ap (λ (x : ℕ). when P i then b i else x) (get_or-upto n f i l))
