-- A list given by what stands at each of its places.
use Rattle.std.specs.Prelude.{ℕ, zero, suc, List, [], ◌∷◌}

-- the list f 0, .., f (n - 1)
unfoldable pub upto : ℕ → (ℕ → ℕ) → List ℕ
upto zero f = []
upto (suc n) f = f 0 ∷ upto n (λ i. f (suc i))
