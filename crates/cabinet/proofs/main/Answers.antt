-- The built-in font has a byte more than is lent.
use Rattle.std.proofs.Common.{◌≡◌, ℕ, List, length, take, sym, arith}
use Rattle.std.proofs.lemmas.List.{length-take-le}
use Rattle.cabinet.proofs.main.Goals as goal

lent : (l : List ℕ) → 2049 ≡ length l → 2048 ≡ length (take 2048 l)
lent l h = sym (length-take-le 2048 l (omega arith))

pub slice_bounds-lent-end : goal.slice_bounds-lent-end
slice_bounds-lent-end c = lent c.built_in-half.result c.built_in-half.ensures
