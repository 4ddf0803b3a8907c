-- The rule of the lookup, computed once over all of it.
use Prim.Native.Nat.{ℕ, ◌/◌, ◌%◌, ◌<◌}
use mathlib.Core.Bool.{Bool}
use mathlib.Core.Path.{◌≡◌, sym, ap, ◌∙◌}
use native.Mathlib.Omega.{arith}
use lib.Dec.{eqb, eqb→eq}
use lib.ListN.{get_or}
use Rattle.glass.specs.declared.Glass.TheVariants.{Folded}
use Rattle.glass.specs.Frames.{folded, wide_place}
use Rattle.glass.specs.Places.{place_on}
use Rattle.glass.proofs.Tables.{at}
use Rattle.glass.proofs.Natives.{natives}

-- an entry is the wide place of its row and column
abbrev rule : ℕ → ℕ → Bool
rule i x = eqb x (wide_place folded i)

-- and leads back to its own place, which no other entry does
abbrev folded_of : ℕ → ℕ
folded_of place = place_on Folded (place / 32) (place % 32)

abbrev back : ℕ → ℕ → Bool
back i x = eqb (folded_of x) i

pub native_at : (i : ℕ) → i < 1024 → get_or natives i 0 ≡ wide_place folded i
unfolding natives
native_at i h = eqb→eq (get_or natives i 0) (wide_place folded i) (at rule natives tt i h)

pub native_back : (i : ℕ) → i < 1024 → folded_of (get_or natives i 0) ≡ i
unfolding natives
native_back i h = eqb→eq (folded_of (get_or natives i 0)) i (at back natives tt i h)

-- each place occurs once
pub native_once : (i j : ℕ) → i < 1024 → j < 1024 → get_or natives i 0 ≡ get_or natives j 0 → i ≡ j
native_once i j h k e = sym (native_back i h) ∙ ap folded_of e ∙ native_back j k

pub native_inside : (i : ℕ) → i < 1024 → get_or natives i 0 < 1024
native_inside i h = rw (native_at i h) (omega arith)
