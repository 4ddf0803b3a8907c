-- The glasses by number, as other languages name them.
use Rattle.std.specs.Prelude.{ℕ, Option, Some, None, eqb}
use Rattle.base.specs.Choice.{when◌then◌else◌}
use Rattle.glass.specs.declared.Glass.{Glass}
use Rattle.glass.specs.declared.Glass.TheVariants.{Wide, Folded}

-- 0 is wide and 1 is folded; there is no other
abbrev pub numbered : ℕ → Option Glass
numbered n = when eqb n 0 then Some Wide else when eqb n 1 then Some Folded else None

-- what a call does on the glass of a number, and what it does where there is none
abbrev pub on_glass : {A : Type 0} → Option Glass → (Glass → A) → A → A
on_glass None call other = other
on_glass (Some g) call other = call g
