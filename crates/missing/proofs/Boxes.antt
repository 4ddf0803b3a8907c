-- The box lacks its code, and what is not the box lacks nothing.
use Rattle.std.proofs.Common.{◌≡◌, ℕ, None, Some, refl}
use Rattle.glyph.specs.declared.Content.{Content}
use Rattle.glyph.specs.declared.Content.TheVariants.{Image, Full, Halves, Missing, Blank}
use Rattle.missing.specs.Missing.{code_of, code_if_missing}

pub the_box : (lead trail : ℕ) → Some (code_of lead trail) ≡ code_if_missing Missing lead trail
unfolding code_if_missing
the_box lead trail = refl

pub none_but_the_box : (c : Content) (lead trail : ℕ) → (c ≡ Missing → ⊥) → None ≡ code_if_missing c lead trail
unfolding code_if_missing
none_but_the_box (Image i) lead trail t = refl
none_but_the_box (Full i) lead trail t = refl
none_but_the_box (Halves h l) lead trail t = refl
none_but_the_box Missing lead trail t = absurd (t refl)
none_but_the_box Blank lead trail t = refl
