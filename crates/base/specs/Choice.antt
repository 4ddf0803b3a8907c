-- A choice by a test.
use Rattle.std.specs.Prelude.{Bool, true, false}

infixr 10 when◌then◌else◌
abbrev pub when◌then◌else◌ : {A : Type 0} → Bool → A → A → A
when◌then◌else◌ true a b = a
when◌then◌else◌ false a b = b
