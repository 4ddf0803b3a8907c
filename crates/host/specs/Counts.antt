-- Counts of bytes.
use Rattle.std.specs.Prelude.{◌≡◌, ℕ, ◌≤◌, List, length, take}

-- A buffer has so many bytes and more, and so its first n are n.
abbrev pub IsPrefixLen : ℕ → List ℕ → Type 0
IsPrefixLen n buffer = (n ≤ length buffer) × (n ≡ length (take n buffer))
