-- Document 01, "Captures": a part of the caller's own capture is known by where it lies and by its bytes.
use Rattle.std.specs.Prelude.{ℕ, ◌+◌, List, drop}
use Rattle.std.specs.Borrow.{Bor}

-- a place is a block of memory and an offset in it
pub record Part : Type 0 where
  pub place : ℕ × ℕ
  pub bytes : List ℕ

-- a lent slice
abbrev pub lent : Bor (List ℕ) → Part
lent s = record { place = s.ref_ptr; bytes = s.now }

-- a lent slice from its byte n on
abbrev pub from : ℕ → Bor (List ℕ) → Part
from n s = record { place = (s.ref_ptr.0, n + s.ref_ptr.1); bytes = drop n s.now }
