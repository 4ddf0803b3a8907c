-- A painting is its count and its frame.
use Prim.Native.Nat.{ℕ}
use mathlib.Core.Path.{◌≡◌, ap, ap₂}
use mathlib.Core.List.{List}
use Rattle.repaint.specs.Repaint.{Painting, painting}

pub painting-both : {n k : ℕ} {f g : List ℕ} → n ≡ k → f ≡ g → painting n f ≡ painting k g
painting-both e h = ap₂ painting e h

pub painting-count : {p q : Painting} → p ≡ q → p.count ≡ q.count
painting-count e = ap (λ (p : Painting). p.count) e

pub painting-frame : {p q : Painting} → p ≡ q → p.frame ≡ q.frame
painting-frame e = ap (λ (p : Painting). p.frame) e
