-- Drawing from the bytes of a state draws the state.
use Prim.Native.Nat.{ℕ}
use mathlib.Core.List.{List}
use mathlib.Core.Path.{◌≡◌, ap}
use Rattle.controller.specs.declared.Control.{Control}
use Rattle.controller.specs.Memories.{Memories}
use Rattle.controller.specs.State.{InRange}
use Rattle.picture.specs.Picture.{Seen}
use Rattle.picture.specs.Refusals.{drawn}
use Rattle.state_bytes.specs.Packed.{unpacked, packed}
use Rattle.state_bytes.proofs.PackedUnpacked.{unpacked-packed}

pub drawn-from-bytes : (e : Seen) (m : Memories) (c : Control) (frame : List ℕ) → InRange c → drawn e m (unpacked (packed c)) frame ≡ drawn e m c frame
drawn-from-bytes e m c frame r = ap (λ (d : Control). drawn e m d frame) (unpacked-packed c r)
