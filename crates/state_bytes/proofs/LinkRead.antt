-- A link whose open half byte has four bits is read back from its ten bytes, so two such links with equal bytes are equal.
use Prim.Native.Nat.{ℕ, ◌/◌, ◌<◌}
use Prim.{Unit}
use mathlib.Core.Bool.{true, false}
use mathlib.Core.Path.{◌≡◌, refl, sym, ap, ◌∙◌}
use native.Mathlib.Omega.{arith}
use Rattle.base.specs.Bits.{raised}
use Rattle.links.specs.declared.Pairing.TheVariants.{Empty, Upper, Lower}
use Rattle.serial.specs.declared.Header.TheVariants.{Begun, WithRead, WithRegister}
use Rattle.serial.specs.declared.Sync.TheVariants.{Lost, Body}
use Rattle.serial.specs.declared.Receiver.TheVariants.{Inside, Outside}
use Rattle.links.specs.declared.Link.{Link}
use Rattle.links.specs.declared.Link.TheVariants.{Parallel, Serial}
use Rattle.state_bytes.specs.LinkPacked.{link_packed, receiver_from, unpacked_link}

-- an open half byte is four bits
abbrev pub FourBits : Link → Type 0
FourBits (Parallel Empty) = Unit {0}
FourBits (Parallel (Upper register upper)) = upper < 16
FourBits (Parallel (Lower register lower)) = lower < 16
FourBits (Serial receiver) = Unit {0}

half-read : (n : ℕ) → n < 16 → raised n / 16 ≡ n
half-read n h = omega arith

pub unpacked-link-packed : (l : Link) → FourBits l → unpacked_link (link_packed l) ≡ l
unfolding unpacked_link receiver_from
unpacked-link-packed (Parallel Empty) h = refl
unpacked-link-packed (Parallel (Upper false upper)) h = rw (half-read upper h)
unpacked-link-packed (Parallel (Upper true upper)) h = rw (half-read upper h)
unpacked-link-packed (Parallel (Lower false lower)) h = rw (half-read lower h)
unpacked-link-packed (Parallel (Lower true lower)) h = rw (half-read lower h)
unpacked-link-packed (Serial (Outside run Lost)) h = refl
unpacked-link-packed (Serial (Outside run (Body false seen byte))) h = refl
unpacked-link-packed (Serial (Outside run (Body true seen byte))) h = refl
unpacked-link-packed (Serial (Inside Begun)) h = refl
unpacked-link-packed (Serial (Inside (WithRead false))) h = refl
unpacked-link-packed (Serial (Inside (WithRead true))) h = refl
unpacked-link-packed (Serial (Inside (WithRegister false false))) h = refl
unpacked-link-packed (Serial (Inside (WithRegister false true))) h = refl
unpacked-link-packed (Serial (Inside (WithRegister true false))) h = refl
unpacked-link-packed (Serial (Inside (WithRegister true true))) h = refl

pub links_alike : (l k : Link) → FourBits l → FourBits k → link_packed l ≡ link_packed k → l ≡ k
links_alike l k hl hk is = sym (unpacked-link-packed l hl) ∙ ap unpacked_link is ∙ unpacked-link-packed k hk
