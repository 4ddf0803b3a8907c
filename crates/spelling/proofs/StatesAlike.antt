-- Two states in range with equal bytes are equal: each part can be cut out of the bytes, and read back.
use Prim.Native.Nat.{ℕ}
use mathlib.Core.List.{List, ◌++◌}
use mathlib.Core.Path.{◌≡◌, refl, sym, ap, ◌∙◌}
use lib.ListN.{length, take, drop}
use lib.Seq.{take_at, drop_at}
use Rattle.controller.specs.declared.Control.{Control}
use Rattle.controller.specs.State.{InRange}
use Rattle.controller.specs.Memories.{memories}
use Rattle.links.specs.declared.Link.{Link}
use Rattle.calls.specs.State.{State, state, Valid}
use Rattle.state_bytes.specs.Packed.{unpacked, packed}
use Rattle.spelling.specs.Spelled.{state_bytes}
use Rattle.state_bytes.proofs.PackedUnpacked.{unpacked-packed}
use Rattle.state_bytes.proofs.LinkRead.{FourBits, links_alike}

controls-alike : (c d : Control) → InRange c → InRange d → packed c ≡ packed d → c ≡ d
controls-alike c d hc hd is = sym (unpacked-packed c hc) ∙ ap unpacked is ∙ unpacked-packed d hd

first_alike : (n : ℕ) (a b x y : List ℕ) → length a ≡ n → length b ≡ n → a ++ x ≡ b ++ y → a ≡ b
first_alike n a b x y ha hb is = sym (take_at a x n ha) ∙ ap (take n) is ∙ take_at b y n hb

rest-alike : (n : ℕ) (a b x y : List ℕ) → length a ≡ n → length b ≡ n → a ++ x ≡ b ++ y → x ≡ y
rest-alike n a b x y ha hb is = sym (drop_at a x n ha) ∙ ap (drop n) is ∙ drop_at b y n hb

same_parts : {a b x y g h : List ℕ} {c d : Control} {l k : Link} → a ≡ b → x ≡ y → g ≡ h → c ≡ d → l ≡ k
    → state (memories a x g) c l ≡ state (memories b y h) d k
same_parts text glyph graphic control link = cc

pub states-alike : (s t : State) → Valid s → Valid t → FourBits s.link → FourBits t.link → state_bytes s ≡ state_bytes t → s ≡ t
unfolding state_bytes packed
states-alike s t vs vt fs ft is =
    let after_text = rest-alike 128 s.memories.text t.memories.text _ _ vs.text vt.text is in
    let after-glyph = rest-alike 128 s.memories.glyph t.memories.glyph _ _ vs.glyph vt.glyph after_text in
    let after-graphic = rest-alike 2048 s.memories.graphic t.memories.graphic _ _ vs.graphic vt.graphic after-glyph in
    same_parts
    (first_alike 128 s.memories.text t.memories.text _ _ vs.text vt.text is)
    (first_alike 128 s.memories.glyph t.memories.glyph _ _ vs.glyph vt.glyph after_text)
    (first_alike 2048 s.memories.graphic t.memories.graphic _ _ vs.graphic vt.graphic after-glyph)
    (controls-alike s.control t.control vs.control vt.control (first_alike 27 (packed s.control) (packed t.control) _ _ refl refl after-graphic))
    (links_alike s.link t.link fs ft (rest-alike 27 (packed s.control) (packed t.control) _ _ refl refl after-graphic))
