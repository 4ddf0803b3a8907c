-- Document 01, "Refusal numbers", and request K3: 1 to 3, of the lengths that a call is lent; and drawing afresh, which has no others.
use Rattle.std.specs.Prelude.{ℕ, ◌%◌, not, ◌||◌, List, ◌≡◌, length, eqb, ltb}
use Rattle.base.specs.Choice.{when◌then◌else◌}
use Rattle.controller.specs.declared.Control.{Control}
use Rattle.controller.specs.Memories.{Memories}
use Rattle.picture.specs.Picture.{Seen, pictured}

-- 1: frame not 1,024 bytes; 2: half font not 2,048 bytes; 3: full font not a multiple of 32, or over 281,600; 0: accepted
unfoldable pub refusal_of : ℕ → ℕ → ℕ → ℕ
refusal_of frame half full =
    when not (eqb frame 1024) then 1
    else when not (eqb half 2048) then 2
    else when not (eqb (full % 32) 0) || ltb 281600 full then 3
    else 0

-- the number of what a call is lent
abbrev pub lent_refusal : Seen → List ℕ → ℕ
lent_refusal e frame = refusal_of (length frame) (length e.fonts.half) (length e.fonts.full)

-- frame and fonts have the lengths that refusals 1, 2 and 3 ask for
abbrev pub Fits : Seen → List ℕ → Type 0
Fits e frame = lent_refusal e frame ≡ 0

-- what a drawing leaves: its number and the frame
pub record Drawn : Type 0 where
  pub number : ℕ
  pub frame : List ℕ

abbrev pub drawing : ℕ → List ℕ → Drawn
drawing number frame = record { number = number; frame = frame }

-- a refusal returns its number and changes no buffer; an accepted call answers 0, and the frame is the picture
unfoldable pub drawn : Seen → Memories → Control → List ℕ → Drawn
drawn e m c frame = when eqb (lent_refusal e frame) 0 then drawing 0 (pictured e m c) else drawing (lent_refusal e frame) frame
