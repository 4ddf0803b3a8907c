-- Dark, or band by band from the first row to the last.
use Rattle.std.proofs.Common.{◌≡◌, ◌∙◌, arith}
use Rattle.picture.specs.Picture.{byte_at, picture}
use Rattle.tiles.proofs.Laid.{dark-filled}
use Rattle.picture.proofs.Wide.{bands_begin, bands_turn, bands_end}
use Rattle.drawing.proofs.whole.paint_whole.Goals as goal

pub returns-then-scene : goal.returns-then-scene
returns-then-scene c = c.fill.ensures.after (λ y e. e) ∙ dark-filled _ _ _ _ c.if-scene.true (omega arith)

pub loop-row-init : goal.loop-row-init
loop-row-init c = (omega arith, bands_begin (byte_at _ _ _) _)

pub loop-row-smaller : goal.loop-row-smaller
loop-row-smaller c = let e = c.paint_band-row.ensures.within in omega arith

pub loop-row-preserved : goal.loop-row-preserved
loop-row-preserved c =
    let l = c.loop-row in let e = c.paint_band-row.ensures in
    (e.within.1, (bands_turn (byte_at _ _ _) l.row _ _ l.frame _ e.within.0 l.invariant.1 e.frame_after).1)

pub returns : goal.returns
unfolding picture
returns c =
    let l = c.loop-row in let k : l.row ≡ 32 = omega arith in bands_end (byte_at _ _ _) _ _ _ k (omega arith) l.invariant.1
