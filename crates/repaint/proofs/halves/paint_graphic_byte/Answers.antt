-- The one byte, where it is visible.
use Rattle.std.proofs.Common.{arith}
use Rattle.picture.specs.Picture.{shown_at}
use Rattle.repaint.proofs.GraphicPlace.{graphic-one, graphic-none}
use Rattle.repaint.proofs.halves.paint_graphic_byte.Goals as goal

pub returns-then-row-lt32 : goal.returns-then-row-lt32
returns-then-row-lt32 c =
    let a = c.args in let p = c.requires in
    graphic-one a.scene.now.look.view a.y a.column p.0.scroll p.1 (shown_at a.scene.now) a.frame.now _ p.2 c.told-frame c.if-row-lt32.true
    (rw (c.byte_at.ensures, c.row_place.ensures))

pub returns : goal.returns
returns c =
    let a = c.args in let p = c.requires in
    graphic-none a.scene.now.look.view a.y a.column p.0.scroll p.1 (shown_at a.scene.now) _ c.told-frame (omega arith)
