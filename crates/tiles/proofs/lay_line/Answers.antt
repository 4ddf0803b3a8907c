-- The cells before it, one cell further, and all sixteen; then reversed.
use Rattle.std.proofs.Common.{◌≡◌, ◌*◌, ◌∙◌, arith}
use Rattle.base.specs.Painting.{everywhere}
use Rattle.base.specs.Lists.{upto}
use Rattle.base.proofs.Lists.{length-upto}
use Rattle.base.proofs.Loops.{paint_begin, paint_every}
use Rattle.picture.specs.Tiles.{line_word, marked_at}
use Rattle.tiles.proofs.Laid.{words_turn, line_reversed}
use Rattle.tiles.proofs.Parts.{part_painted}
use Rattle.tiles.proofs.lay_line.Goals as goal

pub loop-cell-init : goal.loop-cell-init
loop-cell-init c = paint_begin everywhere _ _ 0

pub loop-cell-preserved : goal.loop-cell-preserved
loop-cell-preserved c =
    let l = c.loop-cell in let s = c.args.scene.now in
    words_turn (λ cell. marked_at s (line_word s.look.view.shift c.args.line cell)) l.cell _ l.tiles _ l.invariant
    (rw (c.copy_from_slice.ensures.after ∙ c.marked_tile.ensures) (part_painted (32 * l.cell) 32 l.tiles (upto 32 _) (length-upto 32 _) (omega arith)))

pub returns : goal.returns
returns c =
    let l = c.loop-cell in let k : 32 * l.cell ≡ 512 = omega arith in
    line_reversed c.args.scene.now c.args.line _ _ (paint_every _ _ _ 512 (omega arith) (rw k at l.invariant)) c.invert_if.ensures
