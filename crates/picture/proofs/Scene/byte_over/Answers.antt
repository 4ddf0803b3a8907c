-- The dots marked, inverted and overlaid.
use Rattle.std.proofs.Common.{rules}
use Rattle.picture.proofs.Bytes.{over_dots}
use Rattle.picture.proofs.Scene.byte_over.Goals as goal

pub returns : goal.returns
returns c =
    let a = c.args.self.now in
    over_dots a.look c.args.row c.args.column a.graphic.now _ _ _ c.args.dots _ _ _ _ c.shown_row-s.ensures.value c.shown_word.ensures.value c.counter_word.ensures
    (search rules) c.mark-marked.ensures c.invert.ensures c.if-look.false (rw c.row_place-place.ensures at c.overlay.ensures)
