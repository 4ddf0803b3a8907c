-- The rows of its line, where it shows.
use Rattle.std.proofs.Common.{◌/◌, sym, ◌∙◌, arith}
use Rattle.std.proofs.lemmas.Bool.{not-true}
use Rattle.std.proofs.lemmas.Map.Keys.{ge_from_not_lt}
use Rattle.picture.specs.Picture.{fonts_in, memories_in, shown_at}
use Rattle.repaint.proofs.CellTurns.{runs, word_hidden, word-painted}
use Rattle.repaint.proofs.cells.paint_word.Goals as goal

pub returns-then-is_empty : goal.returns-then-is_empty
returns-then-is_empty c =
    let a = c.args in let n = a.scene.now in let p = c.requires in
    word_hidden (fonts_in n) (memories_in n) n.look a.word p.0 p.1 a.frame.now c.told-frame (shown_at n)
    (rw (c.run-run.ensures.first, c.run-run.ensures.end) at (ge_from_not_lt c.run-run.result.start c.run-run.result.end (not-true _ (sym c.is_empty.ensures ∙ c.if-is_empty.true))))

pub paint_rows-requires : goal.paint_rows-requires
paint_rows-requires c =
    let a = c.args in let v = a.scene.now.look.view in let p = c.requires in let l = p.1 in
    let n = runs v.scroll (a.word / 16) 0 p.0.scroll (omega arith) (omega arith) in let x = c.run-run.ensures.first in let y = c.run-run.ensures.end in
    (omega arith, omega arith, omega arith)

pub returns : goal.returns
returns c =
    let a = c.args in let n = a.scene.now in let p = c.requires in
    word-painted (fonts_in n) (memories_in n) n.look a.word p.0 p.1 a.frame.now c.told-frame _ _ _
    c.word_tile-tile.ensures (rw (c.run-run.ensures.first, c.run-run.ensures.end) at c.paint_rows.ensures)
