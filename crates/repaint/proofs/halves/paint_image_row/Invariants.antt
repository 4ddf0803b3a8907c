-- Cell by cell.
use Rattle.std.proofs.Common.{◌≡◌, ◌+◌, ◌*◌}
use Rattle.base.specs.Layout.{rows, columns}
use Rattle.controller.specs.Named.{shows_glyph}
use Rattle.picture.specs.Picture.{byte_over, wide}
use Rattle.repaint.specs.Repaint.{painting, paints_on}
use Rattle.repaint.proofs.halves.paint_image_row.Given as goal

abbrev pub invariant-loop-cell : goal.invariant-loop-cell
invariant-loop-cell l = painting l.count l.frame ≡ paints_on wide (columns 0 (2 * l.cell) (rows l.row (l.row + 1) (shows_glyph l.scene.look.view l.scene.text.now l.part.word l.part.low))) (byte_over l.part.dots l.scene.graphic.now l.scene.look) l.initial.frame
