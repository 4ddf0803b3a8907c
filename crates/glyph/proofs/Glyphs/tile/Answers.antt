-- By what is shown.
use Rattle.std.proofs.Common.{◌∙◌}
use Rattle.base.specs.Lists.{upto}
use Rattle.glyph.specs.Dots.{box_byte, dots_of}
use Rattle.glyph.specs.declared.Content.TheVariants.{Halves, Missing}
use Rattle.glyph.proofs.Tiles.{image_tile, full-tile, columns-tile}
use Rattle.glyph.proofs.Glyphs.tile.Goals as goal

pub returns-in-Image : goal.returns-in-Image
returns-in-Image c = let g = c.args.self.now in rw c.in-Image.is (c.taken.ensures ∙ image_tile g.half.now g.full.now g.memory.now _)

pub returns-in-Full : goal.returns-in-Full
returns-in-Full c = let g = c.args.self.now in rw c.in-Full.is (c.taken-in-Full.ensures ∙ full-tile g.half.now g.full.now g.memory.now _)

pub returns-in-Halves : goal.returns-in-Halves
unfolding dots_of
returns-in-Halves c =
    let g = c.args.self.now in
    rw c.in-Halves.is (c.beside.ensures ∙ rw (c.column.ensures, c.column-in-Halves.ensures) (columns-tile g.half.now g.full.now g.memory.now (Halves c.in-Halves.high c.in-Halves.low)))

pub returns-in-Missing : goal.returns-in-Missing
unfolding dots_of box_byte
returns-in-Missing c =
    let g = c.args.self.now in
    rw c.in-Missing.is (c.beside-in-Missing.ensures ∙ rw (c.box_column.ensures, c.box_column-in-Missing.ensures) (columns-tile g.half.now g.full.now g.memory.now Missing))

pub returns-in-Blank : goal.returns-in-Blank
unfolding dots_of upto
returns-in-Blank c = rw c.in-Blank.is
