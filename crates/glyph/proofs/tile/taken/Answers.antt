-- A part of what is lent.
use Rattle.std.proofs.Common.{◌∙◌}
use Rattle.glyph.proofs.Tiles.{stretch}
use Rattle.glyph.proofs.tile.taken.Goals as goal

pub returns : goal.returns
returns g c = c.copy_from_slice.ensures.after ∙ stretch c.args.from.now c.args.at g.row.N c.requires
