-- The marked tile, reversed with its line.
use Rattle.tiles.proofs.Laid.{tile_reversed}
use Rattle.tiles.proofs.word_tile.Goals as goal

pub returns : goal.returns
returns c = tile_reversed c.args.scene.now c.args.word _ _ c.marked_tile-tile.ensures c.invert_if.ensures
