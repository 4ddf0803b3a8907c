-- The dots of what the word shows, marked.
use Rattle.std.proofs.Common.{rules}
use Rattle.picture.proofs.Bytes.{word-inside}
use Rattle.tiles.proofs.Laid.{tile_marked}
use Rattle.tiles.proofs.marked_tile.Goals as goal

pub tile-tile-requires : goal.tile-tile-requires
tile-tile-requires c = rw c.word_content-shown.ensures (word-inside _ _ _ _)

pub returns : goal.returns
returns c =
    tile_marked c.args.scene.now c.args.word _ _ _ c.requires (rw c.word_content-shown.ensures at c.tile-tile.ensures)
    (search rules) c.mark_if.ensures
