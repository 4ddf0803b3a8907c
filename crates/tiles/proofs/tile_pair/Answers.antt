-- Both bytes lit.
use Rattle.std.proofs.Common.{ap₂, ◌∙◌}
use Rattle.tiles.proofs.Laid.{pair_of, pair-shown-by}
use Rattle.tiles.proofs.tile_pair.Goals as goal

pub returns : goal.returns
returns c =
    let a = c.args in
    ap₂ pair_of c.lit.ensures c.lit-2.ensures
    ∙ rw (c.row_place-place.ensures, c.shown_row-s.ensures.value) (pair-shown-by a.tile.now a.graphic.now a.look a.row a.cell)
