-- None, or the word's.
use Rattle.std.proofs.Common.{refl}
use Rattle.repaint.proofs.Paintings.{paints-none}
use Rattle.repaint.proofs.cells.paint_cell.Goals as goal

pub returns-in-None : goal.returns-in-None
returns-in-None c = rw c.in-None.is (paints-none 1024 _ _ _ c.told-frame (λ i h. refl))
