-- Byte by byte.
use Rattle.std.proofs.Common.{rules}
use Rattle.frame_view.specs.Pbm.{pbm}
use Rattle.base.proofs.FromFn.{from_fn_upto}
use Rattle.frame_view.proofs.pictures.pbm.Goals as goal

pub returns : goal.returns
unfolding pbm
returns c = from_fn_upto _ _ 1034 _ (λ i y q h k. search rules) _ c.from_fn.ensures.items
