-- Byte by byte.
use Rattle.std.proofs.Common.{rules}
use Rattle.frame_view.specs.Braille.{braille}
use Rattle.base.proofs.FromFn.{from_fn_upto}
use Rattle.frame_view.proofs.framed.braille.Goals as goal

pub returns : goal.returns
unfolding braille
returns c = from_fn_upto _ _ 3910 _ (λ i y q h k. search rules) _ c.from_fn.ensures.items
