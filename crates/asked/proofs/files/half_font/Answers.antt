-- The font that is there has its 2,048 bytes.
use Rattle.std.proofs.Common.{◌≤◌, length, sym, arith}
use Rattle.std.proofs.lemmas.List.{length-take-le}
use Rattle.asked.proofs.files.half_font.Goals as goal

pub returns-in_default : goal.returns-in_default
returns-in_default c = let k : 2048 ≤ length c.args.half.now = omega arith in (k, sym (length-take-le 2048 c.args.half.now k))
