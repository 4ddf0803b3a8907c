-- A store keeps the length.
use Rattle.std.proofs.Common.{◌≡◌, length}
use Rattle.half_font.proofs.built_in.Given as goal

abbrev pub invariant-loop-row : goal.invariant-loop-row
invariant-loop-row l = length l.half ≡ 2049

abbrev pub invariant-loop-n : goal.invariant-loop-n
invariant-loop-n l = length l.half ≡ 2049
