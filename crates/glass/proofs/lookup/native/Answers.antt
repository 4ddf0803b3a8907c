-- The table's rule, computed over all of it.
use Rattle.glass.proofs.Natives.{natives}
use Rattle.glass.proofs.LooksUp.{native_at, native_inside}
use Rattle.glass.proofs.lookup.native.Goals as goal

pub returns-clause-value : goal.returns-clause-value
unfolding natives
returns-clause-value c = rw c.from.ensures (native_at c.args.place c.requires)

pub returns-clause-inside : goal.returns-clause-inside
unfolding natives
returns-clause-inside c = rw c.from.ensures (native_inside c.args.place c.requires)
