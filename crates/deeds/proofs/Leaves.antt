-- An ignored code leaves everything as it was, standby and a waiting row included, replies 0 and names nothing.
use Prim.Native.Nat.{ℕ}
use mathlib.Core.Bool.{Bool, true, false, not, ◌&&◌}
use mathlib.Core.Path.{◌≡◌, refl}
use Rattle.table.specs.declared.Instruction.TheVariants.{Ignored}
use Rattle.table.specs.Table.{said}
use Rattle.controller.specs.declared.Control.{Control}
use Rattle.controller.specs.Memories.{Memories}
use Rattle.controller.specs.Instructions.{obeyed, modes}
use Rattle.controller.specs.Named.{instruction_names}
use Rattle.deeds.specs.Transfers.{acted, executed, nothing_done}

not-both : (b : Bool) → (b && not b) ≡ false
not-both true = refl
not-both false = refl

pub ignored-leaves :
    (m : Memories) (c : Control) (b : ℕ)
    → said (modes c) b ≡ Ignored
    → executed m c b ≡ acted m (nothing_done c)
unfolding executed obeyed instruction_names
ignored-leaves m c b e = rw (e, not-both c.standby)
