-- Request K1: busy, with time. What is lost, what each transfer costs, and how time passes.
use Rattle.std.specs.Prelude.{ℕ, ◌-◌, ◌*◌, Bool, false, ◌&&◌, ltb}
use Rattle.base.specs.Choice.{when◌then◌else◌}
use Rattle.table.specs.Table.{said}
use Rattle.table.specs.Touches.{touches}
use Rattle.table.specs.declared.Touch.{Touch}
use Rattle.table.specs.declared.Touch.TheVariants.{Nothing, Counter, All, AllAndText}
use Rattle.events.specs.declared.Transfer.{Transfer}
use Rattle.events.specs.declared.Transfer.TheVariants.{Instruct, Write, Status, Read}
use Rattle.controller.specs.declared.Time.{Time}
use Rattle.controller.specs.declared.Control.{Control}
use Rattle.controller.specs.Instructions.{modes}

-- busy means more than 0 microseconds remain; a panel without time, within its ranges, never is
abbrev pub busy : Control → Bool
busy c = ltb 0 c.time.remaining

-- while busy, status shows bit 7 set
abbrev pub busy_bit : Control → ℕ
busy_bit c = when busy c then 0x80 else 0

-- while busy a write that completes is lost, and so is a data read; a status read never is
abbrev pub lost : Control → Transfer → Bool
lost c (Instruct byte) = busy c
lost c (Write byte) = busy c
lost c Status = false
lost c Read = busy c

-- in microseconds: an ignored code costs nothing, an executed clear 1,600, every other executed instruction 72
abbrev pub instruction_cost : Touch → ℕ
instruction_cost Nothing = 0
instruction_cost Counter = 72
instruction_cost All = 72
instruction_cost AllAndText = 1600

-- each data transfer costs 72, a dummy read too; status reads cost nothing
abbrev pub cost : Control → Transfer → ℕ
cost c (Instruct byte) = instruction_cost (touches (said (modes c) byte))
cost c (Write byte) = 72
cost c Status = 0
cost c Read = 72

-- what costs something makes a panel with time busy for as long
abbrev pub charged : ℕ → Time → Time
charged n t = record { timed = t.timed; remaining = when t.timed && ltb 0 n then n else t.remaining }

-- so many times 8 microseconds pass: the remaining time falls to 0 and no lower
abbrev pub elapsed : ℕ → Time → Time
elapsed eights t = record { timed = t.timed; remaining = t.remaining - eights * 8 }
