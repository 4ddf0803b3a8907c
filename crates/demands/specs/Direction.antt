-- Request K2, "clear must turn the direction", on demand 2: what a clear and every other instruction leave of I/D and S.
-- Each statement is proved in proofs/, under its own name in small letters.
use Rattle.std.specs.Prelude.{ℕ, Bool, true, false, List, ◌≢◌, ◌⊎◌, ◌≡◌}
use Rattle.table.specs.declared.Instruction.TheVariants.{Clear, Home, EntryMode}
use Rattle.table.specs.Table.{said}
use Rattle.controller.specs.declared.Control.{Control}
use Rattle.controller.specs.Instructions.{with_entry, obeyed, modes}
use Rattle.time.specs.Time.{busy}
use Rattle.events.specs.declared.Event.{Event}
use Rattle.events.specs.declared.Transfer.TheVariants.{Instruct}
use Rattle.links.specs.declared.Rest.{Rest}
use Rattle.picture.specs.Picture.{Seen}
use Rattle.calls.specs.State.{State}
use Rattle.calls.specs.Calls.{Called, Fits, called}
use Rattle.demands.specs.Lost.{Brings}

-- what a clear leaves: I/D 1, S as it was; and it names all 1,024 bytes, as it did
pub record Turned (before : Control) (k : Called) : Type 0 where
  pub direction : k.state.control.entry.id ≡ true
  pub shifting : k.state.control.entry.s ≡ before.entry.s
  pub all : k.count ≡ 1024

-- 1. After 01h with RE = 0, over any link, unless it is lost.
abbrev pub ClearTurns : Type 0
ClearTurns =
    (e : Seen) (s : State) (frame : List ℕ) (call : Event) (rest : Rest)
    → Fits e frame
    → Brings s call (Instruct 0x01) rest
    → s.control.function.re ≡ false
    → busy s.control ≡ false
    → Turned s.control (called e s frame call)

-- 2. Home, 02h or 03h with RE = 0, leaves both as they were.
abbrev pub HomeDoesNot : Type 0
HomeDoesNot =
    (e : Seen) (s : State) (frame : List ℕ) (call : Event) (rest : Rest) (byte : ℕ)
    → Fits e frame
    → (byte ≡ 0x02) ⊎ (byte ≡ 0x03)
    → Brings s call (Instruct byte) rest
    → s.control.function.re ≡ false
    → (called e s frame call).state.control.entry ≡ s.control.entry

-- 3. So does, over any link, every instruction but clear and entry mode.
abbrev pub OthersDoNot : Type 0
OthersDoNot =
    (e : Seen) (s : State) (frame : List ℕ) (call : Event) (rest : Rest) (byte : ℕ)
    → Fits e frame
    → Brings s call (Instruct byte) rest
    → said (modes s.control) byte ≢ Clear
    → ((id shifts : Bool) → said (modes s.control) byte ≢ EntryMode id shifts)
    → (called e s frame call).state.control.entry ≡ s.control.entry

-- 4. Apart from I/D a clear leaves of the controls what home leaves.
abbrev pub ElseAsHome : Type 0
ElseAsHome = (c : Control) → with_entry c.entry (obeyed c Clear) ≡ obeyed c Home
