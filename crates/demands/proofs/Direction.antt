-- What instructions leave of I/D and S: by the table's entries; and so of every call that brings one.
use Prim.Native.Nat.{ℕ}
use mathlib.Core.Bool.{Bool, true, false, ◌&&◌}
use mathlib.Core.List.{List}
use mathlib.Core.Logic.{◌≢◌, ◌⊎◌, inl, inr}
use mathlib.Core.Path.{◌≡◌, refl, ap, ◌∙◌}
use Rattle.base.proofs.Choice.{either}
use Rattle.table.specs.declared.Instruction.{Instruction}
use Rattle.table.specs.declared.Instruction.TheVariants.{Ignored, Clear, Home, EntryMode, Display, MoveCursor, MoveDisplay, FunctionSet, GlyphAddress, TextAddress, Standby, SetSr, ToggleReverse, Scroll, GraphicAddress}
use Rattle.table.specs.Table.{row_of, said}
use Rattle.table.specs.Touches.{touches}
use Rattle.controller.specs.declared.Control.{Control}
use Rattle.controller.specs.declared.Region.{Region}
use Rattle.controller.specs.declared.Region.TheVariants.{Whole}
use Rattle.controller.specs.Memories.{Memories}
use Rattle.controller.specs.Instructions.{obeyed, cleared, modes}
use Rattle.controller.specs.Named.{instruction_names}
use Rattle.time.specs.Time.{busy, instruction_cost}
use Rattle.deeds.specs.Transfers.{Acted, acted, obeyed_acted, executed, carried_out, at_cost, on_time}
use Rattle.deeds.proofs.Untimed.{unlost_acted}
use Rattle.events.specs.declared.Event.{Event}
use Rattle.events.specs.declared.Transfer.TheVariants.{Instruct}
use Rattle.links.specs.declared.Rest.{Rest}
use Rattle.picture.specs.Picture.{Seen, wide}
use Rattle.repaint.specs.Repaint.{named, count_named}
use Rattle.repaint.proofs.Counts.{count-whole}
use Rattle.calls.specs.State.{State}
use Rattle.calls.specs.Calls.{Called, accepted, Fits, called}
use Rattle.demands.specs.Lost.{Brings}
use Rattle.demands.specs.Direction.{ClearTurns, HomeDoesNot, OthersDoNot, ElseAsHome}
use Rattle.demands.proofs.Lost.{brought}

-- the table's entries, one by one
entry_kept : (c : Control) (i : Instruction) → i ≢ Clear → ((id s : Bool) → i ≢ EntryMode id s) → (obeyed c i).entry ≡ c.entry
unfolding obeyed
entry_kept c Ignored other also = refl
entry_kept c Clear other also = absurd (other refl)
entry_kept c Home other also = refl
entry_kept c (EntryMode id s) other also = absurd (also id s refl)
entry_kept c (Display display cursor blink) other also = refl
entry_kept c (MoveCursor right) other also = refl
entry_kept c (MoveDisplay right) other also = refl
entry_kept c (FunctionSet dl re g) other also = refl
entry_kept c (GlyphAddress a) other also = refl
entry_kept c (TextAddress a) other also = refl
entry_kept c Standby other also = refl
entry_kept c (SetSr sr) other also = refl
entry_kept c (ToggleReverse line) other also = refl
entry_kept c (Scroll rows) other also = refl
entry_kept c (GraphicAddress a) other also = refl

-- a lost instruction keeps them too
on-time-kept : (m : Memories) (c : Control) (byte : ℕ) → (obeyed c (said (modes c) byte)).entry ≡ c.entry → (on_time m c (Instruct byte)).done.control.entry ≡ c.entry
unfolding on_time carried_out executed
on-time-kept m c byte kept = either (λ (a : Acted). a.done.control.entry ≡ c.entry) (busy c) refl kept

call-keeps :
    (e : Seen) (s : State) (frame : List ℕ) (call : Event) (rest : Rest) (byte : ℕ)
    → Fits e frame
    → Brings s call (Instruct byte) rest
    → (obeyed s.control (said (modes s.control) byte)).entry ≡ s.control.entry
    → (called e s frame call).state.control.entry ≡ s.control.entry
call-keeps e s frame call rest byte h b kept =
    ap (λ (k : Called). k.state.control.entry) (brought e s frame call (Instruct byte) rest h b)
    ∙ on-time-kept s.memories s.control byte kept

pub others_do_not : OthersDoNot
others_do_not e s frame call rest byte h b other also =
    call-keeps e s frame call rest byte h b (entry_kept s.control (said (modes s.control) byte) other also)

-- 01h, 02h and 03h with RE = 0
said-clear : (c : Control) → c.function.re ≡ false → said (modes c) 0x01 ≡ Clear
unfolding said row_of
said-clear c re = rw re

said-home : (c : Control) (byte : ℕ) → (byte ≡ 0x02) ⊎ (byte ≡ 0x03) → c.function.re ≡ false → said (modes c) byte ≡ Home
unfolding said row_of
said-home c byte (inl is) re = rw (is, re)
said-home c byte (inr is) re = rw (is, re)

pub home-does-not : HomeDoesNot
unfolding obeyed
home-does-not e s frame call rest byte h is b re =
    call-keeps e s frame call rest byte h b (ap (λ (i : Instruction). (obeyed s.control i).entry) (said-home s.control byte is re))

-- an entry of the table, obeyed at its cost
abbrev obeyed_at_cost : Memories → Control → Instruction → Acted
obeyed_at_cost m c i = acted (obeyed_acted m c i).memories (at_cost (instruction_cost (touches i)) (obeyed_acted m c i).done)

-- whether it ends standby or not, a clear names all
clear_names : (c : Control) → instruction_names c (obeyed c Clear) (touches Clear) ≡ Whole
unfolding instruction_names obeyed
clear_names c = either (λ (r : Region). r ≡ Whole) (c.standby && true) refl refl

pub clear-turns : ClearTurns
unfolding carried_out executed obeyed count_named named
clear-turns e s frame call rest h b re idle =
    let m = s.memories in
    let c = s.control in
    let is : called e s frame call ≡ accepted e frame (obeyed_at_cost m c Clear) rest =
    brought e s frame call (Instruct 0x01) rest h b
    ∙ ap (λ (a : Acted). accepted e frame a rest)
    (unlost_acted m c (Instruct 0x01) idle ∙ ap (obeyed_at_cost m c) (said-clear c re)) in
    record {
      direction = ap (λ (k : Called). k.state.control.entry.id) is;
      shifting = ap (λ (k : Called). k.state.control.entry.s) is;
      all =
          ap (λ (k : Called). k.count) is
          ∙ ap (count_named wide (obeyed c Clear).view (cleared (touches Clear) m.text)) (clear_names c)
          ∙ count-whole (obeyed c Clear).view (cleared (touches Clear) m.text);
    }

pub else_as_home_lem : ElseAsHome
unfolding obeyed
else_as_home_lem c = refl
