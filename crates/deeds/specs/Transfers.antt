-- Document 01, "Instructions", and request K1: each transfer whole, with what it leaves in the memories and the controls, its reply, and what it names.
use Rattle.std.specs.Prelude.{ℕ, ◌+◌}
use Rattle.base.specs.Choice.{when◌then◌else◌}
use Rattle.table.specs.Table.{said}
use Rattle.table.specs.Touches.{touches}
use Rattle.table.specs.declared.Instruction.{Instruction}
use Rattle.events.specs.declared.Transfer.{Transfer}
use Rattle.events.specs.declared.Transfer.TheVariants.{Instruct, Write, Status, Read}
use Rattle.events.specs.declared.Made.{Made}
use Rattle.events.specs.declared.Deed.{Deed}
use Rattle.events.specs.declared.Deed.TheVariants as deed
use Rattle.controller.specs.declared.Control.{Control}
use Rattle.controller.specs.declared.Region.TheVariants.{Nothing, Whole}
use Rattle.deeds.specs.declared.Done.{Done}
use Rattle.controller.specs.Memories.{Memories, memories, fresh_memories}
use Rattle.controller.specs.State.{fresh_control, remade}
use Rattle.controller.specs.Instructions.{with_time, obeyed, cleared, modes}
use Rattle.controller.specs.Data.{stored, found, moved_on, dummy_read}
use Rattle.controller.specs.Named.{instruction_names, write_names, read_names}
use Rattle.time.specs.Time.{busy_bit, lost, cost, charged, elapsed}

-- what a transfer leaves: the memories, and the rest
pub record Acted : Type 0 where
  pub memories : Memories
  pub done : Done

abbrev pub acted : Memories → Done → Acted
acted m d = record { memories = m; done = d }

-- an entry of the table is obeyed: clear fills the text, no other changes a memory; and the entry names its region
abbrev pub obeyed_acted : Memories → Control → Instruction → Acted
obeyed_acted m c i =
    acted (memories (cleared (touches i) m.text) m.glyph m.graphic)
    (record { control = obeyed c i; reply = 0; region = instruction_names c (obeyed c i) (touches i) })

-- an instruction write: the table's entry for the byte
unfoldable pub executed : Memories → Control → ℕ → Acted
executed m c b = obeyed_acted m c (said (modes c) b)

-- a data write: store into the next half; after the low half, step
unfoldable pub written : Memories → Control → ℕ → Acted
written m c b =
    acted (stored c.place.target c.place b m)
    (record { control = moved_on c; reply = 0; region = write_names c (moved_on c) })

-- a data read: if a dummy is due, answer 0; otherwise answer the next half and move as a write does
unfoldable pub read_out : Memories → Control → Done
read_out m c =
    when c.place.dummy then record { control = dummy_read c; reply = 0; region = Nothing }
    else record { control = moved_on c; reply = found c.place.target c.place m; region = read_names c (moved_on c) }

-- a status read: the busy bit, bit 6 zero, the counter; it changes nothing and names none
unfoldable pub status_read : Control → Done
status_read c = record { control = c; reply = busy_bit c + c.place.counter; region = Nothing }

-- a whole transfer
unfoldable pub carried_out : Memories → Control → Transfer → Acted
carried_out m c (Instruct byte) = executed m c byte
carried_out m c (Write byte) = written m c byte
carried_out m c Status = acted m (status_read c)
carried_out m c Read = acted m (read_out m c)

-- nothing is done: the answer is 0, and no byte is named
abbrev pub nothing_done : Control → Done
nothing_done c = record { control = c; reply = 0; region = Nothing }

-- what was done, at what it costs
abbrev pub at_cost : ℕ → Done → Done
at_cost n d = record { control = with_time (charged n d.control.time) d.control; reply = d.reply; region = d.region }

abbrev pub carried_out_at_cost : Memories → Control → Transfer → Acted
carried_out_at_cost m c t = acted (carried_out m c t).memories (at_cost (cost c t) (carried_out m c t).done)

-- a transfer that would act: while busy all but a status read are lost, and that does not restart the time; else it is carried out, at its
-- cost
unfoldable pub on_time : Memories → Control → Transfer → Acted
on_time m c t = when lost c t then acted m (nothing_done c) else carried_out_at_cost m c t

-- everything as fresh, and every byte is named
abbrev pub restarted : Made → Acted
restarted made = acted fresh_memories (record { control = fresh_control made; reply = 0; region = Whole })

-- what of an event reaches the controller: nothing, and the state stays; a whole transfer; reset; or that time passed
unfoldable pub performed : Memories → Control → Deed → Acted
performed m c deed.Nothing = acted m (nothing_done c)
performed m c (deed.Whole t) = on_time m c t
performed m c (deed.Fresh pin) = restarted (remade c pin)
performed m c (deed.Pass eights) = acted m (nothing_done (with_time (elapsed eights c.time) c))
