-- Document 01, "Memories and flags": the state of a panel, whole.
use Rattle.events.specs.declared.Made.{Made}
use Rattle.controller.specs.declared.Control.{Control}
use Rattle.controller.specs.Memories.{Memories, fresh_memories}
use Rattle.controller.specs.State as controls
use Rattle.links.specs.declared.Link.{Link}
use Rattle.links.specs.Idle.{idle}
use Rattle.calls.specs.declared.Kept.{Kept}

pub record State : Type 0 where
  pub memories : Memories
  pub control : Control
  pub link : Link

abbrev pub state : Memories → Control → Link → State
state m c l = record { memories = m; control = c; link = l }

-- of the memories, and what a board keeps beside them
abbrev pub kept_state : Memories → Kept → State
kept_state m k = state m k.control k.link

-- fresh, of what a panel is made with (also after reset, of what the state keeps and the pin); the interface pin: 0 serial, 1 parallel; link idle
unfoldable pub fresh_state : Made → State
fresh_state made = state fresh_memories (controls.fresh_control made) (idle made.parallel)

-- a state handed to a call lies within its ranges
abbrev pub Valid : State → Type 0
Valid s = controls.AllInRange s.memories s.control
