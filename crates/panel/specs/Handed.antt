-- A panel by value, and what a call hands on.
use Rattle.std.specs.Prelude.{ℕ, List, Result, Ok, Err}
use Rattle.controller.specs.Memories.{Memories, memories}
use Rattle.refusals.specs.declared.Refusal.{Refusal}
use Rattle.refusals.specs.Numbers.{refusal_number}
use Rattle.calls.specs.State.{State, state}
use Rattle.calls.specs.Calls.{Called, refused}
use Rattle.panel.specs.declared.Panel.{Panel}
use Rattle.panel.specs.declared.CallAnswer.{CallAnswer}
use Rattle.panel.specs.declared.Outcome.{Outcome}

abbrev pub memories_of : Panel → Memories
memories_of p = memories p.text p.glyph p.graphic

abbrev pub state_of : Panel → State
state_of p = state (memories_of p) p.control p.link

-- what a call leaves that changes the panel where it stands, of the panel then
abbrev pub stands : Panel → Result CallAnswer Refusal → List ℕ → Called
stands p (Ok r) frame = record { state = state_of p; number = 0; reply = r.reply; count = r.count; frame = frame }
stands p (Err refusal) frame = refused (state_of p) frame (refusal_number refusal)

-- what a call by value leaves: of an accepted one the panel that it answers; of a refused one the panel that the caller has
abbrev pub handed : Panel → Result Outcome Refusal → List ℕ → Called
handed p (Ok r) frame = record { state = state_of r.panel; number = 0; reply = r.reply; count = r.count; frame = frame }
handed p (Err refusal) frame = refused (state_of p) frame (refusal_number refusal)

-- the panel that there is then
abbrev pub panel_after : Panel → Result Outcome Refusal → Panel
panel_after p (Ok r) = r.panel
panel_after p (Err refusal) = p
