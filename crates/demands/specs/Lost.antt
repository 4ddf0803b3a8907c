-- Request K1, "busy flag, with time", on demand 2: which transfers a busy panel loses, what a lost one leaves, and what every other one does.
-- Each statement is proved in proofs/, under its own name in small letters (`LostLeavesAll` as `lost-leaves-all`).
use Rattle.std.specs.Prelude.{ℕ, ◌+◌, ◌*◌, ◌-◌, ◌<◌, true, false, List, ◌↔◌, ◌≢◌, ◌≡◌, Some}
use Rattle.base.specs.Choice.{when◌then◌else◌}
use Rattle.table.specs.declared.Instruction.TheVariants.{Ignored, Clear}
use Rattle.table.specs.Table.{said}
use Rattle.controller.specs.declared.Control.{Control}
use Rattle.controller.specs.Instructions.{with_time, modes}
use Rattle.time.specs.Time.{busy, lost, cost}
use Rattle.deeds.specs.Transfers.{carried_out}
use Rattle.events.specs.declared.Event.{Event}
use Rattle.events.specs.declared.Event.TheVariants.{Pass}
use Rattle.events.specs.declared.Event.TheVariants as event
use Rattle.events.specs.declared.Transfer.{Transfer}
use Rattle.events.specs.declared.Transfer.TheVariants.{Instruct, Write, Status, Read}
use Rattle.events.specs.declared.Made.{Made}
use Rattle.events.specs.declared.Deed.TheVariants.{Whole}
use Rattle.events.specs.declared.Deed.TheVariants as deed
use Rattle.links.specs.declared.Link.TheVariants.{Parallel}
use Rattle.links.specs.declared.Pairing.{Pairing}
use Rattle.links.specs.declared.Rest.{Rest}
use Rattle.links.specs.Taken.{replied}
use Rattle.picture.specs.Picture.{Seen}
use Rattle.calls.specs.State.{State, state, fresh_state}
use Rattle.calls.specs.Calls.{Called, accepted, taken_on, Fits, called}
use Rattle.demands.specs.Wires.{no_time}

-- 1. A transfer is lost exactly where more than 0 microseconds remain and it is no status read.
abbrev pub LostWhenBusy : Type 0
LostWhenBusy = (c : Control) (t : Transfer) → lost c t ≡ true ↔ (0 < c.time.remaining) × (t ≢ Status)

-- 2. What each transfer costs, in microseconds: an executed clear 1,600, every other executed instruction and each data transfer 72, status
-- reads and ignored codes nothing.
pub record Costs : Type 0 where
  pub clear : (c : Control) (byte : ℕ) → said (modes c) byte ≡ Clear → cost c (Instruct byte) ≡ 1600
  pub executed : (c : Control) (byte : ℕ) → said (modes c) byte ≢ Ignored → said (modes c) byte ≢ Clear → cost c (Instruct byte) ≡ 72
  pub ignored : (c : Control) (byte : ℕ) → said (modes c) byte ≡ Ignored → cost c (Instruct byte) ≡ 0
  pub write : (c : Control) (byte : ℕ) → cost c (Write byte) ≡ 72
  pub read : (c : Control) → cost c Read ≡ 72
  pub status : (c : Control) → cost c Status ≡ 0

-- a call brings this whole transfer to the controller: as one byte, or with the half byte or the serial bit at which it acts; and this is
-- the rest, by which its answer goes back
abbrev pub Brings : State → Event → Transfer → Rest → Type 0
Brings s call t rest = taken_on s call ≡ Some (record { deed = Whole t; rest = rest })

-- 3. A call whose transfer is lost is accepted, replies 0, counts 0, and leaves the frame, the memories and the controls as they were, the
-- remaining time among them; the link alone moves on, as it does with an answer of 0.
abbrev pub LostLeavesAll : Type 0
LostLeavesAll =
    (e : Seen) (s : State) (frame : List ℕ) (call : Event) (t : Transfer) (rest : Rest)
    → Fits e frame
    → Brings s call t rest
    → lost s.control t ≡ true
    → called e s frame call
    ≡ record { state = state s.memories s.control (replied rest 0).link; number = 0; reply = 0; count = 0; frame = frame }

-- a call brings nothing to the controller: a write's first half byte, a read's second, a bit that completes no byte, chip select
-- low
abbrev pub BringsNothing : State → Event → Rest → Type 0
BringsNothing s call rest = taken_on s call ≡ Some (record { deed = deed.Nothing; rest = rest })

-- 4. It costs nothing: all but the link is as it was, busy or not.
abbrev pub QuietCallsCostNothing : Type 0
QuietCallsCostNothing =
    (e : Seen) (s : State) (frame : List ℕ) (call : Event) (rest : Rest)
    → Fits e frame
    → BringsNothing s call rest
    → called e s frame call
    ≡ record {
      state = state s.memories s.control (replied rest 0).link;
      number = 0;
      reply = (replied rest 0).reply;
      count = 0;
      frame = frame;
    }

-- a state apart from its time: the same panel without time; and all that a call leaves, apart from the time
abbrev pub without_time : State → State
without_time s = state s.memories (with_time no_time s.control) s.link

abbrev pub apart_from_time : Called → Called
apart_from_time k = record { state = without_time k.state; number = k.number; reply = k.reply; count = k.count; frame = k.frame }

-- a call's transfer was carried out, at its cost
pub record CarriedOutAtCost (e : Seen) (s : State) (frame : List ℕ) (t : Transfer) (rest : Rest) (k : Called) : Type 0 where
  -- apart from the time the call leaves and answers what document 01 says of the transfer
  pub does : apart_from_time k ≡ apart_from_time (accepted e frame (carried_out s.memories s.control t) rest)
  -- what costs something makes a panel with time busy for as long
  pub busy_for : s.control.time.timed ≡ true → 0 < cost s.control t → k.state.control.time.remaining ≡ cost s.control t
  -- else what remained remains
  pub costless : cost s.control t ≡ 0 → k.state.control.time.remaining ≡ s.control.time.remaining
  pub untimed : s.control.time.timed ≡ false → k.state.control.time.remaining ≡ s.control.time.remaining

-- 5. Every other transfer is carried out, at its cost.
abbrev pub CarriedOutUnlessLost : Type 0
CarriedOutUnlessLost =
    (e : Seen) (s : State) (frame : List ℕ) (call : Event) (t : Transfer) (rest : Rest)
    → Fits e frame
    → Brings s call t rest
    → lost s.control t ≡ false
    → CarriedOutAtCost e s frame t rest (called e s frame call)

-- 6. While busy a status read, here as one byte, shows bit 7 set beside the counter, else the counter alone; it changes nothing.
abbrev pub StatusShowsBusy : Type 0
StatusShowsBusy =
    (e : Seen) (s : State) (frame : List ℕ) (pairing : Pairing)
    → Fits e frame
    → s.link ≡ Parallel pairing
    → s.control.function.dl ≡ true
    → called e s frame (event.Transfer Status)
    ≡ record {
      state = s;
      number = 0;
      reply = when busy s.control then 0x80 + s.control.place.counter else s.control.place.counter;
      count = 0;
      frame = frame;
    }

-- 7. On a panel with time, on either link, value times 8 microseconds pass: so much less remains, 0 and no lower (as the difference of
-- natural numbers is); all else stays.
abbrev pub PassFalls : Type 0
PassFalls =
    (e : Seen) (s : State) (frame : List ℕ) (value : ℕ)
    → Fits e frame
    → s.control.time.timed ≡ true
    → called e s frame (Pass value)
    ≡ record {
      state = state s.memories (with_time (record { timed = true; remaining = s.control.time.remaining - 8 * value }) s.control) s.link;
      number = 0;
      reply = 0;
      count = 0;
      frame = frame;
    }

-- 8. No call changes whether there is time, reset neither.
abbrev pub TimeIsKept : Type 0
TimeIsKept =
    (e : Seen) (s : State) (frame : List ℕ) (call : Event)
    → (called e s frame call).state.control.time.timed ≡ s.control.time.timed

-- 9. Fresh, and so after reset, a panel is not busy, and has time or not as it is made.
abbrev pub FreshIsNotBusy : Type 0
FreshIsNotBusy = (made : Made) → (fresh_state made).control.time ≡ record { timed = made.time; remaining = 0 }
