-- Document 01, "Links": the panel as the controller at the end of its link, and what a list of calls answers.
use Prim.{Unit}
use Rattle.std.specs.Prelude.{ℕ, ◌+◌, ◌-◌, ◌≤◌, ◌<◌, Bool, true, false, List, [], ◌∷◌, ◌++◌, map, ◌≡◌, refl, length, take, drop, replicate}
use Rattle.base.specs.Bits.{bit}
use Rattle.controller.specs.declared.Time.{Time}
use Rattle.controller.specs.declared.Control.{Control}
use Rattle.controller.specs.Memories.{Memories}
use Rattle.controller.specs.Instructions.{with_function}
use Rattle.time.specs.Time.{busy}
use Rattle.deeds.specs.Transfers.{Acted, carried_out_at_cost, performed}
use Rattle.events.specs.declared.Event.{Event}
use Rattle.events.specs.declared.Event.TheVariants as event
use Rattle.events.specs.declared.Deed.TheVariants as deeds
use Rattle.links.specs.declared.Link.{Link}
use Rattle.links.specs.Halves.{writing}
use Rattle.links.specs.Taken.{taken_by}
use Rattle.events.specs.declared.Transfer.{Transfer}
use Rattle.events.specs.declared.Transfer.TheVariants.{Instruct, Write, Status, Read}
use Rattle.connector.specs.Items.{WholeWrite, Item, write, beside_wires, deed, Way, whole_bytes, halves, serial, wires}
use Rattle.connector.specs.Connector.{Performed, Controller, does}
use Rattle.picture.specs.Picture.{Seen, look_of, wide}
use Rattle.repaint.specs.Repaint.{repainted, count_named}
use Rattle.calls.specs.State.{State, state}
use Rattle.calls.specs.Calls.{Called, timeless, called, Stands}

-- what each call of a sequence leaves and answers
unfoldable pub answers : Seen → State → List ℕ → List Event → List Called
answers e s frame [] = []
answers e s frame (event ∷ events) =
    called e s frame event ∷ answers e (called e s frame event).state (called e s frame event).frame events

abbrev pub numbers_of : Seen → State → List ℕ → List Event → List ℕ
numbers_of e s frame events = map (λ k. k.number) (answers e s frame events)

abbrev pub replies_of : Seen → State → List ℕ → List Event → List ℕ
replies_of e s frame events = map (λ k. k.reply) (answers e s frame events)

abbrev pub counts_of : Seen → State → List ℕ → List Event → List ℕ
counts_of e s frame events = map (λ k. k.count) (answers e s frame events)

-- a panel without its link: the memories, the controls and the frame
pub record Board : Type 0 where
  pub memories : Memories
  pub control : Control
  pub frame : List ℕ

-- before any call
abbrev pub board_of : State → List ℕ → Board
board_of s frame = record { memories = s.memories; control = s.control; frame = frame }

-- a deed was done: how many bytes it names
abbrev pub count_of : Acted → ℕ
count_of a = count_named wide a.done.control.view a.memories.text a.done.region

-- and these are repainted
abbrev pub board_after : Seen → Board → Acted → Board
board_after e b a =
    record {
      memories = a.memories;
      control = a.done.control;
      frame = repainted wide e.fonts a.memories (look_of e.phase a.done.control) a.done.region b.frame;
    }

abbrev pub performed_by : Seen → Board → Acted → Performed Board
performed_by e b a = record { state = board_after e b a; answer = a.done.reply }

-- the panel as the controller at the end of any link
abbrev pub board : Seen → Controller Board
board e =
    record {
      perform = λ b d. performed_by e b (performed b.memories b.control d);
      dl = λ b. b.control.function.dl;
    }

-- the items themselves, done in order
abbrev pub given : Seen → State → List ℕ → List Item → Board
given e s frame items = does (board e) (board_of s frame) items

-- and what each of them counts
unfoldable pub item_counts : Seen → Board → List Item → List ℕ
item_counts e b [] = []
item_counts e b (item ∷ items) =
    count_of (performed b.memories b.control (deed item)) ∷ item_counts e ((board e).perform b (deed item)).state items

-- how many calls carry an item: a write is one byte transfer, two half-byte transfers, or 24 serial bits
abbrev pub calls_for : Way → Item → ℕ
calls_for way item = length (wires way (item ∷ []))

-- the counts of the calls that carry items with these counts: of each item the last call has the count, and the others 0
unfoldable pub at_last : Way → List Item → List ℕ → List ℕ
at_last way [] counts = []
at_last way (item ∷ items) [] = []
at_last way (item ∷ items) (count ∷ counts) = replicate (calls_for way item - 1) 0 ++ (count ∷ at_last way items counts)

-- the counts of such calls, item by item
unfoldable pub by_item : Way → List Item → List ℕ → List (List ℕ)
by_item way [] counts = []
by_item way (item ∷ items) counts = take (calls_for way item) counts ∷ by_item way items (drop (calls_for way item) counts)

unfoldable pub sum : List ℕ → ℕ
sum [] = 0
sum (n ∷ ns) = n + sum ns

-- for each item the sum of its calls' counts
abbrev pub sums_of : Seen → Way → State → List ℕ → List Item → List ℕ
sums_of e way s frame items = map sum (by_item way items (counts_of e s frame (wires way items)))

-- a board on a link, and with its frame
abbrev pub on_link : Board → Link → State
on_link b link = state b.memories b.control link

abbrev pub standing : Board → Link → Stands
standing b link = record { state = on_link b link; frame = b.frame }

-- so many times 8 microseconds pass between whole writes: an event beside the wires
unfoldable pub passing : ℕ → Item
unfolding taken_by
passing eights = beside_wires (record { event = event.Pass eights; deed = deeds.Pass eights; alike = λ dl link. refl })

-- a panel without time, which so is never busy
abbrev pub no_time : Time
no_time = record { timed = false; remaining = 0 }

-- time passes only on a panel that has time
unfoldable pub Timely : Control → List Item → Type 0
Timely c [] = Unit {0}
Timely c (write w ∷ items) = Timely c items
Timely c (beside_wires x ∷ items) = (timeless c x.event ≡ false) × Timely c items

-- none of a list's writes is lost: each finds the panel not busy
unfoldable pub NoneLost : Seen → Board → List Item → Type 0
NoneLost e b [] = Unit {0}
NoneLost e b (write w ∷ items) = (busy b.control ≡ false) × NoneLost e ((board e).perform b (deed (write w))).state items
NoneLost e b (beside_wires x ∷ items) = NoneLost e ((board e).perform b x.deed).state items

-- each write of a list carried out as document 01 says, at its cost, in order
unfoldable pub all_carried_out : Seen → Board → List Item → Board
all_carried_out e b [] = b
all_carried_out e b (write w ∷ items) = all_carried_out e (board_after e b (carried_out_at_cost b.memories b.control (writing w.register w.byte))) items
all_carried_out e b (beside_wires x ∷ items) = all_carried_out e ((board e).perform b x.deed).state items

-- a list with nothing but writes
abbrev pub items : List WholeWrite → List Item
items writes = map write writes

-- the controls with another DL
abbrev pub with_dl : Bool → Control → Control
with_dl dl c = with_function (record { dl = dl; re = c.function.re; g = c.function.g }) c

-- the DL that a way's link works with: 1 for bytes, 0 for half bytes, either for serial
abbrev pub HasWidth : Way → Control → Type 0
HasWidth whole_bytes c = c.function.dl ≡ true
HasWidth (halves low) c = c.function.dl ≡ false
HasWidth serial c = Unit {0}

-- bit 4 of each function set, an instruction 20h..3Fh, is this DL
unfoldable pub SetsDl : Bool → List WholeWrite → Type 0
SetsDl dl [] = Unit {0}
SetsDl dl (w ∷ writes) = (w.register ≡ false → 0x20 ≤ w.byte → w.byte < 0x40 → bit 4 w.byte ≡ dl) × SetsDl dl writes

-- bit 4 of function sets keeps the link's DL
abbrev pub SetsWidth : Way → List WholeWrite → Type 0
SetsWidth whole_bytes writes = SetsDl true writes
SetsWidth (halves low) writes = SetsDl false writes
SetsWidth serial writes = Unit {0}

-- a data transfer
abbrev pub is_data : Transfer → Bool
is_data (Instruct byte) = false
is_data (Write byte) = true
is_data Status = false
is_data Read = true
