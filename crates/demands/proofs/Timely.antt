-- Calls that are not refused for want of time: all on a panel with time, and everywhere all but those that let time pass.
use Prim.{Unit}
use Prim.Native.Nat.{ℕ}
use mathlib.Core.Bool.{Bool, true, false, not, true≢false}
use mathlib.Core.List.{List, [], ◌∷◌, ◌++◌, map}
use mathlib.Core.Path.{◌≡◌, refl, ap, sym, ◌∙◌}
use Rattle.base.specs.Choice.{when◌then◌else◌}
use Rattle.controller.specs.declared.Control.{Control}
use Rattle.controller.specs.Named.{covers}
use Rattle.deeds.specs.Transfers.{performed}
use Rattle.events.specs.declared.Event.{Event}
use Rattle.events.specs.declared.Event.TheVariants.{Transfer, Bit, SelectLow, Reset, Pass}
use Rattle.events.specs.declared.Deed.{Deed}
use Rattle.events.specs.declared.Deed.TheVariants as deed
use Rattle.links.specs.Taken.{taken_by}
use Rattle.connector.specs.Items.{WholeWrite, Item, write, beside_wires, Way, whole_bytes, halves, serial, bits_of, write_events, onward, wires, Alike, none, writes, events}
use Rattle.picture.specs.Picture.{Seen}
use Rattle.repaint.specs.Repaint.{named}
use Rattle.sender.specs.Sender.{three_bytes}
use Rattle.calls.specs.State.{State}
use Rattle.calls.specs.Calls.{refused, unless_other, taken_on, reaching, timeless, Fits, called}
use Rattle.calls.proofs.StaysInRange.{admitted}
use Rattle.demands.specs.Wires.{Timely, items}
use Rattle.demands.specs.Demand3.{named_by}

-- a call that is not refused for want of time, with frame and fonts of the right lengths, is what its link makes of it
pub admitted-timely :
    (e : Seen) (s : State) (frame : List ℕ) (call : Event)
    → Fits e frame
    → timeless s.control call ≡ false
    → called e s frame call ≡ unless_other e s frame (taken_on s call)
admitted-timely e s frame call h w =
    admitted e s frame call h
    ∙ ap (λ (x : Bool). when x then refused s frame 8 else unless_other e s frame (taken_on s call)) w

-- whether a deed is that time passes
abbrev pub is_passed : Deed → Bool
is_passed deed.Nothing = false
is_passed (deed.Whole t) = false
is_passed (deed.Fresh pin) = false
is_passed (deed.Pass eights) = true

-- what brings anything else, or nothing, is not refused so
pub unpassed_timely :
    (s : State) (call : Event) {d : Deed} → reaching (taken_on s call) ≡ d → is_passed d ≡ false → timeless s.control call ≡ false
unfolding taken_by
unpassed_timely s (Transfer t) h o = refl
unpassed_timely s (Bit b) h o = refl
unpassed_timely s SelectLow h o = refl
unpassed_timely s (Reset pin) h o = refl
unpassed_timely s (Pass eights) h o = absurd (true≢false (ap is_passed h ∙ o))

-- one that is names nothing
pub timeless_names : (s : State) (call : Event) (i : ℕ) → timeless s.control call ≡ true → named_by s call i ≡ false
unfolding taken_by performed named covers
timeless_names s (Transfer t) i w = absurd (true≢false (sym w))
timeless_names s (Bit b) i w = absurd (true≢false (sym w))
timeless_names s SelectLow i w = absurd (true≢false (sym w))
timeless_names s (Reset pin) i w = absurd (true≢false (sym w))
timeless_names s (Pass eights) i w = refl

-- whether it is depends on nothing but whether there is time
pub timeless-same : (c d : Control) (call : Event) → c.time.timed ≡ d.time.timed → timeless c call ≡ timeless d call
timeless-same c d (Transfer t) h = refl
timeless-same c d (Bit b) h = refl
timeless-same c d SelectLow h = refl
timeless-same c d (Reset pin) h = refl
timeless-same c d (Pass eights) h = ap not h

-- no call of a list is refused so
unfoldable pub AllTimely : Control → List Event → Type 0
AllTimely c [] = Unit {0}
AllTimely c (call ∷ calls) = (timeless c call ≡ false) × AllTimely c calls

pub all_same : (c d : Control) (calls : List Event) → c.time.timed ≡ d.time.timed → AllTimely c calls → AllTimely d calls
unfolding AllTimely
all_same c d [] h w = tt
all_same c d (call ∷ calls) h w = (sym (timeless-same c d call h) ∙ w.0, all_same c d calls h w.1)

both-timely : (c : Control) (calls more : List Event) → AllTimely c calls → AllTimely c more → AllTimely c (calls ++ more)
unfolding AllTimely
both-timely c [] more v w = w
both-timely c (call ∷ calls) more v w = (v.0, both-timely c calls more v.1 w)

-- the calls of a write let no time pass
bits_timely : (c : Control) (bits : List Bool) → AllTimely c (map Bit bits)
unfolding AllTimely
bits_timely c [] = tt
bits_timely c (b ∷ bits) = (refl, bits_timely c bits)

write-timely : (c : Control) (way : Way) (w : WholeWrite) → AllTimely c (write_events way w)
unfolding AllTimely
write-timely c whole_bytes w = (refl, tt)
write-timely c (halves low) w = (refl, (refl, tt))
write-timely c serial w = bits_timely c (bits_of (three_bytes w.register w.byte))

-- so a timely list is carried by such calls
pub wires-timely : (c : Control) (way : Way) (list : List Item) → Timely c list → AllTimely c (wires way list)
unfolding AllTimely Timely wires
wires-timely c way [] w = tt
wires-timely c way (write x ∷ list) w =
    both-timely c (write_events way x) (wires (onward way) list) (write-timely c way x) (wires-timely c (onward way) list w)
wires-timely c way (beside_wires x ∷ list) w = (w.0, wires-timely c way list w.1)

-- lists that are alike are timely alike, on panels that both have time or both have none
pub alike-timely :
    (c d : Control) (list others : List Item) → c.time.timed ≡ d.time.timed → Alike list others → Timely c list → Timely d others
unfolding Timely
alike-timely c d [] [] h none w = tt
alike-timely c d _ _ h (writes {ws = ws} {vs = vs} p q a) w = alike-timely c d ws vs h a w
alike-timely c d _ _ h (events {x = x} {ws = ws} {vs = vs} a) w =
    (sym (timeless-same c d x.event h) ∙ w.0, alike-timely c d ws vs h a w.1)

-- writes alone are timely everywhere
pub writes-timely : (c : Control) (list : List WholeWrite) → Timely c (items list)
unfolding Timely
writes-timely c [] = tt
writes-timely c (w ∷ list) = writes-timely c list
