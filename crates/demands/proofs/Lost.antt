-- A transfer that a call brings is lost or carried out: by the busy test, where it acts.
use Rattle.std.proofs.Common.{None, Option, Some}
use Prim.{Unit}
use Prim.Native.Nat.{ℕ, ◌+◌, ◌*◌, ◌-◌, ◌<◌}
use mathlib.Core.Bool.{Bool, true, false, not, ◌&&◌, true≢false}
use mathlib.Core.List.{List}
use mathlib.Core.Logic.{◌↔◌, ◌≢◌}
use mathlib.Core.Path.{◌≡◌, refl, sym, ap, subst, ◌∙◌}
use native.Mathlib.Omega.{arith}
use lib.Dec.{ltb}
use borrow.Author.Tests.{ltb-true, lt-ltb}
use Rattle.base.specs.Choice.{when◌then◌else◌}
use Rattle.table.specs.declared.Instruction.{Instruction}
use Rattle.table.specs.declared.Instruction.TheVariants.{Ignored, Clear, Home, EntryMode, Display, MoveCursor, MoveDisplay, FunctionSet, GlyphAddress, TextAddress, Standby, SetSr, ToggleReverse, Scroll, GraphicAddress}
use Rattle.table.specs.Table.{said}
use Rattle.table.specs.Touches.{touches}
use Rattle.controller.specs.declared.Time.{Time}
use Rattle.controller.specs.declared.Control.{Control}
use Rattle.controller.specs.Memories.{Memories}
use Rattle.controller.specs.State.{fresh_control}
use Rattle.controller.specs.Instructions.{with_time, modes}
use Rattle.time.specs.Time.{busy, busy_bit, lost, instruction_cost, cost, charged, elapsed}
use Rattle.deeds.specs.Transfers.{Acted, acted, status_read, carried_out, nothing_done, carried_out_at_cost, on_time, performed}
use Rattle.deeds.proofs.Untimed.{carried_out_time, unlost_acted, uncharged}
use Rattle.events.specs.declared.Event.{Event}
use Rattle.events.specs.declared.Event.TheVariants.{Bit, SelectLow, Reset, Pass}
use Rattle.events.specs.declared.Event.TheVariants as event
use Rattle.events.specs.declared.Transfer.{Transfer}
use Rattle.events.specs.declared.Transfer.TheVariants.{Instruct, Write, Status, Read}
use Rattle.events.specs.declared.Deed.TheVariants as deed
use Rattle.links.specs.declared.Link.{Link}
use Rattle.links.specs.declared.Link.TheVariants.{Parallel, Serial}
use Rattle.links.specs.declared.Pairing.{Pairing}
use Rattle.links.specs.declared.Rest.{Rest}
use Rattle.links.specs.declared.Rest.TheVariants.{Stays}
use Rattle.links.specs.declared.Carried.{Carried}
use Rattle.links.specs.Halves.{paired}
use Rattle.links.specs.Taken.{by_width, taken_by, replied}
use Rattle.picture.specs.Picture.{Seen}
use Rattle.calls.specs.State.{State, state, fresh_state}
use Rattle.calls.specs.Calls.{Called, refused, accepted, unless_other, taken_on, reaching, Fits, called}
use Rattle.calls.proofs.StaysInRange.{admitted, called_timed}
use Rattle.demands.specs.Lost.{LostWhenBusy, Costs, Brings, LostLeavesAll, QuietCallsCostNothing, apart_from_time, CarriedOutUnlessLost, StatusShowsBusy, PassFalls, TimeIsKept, FreshIsNotBusy}
use Rattle.demands.proofs.Carried.{of-paired}
use Rattle.demands.proofs.Quiet.{unnamed_accepted}
use Rattle.demands.proofs.Timely.{admitted-timely, unpassed_timely}

busy-lost : (c : Control) (t : Transfer) → t ≢ Status → busy c ≡ true ↔ (0 < c.time.remaining) × (t ≢ Status)
busy-lost c t other = (λ h. (ltb-true 0 c.time.remaining h, other), λ h. lt-ltb 0 c.time.remaining h.0)

pub lost_when_busy : LostWhenBusy
lost_when_busy c (Instruct byte) = busy-lost c (Instruct byte) (λ h. true≢false cc)
lost_when_busy c (Write byte) = busy-lost c (Write byte) (λ h. true≢false cc)
lost_when_busy c Status = (λ h. absurd (true≢false (sym h)), λ h. absurd (h.1 refl))
lost_when_busy c Read = busy-lost c Read (λ h. true≢false cc)

other-costs : (i : Instruction) → i ≢ Ignored → i ≢ Clear → instruction_cost (touches i) ≡ 72
other-costs Ignored h k = absurd (h refl)
other-costs Clear h k = absurd (k refl)
other-costs Home h k = refl
other-costs (EntryMode id s) h k = refl
other-costs (Display display cursor blink) h k = refl
other-costs (MoveCursor right) h k = refl
other-costs (MoveDisplay right) h k = refl
other-costs (FunctionSet dl re g) h k = refl
other-costs (GlyphAddress a) h k = refl
other-costs (TextAddress a) h k = refl
other-costs Standby h k = refl
other-costs (SetSr sr) h k = refl
other-costs (ToggleReverse line) h k = refl
other-costs (Scroll rows) h k = refl
other-costs (GraphicAddress a) h k = refl

pub costs : Costs
costs =
    record {
      clear = λ c byte h. ap (λ (i : Instruction). instruction_cost (touches i)) h;
      executed = λ c byte h k. other-costs (said (modes c) byte) h k;
      ignored = λ c byte h. ap (λ (i : Instruction). instruction_cost (touches i)) h;
      write = λ c byte. refl;
      read = λ c. refl;
      status = λ c. refl;
    }

-- the transfer is done, lost or not
pub brought :
    (e : Seen) (s : State) (frame : List ℕ) (call : Event) (t : Transfer) (rest : Rest)
    → Fits e frame
    → Brings s call t rest
    → called e s frame call ≡ accepted e frame (on_time s.memories s.control t) rest
unfolding performed
brought e s frame call t rest h b =
    admitted-timely e s frame call h (unpassed_timely s call (ap reaching b) refl) ∙ ap (unless_other e s frame) b

-- with an answer of 0 the reply is 0, whole or halved: what hands over a kept reply brings no transfer
abbrev ZeroBack : Carried → Type 0
ZeroBack x = (t : Transfer) → x.deed ≡ deed.Whole t → (replied x.rest 0).reply ≡ 0

abbrev ZeroTaken : Option Carried → Type 0
ZeroTaken None = Unit {0}
ZeroTaken (Some x) = ZeroBack x

paired-zero : (pairing : Pairing) (t : Transfer) → ZeroBack (paired pairing t)
paired-zero = of-paired ZeroBack (λ register upper t h. refl) (λ u t h. refl) (λ reply t h. absurd (true≢false cc))

taken-zero : (dl : Bool) (link : Link) (call : Event) → ZeroTaken (taken_by dl link call)
unfolding taken_by by_width
taken-zero true (Parallel pairing) (event.Transfer t) = λ u h. refl
taken-zero false (Parallel pairing) (event.Transfer t) = paired-zero pairing t
taken-zero dl (Serial receiver) (event.Transfer t) = tt
taken-zero dl (Parallel pairing) (Bit bit) = tt
taken-zero dl (Serial receiver) (Bit bit) = λ u h. refl
taken-zero dl (Parallel pairing) SelectLow = tt
taken-zero dl (Serial receiver) SelectLow = λ u h. refl
taken-zero dl link (Reset pin) = λ u h. refl
taken-zero dl link (Pass value) = λ u h. refl

reply-zero : (s : State) (call : Event) (t : Transfer) (rest : Rest) → Brings s call t rest → (replied rest 0).reply ≡ 0
reply-zero s call t rest b = subst ZeroTaken b (taken-zero s.control.function.dl s.link call) t refl

lost-acted : (m : Memories) (c : Control) (t : Transfer) → lost c t ≡ true → on_time m c t ≡ acted m (nothing_done c)
unfolding on_time
lost-acted m c t l =
    ap (λ (x : Bool). when x then acted m (nothing_done c) else carried_out_at_cost m c t) l

pub lost-leaves-all : LostLeavesAll
lost-leaves-all e s frame call t rest h b l =
    brought e s frame call t rest h b
    ∙ ap (λ (a : Acted). accepted e frame a rest) (lost-acted s.memories s.control t l)
    ∙ unnamed_accepted e frame s.memories s.control 0 rest
    ∙ ap (λ (n : ℕ). record { state = state s.memories s.control (replied rest 0).link; number = 0; reply = n; count = 0; frame = frame })
    (reply-zero s call t rest b)

-- what a cost makes of the time
charged-costs : (n : ℕ) (t : Time) → t.timed ≡ true → 0 < n → (charged n t).remaining ≡ n
charged-costs n t e h = rw (e, lt-ltb 0 n h)

charged-none : (t : Time) → charged 0 t ≡ t
charged-none t = ap (λ (n : ℕ). record { timed = t.timed; remaining = n }) (by t.timed t.remaining)
  where
    by : (timed : Bool) (n : ℕ) → (when timed && ltb 0 0 then 0 else n) ≡ n
    by true n = refl
    by false n = refl

pub carried_out_unless_lost : CarriedOutUnlessLost
carried_out_unless_lost e s frame call t rest h b l =
    let n : ℕ = cost s.control t in
    let is : called e s frame call ≡ accepted e frame (carried_out_at_cost s.memories s.control t) rest =
    brought e s frame call t rest h b ∙ ap (λ (a : Acted). accepted e frame a rest) (unlost_acted s.memories s.control t l) in
    let remains : (called e s frame call).state.control.time.remaining ≡ (charged n s.control.time).remaining =
    ap (λ (k : Called). k.state.control.time.remaining) is
    ∙ ap (λ (x : Time). (charged n x).remaining) (carried_out_time s.memories s.control t) in
    record {
      does = ap apart_from_time is;
      busy_for = λ timed costs. remains ∙ charged-costs n s.control.time timed costs;
      costless =
          λ none. remains
          ∙ ap (λ (k : ℕ). (charged k s.control.time).remaining) none
          ∙ ap (λ (x : Time). x.remaining) (charged-none s.control.time);
      untimed = λ none. remains ∙ ap (λ (x : Time). x.remaining) (uncharged n s.control.time none);
    }

-- a status read is never lost, and costs nothing
status-acted : (m : Memories) (c : Control) → on_time m c Status ≡ acted m (status_read c)
unfolding on_time carried_out status_read
status-acted m c =
    ap (λ (x : Time). acted m (record { control = with_time x c; reply = (status_read c).reply; region = (status_read c).region })) (charged-none c.time)

shown-busy : (c : Control) → busy_bit c + c.place.counter ≡ (when busy c then 0x80 + c.place.counter else c.place.counter)
shown-busy c = by (busy c)
  where
    by : (x : Bool) → (when x then 0x80 else 0) + c.place.counter ≡ (when x then 0x80 + c.place.counter else c.place.counter)
    by true = refl
    by false = omega arith

pub status-shows-busy : StatusShowsBusy
unfolding taken_by by_width status_read
status-shows-busy e s frame pairing h l d =
    let m = s.memories in
    let c = s.control in
    let b : Brings s (event.Transfer Status) Status (Stays (Parallel pairing)) =
    ap (λ (x : Link). taken_by c.function.dl x (event.Transfer Status)) l
    ∙ ap (λ (x : Bool). taken_by x (Parallel pairing) (event.Transfer Status)) d in
    brought e s frame (event.Transfer Status) Status (Stays (Parallel pairing)) h b
    ∙ ap (λ (a : Acted). accepted e frame a (Stays (Parallel pairing))) (status-acted m c)
    ∙ unnamed_accepted e frame m c (busy_bit c + c.place.counter) (Stays (Parallel pairing))
    ∙ ap (λ (n : ℕ). record { state = state m c (Parallel pairing); number = 0; reply = n; count = 0; frame = frame }) (shown-busy c)
    ∙ ap (λ (x : Link). record {
      state = state m c x;
      number = 0;
      reply = when busy c then 0x80 + c.place.counter else c.place.counter;
      count = 0;
      frame = frame;
    }) (sym l)

-- value times 8
falls : (value : ℕ) (t : Time) → t.timed ≡ true → elapsed value t ≡ record { timed = true; remaining = t.remaining - 8 * value }
falls value t timed =
    let eights : value * 8 ≡ 8 * value = omega arith in
    ap (λ (x : Bool). record { timed = x; remaining = t.remaining - value * 8 }) timed
    ∙ ap (λ (n : ℕ). record { timed = true; remaining = t.remaining - n }) eights

pub pass_falls : PassFalls
unfolding taken_by performed
pass_falls e s frame value h timed =
    let m = s.memories in
    let c = s.control in
    admitted e s frame (Pass value) h
    ∙ ap (λ (x : Bool). when not x then refused s frame 8 else unless_other e s frame (taken_on s (Pass value))) timed
    ∙ unnamed_accepted e frame m (with_time (elapsed value c.time) c) 0 (Stays s.link)
    ∙ ap (λ (x : Time). record { state = state m (with_time x c) s.link; number = 0; reply = 0; count = 0; frame = frame })
    (falls value c.time timed)

pub time-is-kept : TimeIsKept
time-is-kept e s frame call = called_timed e s frame call

pub fresh-is-not-busy : FreshIsNotBusy
unfolding fresh_state fresh_control
fresh-is-not-busy made = refl

pub quiet-calls-cost-nothing : QuietCallsCostNothing
unfolding performed
quiet-calls-cost-nothing e s frame call rest h q =
    admitted-timely e s frame call h (unpassed_timely s call (ap reaching q) refl)
    ∙ ap (unless_other e s frame) q
    ∙ unnamed_accepted e frame s.memories s.control 0 rest
