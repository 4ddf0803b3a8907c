-- Without time nothing is lost and nothing costs: so each deed is what it was, and with it each call.
use Rattle.std.proofs.Common.{None, Option, Some}
use Rattle.links.specs.declared.Carried.{Carried}
use Prim.Native.Nat.{ℕ, ◌+◌, ◌-◌, ◌*◌}
use mathlib.Core.Bool.{Bool, false, not, true≢false}
use mathlib.Core.List.{List}
use mathlib.Core.Path.{◌≡◌, refl, ap, ◌∙◌}
use native.Mathlib.Omega.{arith}
use lib.Dec.{eqb, ltb}
use borrow.Author.Tests.{ltb-false}
use Rattle.base.specs.Choice.{when◌then◌else◌}
use Rattle.controller.specs.declared.Control.{Control}
use Rattle.controller.specs.declared.Time.{Time}
use Rattle.controller.specs.declared.Region.TheVariants as region
use Rattle.controller.specs.Memories.{Memories}
use Rattle.controller.specs.State.{InRange}
use Rattle.controller.specs.Instructions.{with_time}
use Rattle.time.specs.Time.{busy, elapsed}
use Rattle.deeds.specs.Transfers.{Acted, acted, status_read, carried_out, nothing_done, performed}
use Rattle.deeds.proofs.Untimed.{not-busy, untimed}
use Rattle.events.specs.declared.Event.{Event}
use Rattle.events.specs.declared.Event.TheVariants.{Bit, SelectLow, Reset, Pass}
use Rattle.events.specs.declared.Event.TheVariants as event
use Rattle.events.specs.declared.Transfer.{Transfer}
use Rattle.events.specs.declared.Transfer.TheVariants.{Instruct, Write, Status, Read}
use Rattle.events.specs.declared.Deed.{Deed}
use Rattle.events.specs.declared.Deed.TheVariants as deed
use Rattle.picture.specs.Picture.{Seen}
use Rattle.picture.specs.Refusals.{lent_refusal}
use Rattle.calls.specs.State.{State}
use Rattle.calls.specs.Calls.{Called, refused, accepted, unless_other, taken_on, unless_timeless, called}
use Rattle.calls.proofs.StaysInRange.{admitted}
use Rattle.demands.specs.WithoutTime.{is_pass, carried_out_before, performed_before, unless_other_before, called_before, AsBeforeTime, NoTimePasses}

-- a call of document 01 does not ask for time
pub in_time :
    (e : Seen) (s : State) (frame : List ℕ) (call : Event)
    → is_pass call ≡ false
    → unless_timeless e s frame call ≡ unless_other e s frame (taken_on s call)
in_time e s frame (event.Transfer t) h = refl
in_time e s frame (Bit bit) h = refl
in_time e s frame SelectLow h = refl
in_time e s frame (Reset pin) h = refl
in_time e s frame (Pass value) h = absurd (true≢false h)

module _ (m : Memories) (c : Control) (idle : busy c ≡ false) where
  carried-before : (t : Transfer) → carried_out m c t ≡ carried_out_before m c t
  unfolding carried_out carried_out_before status_read
  carried-before (Instruct byte) = refl
  carried-before (Write byte) = refl
  carried-before Status =
      let counted : 0 + c.place.counter ≡ c.place.counter = omega arith in
      ap (λ (b : Bool). acted m (record { control = c; reply = (when b then 0x80 else 0) + c.place.counter; region = region.Nothing })) idle
      ∙ ap (λ (n : ℕ). acted m (record { control = c; reply = n; region = region.Nothing })) counted
  carried-before Read = refl

-- where nothing remains nothing passes
pub none_passes : (value : ℕ) (t : Time) → ltb 0 t.remaining ≡ false → elapsed value t ≡ t
none_passes value t h =
    let none = ltb-false 0 t.remaining h in
    let same : t.remaining - value * 8 ≡ t.remaining = omega (arith, none) in
    ap (λ (n : ℕ). record { timed = t.timed; remaining = n }) same

module _ (m : Memories) (c : Control) (r : InRange c) (e : c.time.timed ≡ false) where
  performed-before : (d : Deed) → performed m c d ≡ performed_before m c d
  unfolding performed performed_before
  performed-before deed.Nothing = refl
  performed-before (deed.Whole t) = untimed m c t r e ∙ carried-before m c (not-busy c r e) t
  performed-before (deed.Fresh pin) = refl
  performed-before (deed.Pass value) =
      ap (λ (t : Time). acted m (nothing_done (with_time t c))) (none_passes value c.time (not-busy c r e))

pub as_before_time : AsBeforeTime
unfolding called called_before
as_before_time e s frame call v u p =
    ap (λ (k : Called). when eqb (lent_refusal e frame) 0 then k else refused s frame (lent_refusal e frame))
    (in_time e s frame call p ∙ by (taken_on s call))
  where
    by : (t : Option Carried) → unless_other e s frame t ≡ unless_other_before e s frame t
    by None = refl
    by (Some c) = ap (λ (a : Acted). accepted e frame a c.rest) (performed-before s.memories s.control v.control u c.deed)

pub no_time-passes : NoTimePasses
no_time-passes e s frame value h u =
    admitted e s frame (Pass value) h
    ∙ ap (λ (x : Bool). when not x then refused s frame 8 else unless_other e s frame (taken_on s (Pass value))) u
