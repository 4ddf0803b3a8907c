-- A transfer leaves the time alone but for its cost, and nothing that reaches the controller changes whether there is time. Where it is not
-- busy nothing is lost; and without time nothing costs either: every transfer is carried out as it was before there was time.
use Prim.Native.Nat.{ℕ, ◌≤◌}
use mathlib.Core.Bool.{Bool, false, ◌&&◌}
use mathlib.Core.Path.{◌≡◌, refl, ap, subst, ◌∙◌}
use native.Mathlib.Omega.{arith}
use lib.Dec.{ltb}
use Rattle.base.specs.Choice.{when◌then◌else◌}
use Rattle.base.proofs.Choice.{either}
use Rattle.table.specs.Table.{said}
use Rattle.events.specs.declared.Transfer.{Transfer}
use Rattle.events.specs.declared.Transfer.TheVariants.{Instruct, Write, Status, Read}
use Rattle.events.specs.declared.Deed.{Deed}
use Rattle.events.specs.declared.Deed.TheVariants as deed
use Rattle.controller.specs.declared.Time.{Time}
use Rattle.controller.specs.declared.Control.{Control}
use Rattle.controller.specs.Memories.{Memories}
use Rattle.controller.specs.State.{fresh_control, longest, InRange}
use Rattle.controller.specs.Instructions.{with_time, modes}
use Rattle.controller.specs.Data.{moved_on}
use Rattle.deeds.specs.declared.Done.{Done}
use Rattle.time.specs.Time.{busy, lost, cost, charged}
use Rattle.deeds.proofs.Beside.{obeyed-time}
use Rattle.deeds.specs.Transfers.{Acted, acted, executed, written, read_out, status_read, carried_out, nothing_done, at_cost, carried_out_at_cost, on_time, performed}

-- what is carried out leaves the time

pub carried_out_time : (m : Memories) (c : Control) (t : Transfer) → (carried_out m c t).done.control.time ≡ c.time
unfolding carried_out executed written read_out status_read moved_on
carried_out_time m c (Instruct byte) = obeyed-time c (said (modes c) byte)
carried_out_time m c (Write byte) = refl
carried_out_time m c Status = refl
carried_out_time m c Read = either (λ (d : Done). d.control.time ≡ c.time) c.place.dummy refl refl

-- whether there is time stays: fresh too has what it is made with
pub performed_timed :
    (m : Memories) (c : Control) (d : Deed) → (performed m c d).done.control.time.timed ≡ c.time.timed
unfolding performed on_time fresh_control
performed_timed m c deed.Nothing = refl
performed_timed m c (deed.Whole t) =
    either (λ (a : Acted). a.done.control.time.timed ≡ c.time.timed) (lost c t) refl (ap (λ (t : Time). t.timed) (carried_out_time m c t))
performed_timed m c (deed.Fresh pin) = refl
performed_timed m c (deed.Pass eights) = refl

-- where it is not busy nothing is lost
pub never-lost : (c : Control) (t : Transfer) → busy c ≡ false → lost c t ≡ false
never-lost c (Instruct byte) idle = idle
never-lost c (Write byte) idle = idle
never-lost c Status idle = refl
never-lost c Read idle = idle

-- and what is not lost is carried out, at its cost
pub unlost_acted :
    (m : Memories) (c : Control) (t : Transfer)
    → lost c t ≡ false
    → on_time m c t ≡ carried_out_at_cost m c t
unfolding on_time
unlost_acted m c t h = ap (λ (b : Bool). when b then acted m (nothing_done c) else carried_out_at_cost m c t) h

-- without time

pub not-busy : (c : Control) → InRange c → c.time.timed ≡ false → busy c ≡ false
not-busy c r e =
    let none : c.time.remaining ≡ 0 = omega (arith, subst (λ (b : Bool). c.time.remaining ≤ longest b) e r.remaining) in
    ap (ltb 0) none

pub uncharged : (n : ℕ) (t : Time) → t.timed ≡ false → charged n t ≡ t
uncharged n t e = ap (λ (b : Bool). record { timed = t.timed; remaining = when b && ltb 0 n then n else t.remaining }) e

costs-nothing : (n : ℕ) (d : Done) → d.control.time.timed ≡ false → at_cost n d ≡ d
costs-nothing n d e =
    ap (λ (t : Time). record { control = with_time t d.control; reply = d.reply; region = d.region })
    (uncharged n d.control.time e)

-- as before there was time
pub untimed :
    (m : Memories) (c : Control) (t : Transfer) → InRange c → c.time.timed ≡ false → on_time m c t ≡ carried_out m c t
untimed m c t r e =
    let out : Acted = carried_out m c t in
    unlost_acted m c t (never-lost c t (not-busy c r e))
    ∙ ap (acted out.memories) (costs-nothing (cost c t) out.done (ap (λ (t : Time). t.timed) (carried_out_time m c t) ∙ e))
