-- What an accepted call hands on to be painted is in range: its controls, and the numbers of its region.
use mathlib.Core.Path.{◌≡◌, ap, sym, subst}
use mathlib.Core.List.{List}
use Prim.Native.Nat.{ℕ}
use Rattle.base.proofs.Choice.{either}
use Rattle.table.specs.Table.{said}
use Rattle.table.specs.Touches.{touches}
use Rattle.controller.specs.declared.Control.{Control}
use Rattle.deeds.specs.declared.Done.{Done}
use Rattle.controller.specs.Memories.{Memories}
use Rattle.controller.specs.State.{InRange, remade}
use Rattle.controller.specs.Instructions.{obeyed, modes}
use Rattle.controller.specs.Data.{moved_on}
use Rattle.time.specs.Time.{lost, cost}
use Rattle.deeds.specs.Transfers.{Acted, acted, executed, written, read_out, status_read, carried_out, on_time, performed}
use Rattle.deeds.proofs.Kept.{fresh_in_range, obeyed_in_range, moved_on_in_range, dummy_read_in_range, cost-most, at_cost_in_range, elapsed_in_range}
use Rattle.events.specs.declared.Transfer.{Transfer}
use Rattle.events.specs.declared.Transfer.TheVariants.{Instruct, Write, Status, Read}
use Rattle.events.specs.declared.Deed.{Deed}
use Rattle.events.specs.declared.Deed.TheVariants.{Nothing, Whole, Fresh, Pass}
use Rattle.links.specs.declared.Rest.{Rest}
use Rattle.picture.specs.Picture.{Seen}
use Rattle.repaint.specs.Repaint.{RegionWithin}
use Rattle.repaint.proofs.RegionsWithin.{instruction-within, write-within, read-within}
use Rattle.calls.specs.Calls.{Called, accepted, left_accepted}
use Rattle.calls.specs.declared.LentOutcome.{LentOutcome}

pub record Fit (d : Done) : Type 0 where
  pub control : InRange d.control
  pub region : RegionWithin d.region

module _ (m : Memories) (c : Control) (r : InRange c) where
  carried_out-fit : (t : Transfer) → Fit (carried_out m c t).done
  unfolding carried_out executed written read_out status_read
  carried_out-fit (Instruct byte) =
      let i = said (modes c) byte in
      let next = obeyed_in_range c r byte in
      record { control = next; region = instruction-within c (obeyed c i) r next (touches i) }
  carried_out-fit (Write byte) =
      record { control = moved_on_in_range c r; region = write-within c (moved_on c) r (moved_on_in_range c r) }
  carried_out-fit Status = record { control = r; region = tt }
  carried_out-fit Read =
      either Fit c.place.dummy (record { control = dummy_read_in_range c r; region = tt })
      (record { control = moved_on_in_range c r; region = read-within c (moved_on c) r (moved_on_in_range c r) })

  on_time-fit : (t : Transfer) → Fit (on_time m c t).done
  unfolding on_time
  on_time-fit t =
      let out = carried_out-fit t in
      either (λ (a : Acted). Fit a.done) (lost c t) (record { control = r; region = tt })
      (record { control = at_cost_in_range (cost c t) (carried_out m c t).done (cost-most c t) out.control; region = out.region })

  performed-fit : (d : Deed) → Fit (performed m c d).done
  unfolding performed
  performed-fit Nothing = record { control = r; region = tt }
  performed-fit (Whole t) = on_time-fit t
  performed-fit (Fresh pin) = record { control = fresh_in_range (remade c pin); region = tt }
  performed-fit (Pass eights) = record { control = elapsed_in_range eights c r; region = tt }

  -- in the code's form
  pub done-fit : (d : Deed) (after : Memories) (done : Done) → acted after done ≡ performed m c d → Fit done
  done-fit d after done e = subst (λ (a : Acted). Fit a.done) (sym e) (performed-fit d)

-- and what is shown of it hands on controls in range
pub shown_in_range :
    (r : LentOutcome) (m : Memories) (f g : List ℕ) (e : Seen) (done : Done) (rest : Rest)
    → left_accepted r m f ≡ accepted e g (acted m done) rest
    → Fit done
    → InRange r.kept.control
shown_in_range r m f g e done rest h fit = subst InRange (sym (ap (λ (k : Called). k.state.control) h)) fit.control
