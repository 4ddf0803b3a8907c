-- The numbers that a transfer's region carries lie within the memories, where the controls lie within their ranges.
use Rattle.std.proofs.Common.{ℕ, None, Option, Some}
use Prim.Native.Nat.{◌<◌}
use mathlib.Core.Bool.{not, ◌&&◌}
use mathlib.Core.Path.{◌≡◌, refl, subst}
use Rattle.base.proofs.Choice.{either}
use Rattle.table.specs.declared.Target.{Target}
use Rattle.table.specs.declared.Target.TheVariants.{Text, Glyph, Graphic}
use Rattle.table.specs.declared.Touch.{Touch}
use Rattle.table.specs.declared.Touch.TheVariants as touch
use Rattle.controller.specs.declared.Control.{Control}
use Rattle.controller.specs.State.{InRange, limit}
use Rattle.controller.specs.Data.{is_text, completes, shifts}
use Rattle.controller.specs.Named.{both_cells, address_names, touch_names, instruction_names, write_by_target, write_names, read_names}
use Rattle.controller.proofs.Ranges.{counter_64}
use Rattle.repaint.specs.Repaint.{CellWithin, RegionWithin}

module _ (c d : Control) (r : InRange c) (q : InRange d) where
  both-within : RegionWithin (both_cells c.place d.place)
  both-within =
      (either CellWithin (is_text c.place.target) (counter_64 c r) tt, either CellWithin (is_text d.place.target) (counter_64 d q) tt)

  address_within : (w : Option ℕ) → RegionWithin (address_names w c.place d.place)
  address_within None = both-within
  address_within (Some y) = tt

  touch_within : (t : Touch) → RegionWithin (touch_names t c.place d.place)
  touch_within touch.Nothing = tt
  touch_within touch.Counter = address_within d.place.waiting
  touch_within touch.All = tt
  touch_within touch.AllAndText = tt

  pub instruction-within : (t : Touch) → RegionWithin (instruction_names c d t)
  unfolding instruction_names
  instruction-within t = either RegionWithin (c.standby && not d.standby) tt (touch_within t)

  by_target_within : (t : Target) → c.place.target ≡ t → RegionWithin (write_by_target t c.place d.place)
  by_target_within Text e = (counter_64 c r, either CellWithin c.place.low (counter_64 d q) tt)
  by_target_within Glyph e = counter_64 c r
  by_target_within Graphic e = (r.row, subst (λ (t : Target). c.place.counter < limit t) e r.counter)

  pub write-within : RegionWithin (write_names c d)
  unfolding write_names
  write-within = either RegionWithin (shifts c) tt (by_target_within c.place.target refl)

  pub read-within : RegionWithin (read_names c d)
  unfolding read_names
  read-within = either RegionWithin (shifts c) tt (either RegionWithin (completes c.place) both-within tt)
