-- A bit, or chip select low, on a serial link: it is accepted, nothing is replied, and the link stays serial.
use Rattle.std.proofs.Common.{Option, Some, None}
use Prim.Native.Nat.{ℕ}
use mathlib.Core.Bool.{Bool, true, false, true≢false}
use mathlib.Core.List.{List}
use mathlib.Core.Path.{◌≡◌, refl, sym}
use Rattle.base.proofs.Choice.{either}
use Rattle.controller.specs.declared.Control.{Control}
use Rattle.controller.specs.Memories.{Memories}
use Rattle.time.specs.Time.{lost}
use Rattle.deeds.specs.Transfers.{Acted, executed, written, carried_out, on_time, performed}
use Rattle.events.specs.declared.Event.TheVariants.{Bit, SelectLow}
use Rattle.events.specs.declared.Transfer.TheVariants.{Instruct, Write}
use Rattle.events.specs.declared.Deed.TheVariants.{Whole}
use Rattle.serial.specs.declared.Received.{Received}
use Rattle.serial.specs.Serial.{heard}
use Rattle.links.specs.declared.Link.{Link}
use Rattle.links.specs.declared.Link.TheVariants.{Parallel, Serial}
use Rattle.links.specs.Halves.{writing}
use Rattle.links.specs.Idle.{is_serial}
use Rattle.links.specs.Taken.{deed_of, taken_by}
use Rattle.picture.specs.Picture.{Seen}
use Rattle.calls.specs.State.{State}
use Rattle.calls.specs.Calls.{Called, unless_other, Fits, called}
use Rattle.calls.proofs.StaysInRange.{admitted}

-- no write is replied to
module _ (m : Memories) (c : Control) where
  pub write-reply : (register : Bool) (byte : ℕ) → (performed m c (Whole (writing register byte))).done.reply ≡ 0
  unfolding performed on_time carried_out executed written
  write-reply false byte = either (λ (a : Acted). a.done.reply ≡ 0) (lost c (Instruct byte)) refl refl
  write-reply true byte = either (λ (a : Acted). a.done.reply ≡ 0) (lost c (Write byte)) refl refl

  pub received-reply : (r : Option Received) → (performed m c (deed_of r)).done.reply ≡ 0
  unfolding performed
  received-reply None = refl
  received-reply (Some received) = write-reply received.register received.byte

pub record TakenSilently (k : Called) : Type 0 where
  pub number : k.number ≡ 0
  pub reply : k.reply ≡ 0
  pub serial : is_serial k.state.link ≡ true

module _ (e : Seen) (s : State) (frame : List ℕ) where
  bit-taken : (dl : Bool) (l : Link) (bit : Bool) → is_serial l ≡ true → TakenSilently (unless_other e s frame (taken_by dl l (Bit bit)))
  unfolding taken_by
  bit-taken dl (Parallel pairing) bit h = absurd (true≢false (sym h))
  bit-taken dl (Serial receiver) bit h =
      record { number = refl; reply = received-reply s.memories s.control (heard receiver bit).received; serial = refl }

  select_low-taken : (dl : Bool) (l : Link) → is_serial l ≡ true → TakenSilently (unless_other e s frame (taken_by dl l SelectLow))
  unfolding taken_by performed
  select_low-taken dl (Parallel pairing) h = absurd (true≢false (sym h))
  select_low-taken dl (Serial receiver) h = record { number = refl; reply = refl; serial = refl }

  pub bit-silent : (bit : Bool) → Fits e frame → is_serial s.link ≡ true → TakenSilently (called e s frame (Bit bit))
  bit-silent bit fits h = rw (admitted e s frame (Bit bit) fits) (bit-taken _ s.link bit h)

  pub select_low-silent : Fits e frame → is_serial s.link ≡ true → TakenSilently (called e s frame SelectLow)
  select_low-silent fits h = rw (admitted e s frame SelectLow fits) (select_low-taken _ s.link h)
