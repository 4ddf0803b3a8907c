-- Only reads are replied to.
use Rattle.std.proofs.Common.{None, Option, Some}
use Prim.Native.Nat.{ℕ}
use mathlib.Core.Bool.{Bool, true, false, beq, true≢false}
use mathlib.Core.List.{List}
use mathlib.Core.Path.{◌≡◌, refl, ap, ◌∙◌}
use lib.ListN.{length}
use lib.Dec.{eqb}
use Rattle.base.specs.Bits.{bits7_4}
use Rattle.base.proofs.Choice.{either}
use Rattle.controller.specs.declared.Control.{Control}
use Rattle.controller.specs.Memories.{Memories}
use Rattle.deeds.specs.Transfers.{performed}
use Rattle.events.specs.declared.Event.{Event}
use Rattle.events.specs.declared.Event.TheVariants.{Transfer, Bit, SelectLow, Reset, Pass}
use Rattle.events.specs.declared.Transfer.TheVariants.{Instruct, Write, Status, Read}
use Rattle.links.specs.declared.Link.{Link}
use Rattle.links.specs.declared.Link.TheVariants.{Parallel, Serial}
use Rattle.links.specs.declared.Pairing.{Pairing}
use Rattle.links.specs.declared.Pairing.TheVariants.{Empty, Upper, Lower}
use Rattle.links.specs.declared.Carried.{Carried}
use Rattle.links.specs.Halves as halves
use Rattle.serial.specs.Serial.{heard}
use Rattle.links.specs.Taken.{by_width, taken_by, replied}
use Rattle.picture.specs.Picture.{Seen}
use Rattle.picture.specs.Refusals.{refusal_of}
use Rattle.calls.specs.State.{State}
use Rattle.calls.specs.Calls.{Called, unless_other, taken_on, timeless, called}
use Rattle.calls.proofs.Serial.{write-reply, received-reply}
use Rattle.demands.specs.Demand2.{is_read, RepliesToReads}

module _ (m : Memories) (c : Control) where
  abbrev reply_of : Carried → ℕ
  reply_of x = (replied x.rest (performed m c x.deed).done.reply).reply

  half-reply : (pairing : Pairing) (register : Bool) (value : ℕ) → reply_of (halves.write_half pairing register value) ≡ 0
  unfolding halves.write_half performed
  half-reply Empty register value = refl
  half-reply (Upper was upper) register value =
      either (λ (x : Carried). reply_of x ≡ 0) (beq was register)
      (ap halves.first_reply (write-reply m c register (halves.joined upper (bits7_4 value))))
      refl
  half-reply (Lower was lower) register value = refl

  transfer_reply : (dl : Bool) (pairing : Pairing) (register : Bool) (byte : ℕ) → reply_of (by_width dl pairing (halves.writing register byte)) ≡ 0
  unfolding by_width halves.paired
  transfer_reply true pairing register byte = write-reply m c register byte
  transfer_reply false pairing false byte = half-reply pairing false byte
  transfer_reply false pairing true byte = half-reply pairing true byte

  abbrev taken_reply : Option Carried → ℕ
  taken_reply None = 0
  taken_reply (Some x) = reply_of x

  taken-reply : (dl : Bool) (l : Link) (call : Event) → is_read call ≡ false → taken_reply (taken_by dl l call) ≡ 0
  unfolding taken_by performed
  taken-reply dl (Parallel pairing) (Transfer (Instruct byte)) h = transfer_reply dl pairing false byte
  taken-reply dl (Parallel pairing) (Transfer (Write byte)) h = transfer_reply dl pairing true byte
  taken-reply dl (Serial receiver) (Transfer (Instruct byte)) h = refl
  taken-reply dl (Serial receiver) (Transfer (Write byte)) h = refl
  taken-reply dl l (Transfer Status) h = absurd (true≢false h)
  taken-reply dl l (Transfer Read) h = absurd (true≢false h)
  taken-reply dl (Parallel pairing) (Bit b) h = refl
  taken-reply dl (Serial receiver) (Bit b) h = received-reply m c (heard receiver b).received
  taken-reply dl (Parallel pairing) SelectLow h = refl
  taken-reply dl (Serial receiver) SelectLow h = refl
  taken-reply dl l (Reset pin) h = refl
  taken-reply dl l (Pass eights) h = refl

other-reply : (e : Seen) (s : State) (frame : List ℕ) (t : Option Carried) → (unless_other e s frame t).reply ≡ taken_reply s.memories s.control t
other-reply e s frame None = refl
other-reply e s frame (Some x) = refl

pub replies-to-reads : RepliesToReads
unfolding called
replies-to-reads e s frame call h =
    either (λ (k : Called). k.reply ≡ 0) (eqb (refusal_of (length frame) (length e.fonts.half) (length e.fonts.full)) 0)
    (either (λ (k : Called). k.reply ≡ 0) (timeless s.control call) refl
    (other-reply e s frame (taken_on s call) ∙ taken-reply s.memories s.control s.control.function.dl s.link call h))
    refl
