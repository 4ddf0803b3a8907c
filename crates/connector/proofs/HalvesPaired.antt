-- Two half bytes of one kind are one transfer: of a write with the byte of both, of a read with its answer in two parts.
use Prim.Native.Nat.{ℕ, ◌<◌}
use mathlib.Core.Path.{◌≡◌, refl, ap, ◌∙◌, subst}
use mathlib.Core.Bool.{Bool, true, false}
use native.Mathlib.Omega.{arith}
use Rattle.base.specs.Bits.{bits7_4, bits3_0, raised}
use Rattle.events.specs.declared.Transfer.TheVariants.{Status, Read}
use Rattle.links.specs.declared.Pairing.TheVariants.{Empty, Upper, Lower}
use Rattle.events.specs.declared.Deed.TheVariants.{Nothing, Whole}
use Rattle.links.specs.declared.Link.TheVariants.{Parallel}
use Rattle.links.specs.Halves.{joined, writing, reading, kept, acts, write_half, read_half, paired, first_reply}
use Rattle.links.specs.Taken.{by_width}
use Rattle.connector.specs.Items.{above}
use Rattle.connector.specs.Connector.{Performed, Controller, Came, comes}
use Rattle.connector.specs.Statements.{InHalves, SecondHalfActs, HalvesReadWhole}

-- bits 3..0 do not count
low_bits_lost : (half low : ℕ) → half < 16 → bits7_4 (above half low) ≡ half
low_bits_lost half low h = omega arith

halves_join : (byte : ℕ) → byte < 256 → joined (bits7_4 byte) (bits3_0 byte) ≡ byte
halves_join byte h = omega arith

first-kept : (register : Bool) (value : ℕ) → paired Empty (writing register value) ≡ kept register (bits7_4 value)
unfolding paired write_half
first-kept false value = refl
first-kept true value = refl

second-acts : (register : Bool) (upper value : ℕ) →
    paired (Upper register upper) (writing register value) ≡ acts (writing register (joined upper (bits7_4 value)))
unfolding paired write_half
second-acts false upper value = refl
second-acts true upper value = refl

pub second-half-acts : SecondHalfActs
second-half-acts register byte h low other = (
  first-kept register (above (bits7_4 byte) low)
      ∙ ap (kept register) (low_bits_lost (bits7_4 byte) low (omega arith)),
  second-acts register (bits7_4 byte) (above (bits3_0 byte) other)
      ∙ ap (λ (half : ℕ). acts (writing register (joined (bits7_4 byte) half))) (low_bits_lost (bits3_0 byte) other (omega arith))
      ∙ ap (λ (b : ℕ). acts (writing register b)) (halves_join byte h),
)

-- the two parts of an answer, as they stand on the wires, are the answer
answer-joins : (answer : ℕ) → answer < 256 →
    joined (bits7_4 (first_reply answer)) (bits7_4 (raised (bits3_0 answer))) ≡ answer
answer-joins answer h = omega arith

raised-zeros : (half : ℕ) → bits3_0 (raised half) ≡ 0
raised-zeros half = omega arith

module _ {S : Type 0} (register : Bool) (a : Performed S) (later : S) where
  -- a read whose answer is known: as one byte, and at its two halves
  abbrev one : Came S
  one = record { deed = Whole (reading register); at = record { state = a.state; link = Parallel Empty }; reply = a.answer }

  abbrev first : Came S
  first = record { deed = Whole (reading register); at = record { state = a.state; link = Parallel (Lower register (bits3_0 a.answer)) }; reply = first_reply a.answer }

  abbrev second : Came S
  second = record { deed = Nothing; at = record { state = later; link = Parallel Empty }; reply = raised (bits3_0 a.answer) }

  answer_in_halves : a.answer < 256 → (x : Came S) → comes second ≡ comes x → InHalves one first x later
  answer_in_halves h x e = let same : second ≡ x = cc in subst (λ (o : Came S). InHalves one first o later) same (record {
    together = answer-joins a.answer h;
    zeros = (raised-zeros (bits7_4 a.answer), raised-zeros (bits3_0 a.answer));
    acts = refl;
    leaves = refl;
  })

module _ {S : Type 0} (on : Controller S) where
  pub halves-read-whole : HalvesReadWhole on
  unfolding by_width paired read_half
  halves-read-whole idles s later false h x e = answer_in_halves false (on.perform s (Whole Status)) later h x (rw (idles later) at e)
  halves-read-whole idles s later true h x e = answer_in_halves true (on.perform s (Whole Read)) later h x (rw (idles later) at e)
