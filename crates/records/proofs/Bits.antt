-- What holds at each turn of the loop over a value's bits: what is left to hear, with the count so far, is the whole; and no bit is refused
-- behind an accepted one.
use Prim.Native.Nat.{ℕ, zero, suc, ◌+◌, ◌*◌, ◌≤◌}
use mathlib.Core.Bool.{Bool, true}
use mathlib.Core.List.{List, [], ◌∷◌, map}
use mathlib.Core.Path.{◌≡◌, refl, sym, ap, ◌∙◌}
use native.Mathlib.Nat.{add_assoc, add-zero}
use native.Mathlib.Omega.{arith}
use borrow.Author.Tests.{eqb-true, eqb-false}
use lib.Dec.{eqb}
use Rattle.base.specs.Bits as bits
use Rattle.base.proofs.Choice.{by_test}
use Rattle.refusals.specs.declared.Refusal.{Refusal}
use Rattle.refusals.specs.Numbers.{refusal_number}
use Rattle.links.specs.declared.Link.{Link}
use Rattle.links.specs.declared.Link.TheVariants.{Parallel, Serial}
use Rattle.links.specs.Idle.{is_serial}
use Rattle.links.specs.Taken.{taken_by}
use Rattle.picture.specs.Picture.{Seen}
use Rattle.picture.specs.Refusals.{lent_refusal}
use Rattle.capture.specs.declared.kind.Kind.TheVariants.{EightBits}
use Rattle.events.specs.declared.Event.TheVariants.{Bit}
use Rattle.calls.specs.State.{State, Valid}
use Rattle.calls.specs.Calls.{Called, refused, unless_other, Fits, called}
use Rattle.calls.proofs.Doors.{numbered}
use Rattle.calls.proofs.Serial.{bit-silent}
use Rattle.calls.proofs.StaysInRange.{called-count, admitted, still_fits}
use Rattle.records.specs.Records.{asks, called_on, called_in_turn}
use Rattle.records.proofs.Refused.{in_turn_accepted, in_turn_refused}

-- the lowest bits of a value, as many as are left, highest first
unfoldable pub lowest : ℕ → ℕ → List Bool
lowest value zero = []
lowest value (suc left) = bits.bit left value ∷ lowest value left

-- with the count of a call before
abbrev plus_count : ℕ → Called → Called
plus_count n k = record { state = k.state; number = 0; reply = k.reply; count = n + k.count; frame = k.frame }

module _ (e : Seen) where
  -- where every bit is accepted: on a serial link, with buffers that fit
  pub record Hears (s : State) (frame : List ℕ) : Type 0 where
    pub fits : Fits e frame
    pub serial : is_serial s.link ≡ true

  module _ (s : State) (frame : List ℕ) (bit : Bool) where
    still_hears : Hears s frame → Hears (called e s frame (Bit bit)).state (called e s frame (Bit bit)).frame
    still_hears h =
        record { fits = still_fits e s frame (Bit bit) h.fits; serial = (bit-silent e s frame bit h.fits h.serial).serial }

    accepted-fits : (called e s frame (Bit bit)).number ≡ 0 → Fits e frame
    unfolding called
    accepted-fits z =
        by_test (eqb (lent_refusal e frame) 0) (eqb-true (lent_refusal e frame) 0)
        (λ t. let is : (called e s frame (Bit bit)).number ≡ lent_refusal e frame = rw t in sym is ∙ z)

    serial_link : (dl : Bool) (l : Link) → (unless_other e s frame (taken_by dl l (Bit bit))).number ≡ 0 → is_serial l ≡ true
    unfolding taken_by
    serial_link dl (Parallel pairing) z = absurd (omega arith)
    serial_link dl (Serial receiver) z = refl

    accepted-hears : (called e s frame (Bit bit)).number ≡ 0 → Hears s frame
    accepted-hears z =
        let fits = accepted-fits z in
        record {
          fits = fits;
          serial = serial_link s.control.function.dl s.link (ap (λ (k : Called). k.number) (sym (admitted e s frame (Bit bit) fits)) ∙ z);
        }

  module _ (value : ℕ) where
    -- what was called so far, and what is left to hear on what it left
    abbrev heard_on : ℕ → Called → Called
    heard_on left k = plus_count k.count (called_on e k.reply k.state k.frame (map Bit (lowest value left)))

    -- from the first bit on
    pub record Hearing (first : Called) (left : ℕ) (k : Called) : Type 0 where
      pub most : left ≤ 7
      pub few : k.count + 1024 * left ≤ 8192
      pub valid : Valid k.state
      pub hears : Hears k.state k.frame
      pub same : heard_on 7 first ≡ heard_on left k

    module _ (s : State) (frame : List ℕ) where
      -- a refused first bit refuses the record
      pub refuses :
          (why : Refusal) (t : State) (f : List ℕ)
          → refused t f (refusal_number why) ≡ called e s frame (Bit (bits.bit 7 value))
          → refused t f (refusal_number why) ≡ called_in_turn e s frame (asks EightBits value)
      refuses why t f is =
          is
          ∙ sym (in_turn_refused e s frame _ _ (λ z. eqb-false (refusal_number why) 0 (numbered why) (ap (λ (x : Called). x.number) is ∙ z)))

      module _ (k : Called) (is : k ≡ called e s frame (Bit (bits.bit 7 value))) (accepted : k.number ≡ 0) where
        pub begins : Valid k.state → Hearing k 7 k
        begins v =
            let hears = still_hears s frame _ (accepted-hears s frame _ (ap (λ (x : Called). x.number) (sym is) ∙ accepted)) in
            record {
              most = omega arith;
              few = omega (arith, ap (λ (x : Called). x.count) is, called-count e s frame (Bit (bits.bit 7 value)));
              valid = v;
              hears = rw is hears;
              same = refl;
            }

        -- an accepted one is heard, and the seven others after it
        pub accepts : heard_on 7 k ≡ called_in_turn e s frame (asks EightBits value)
        unfolding called_on lowest
        accepts = sym (in_turn_accepted e s frame _ _ (ap (λ (x : Called). x.number) (sym is) ∙ accepted) ∙ rw (← is))

    module _ {first : Called} {n : ℕ} {k : Called} (g : Hearing first n k) where
      -- none is refused behind it
      pub never_refused :
          (bit : Bool) (why : Refusal) (t : State) (f : List ℕ) → refused t f (refusal_number why) ≡ called e k.state k.frame (Bit bit) → ⊥
      never_refused bit why t f is =
          eqb-false (refusal_number why) 0 (numbered why)
          (ap (λ (x : Called). x.number) is ∙ (bit-silent e k.state k.frame bit g.hears.fits g.hears.serial).number)

      module _ (left : ℕ) (next : Called) (m : n ≡ suc left) (is : next ≡ called e k.state k.frame (Bit (bits.bit left value))) where
        pub fits : k.count + next.count ≤ 8192
        fits = omega (arith, g.few, ap (λ (x : Called). x.count) is, called-count e k.state k.frame (Bit (bits.bit left value)))

        -- one more bit
        pub turns : Valid next.state → Hearing first left (plus_count k.count next)
        unfolding called_on lowest
        turns v =
            let hears = still_hears k.state k.frame (bits.bit left value) g.hears in
            record {
              most = omega (arith, g.most);
              few = omega (arith, g.few, ap (λ (x : Called). x.count) is, called-count e k.state k.frame (Bit (bits.bit left value)));
              valid = v;
              hears = rw is hears;
              same =
                  g.same
                  ∙ ap (λ (i : ℕ). heard_on i k) m
                  ∙ ap (λ (x : Called). plus_count k.count (heard_on left x)) (sym is)
                  ∙ rw add_assoc;
            }

      pub ends : n ≡ 0 → record { state = k.state; number = 0; reply = k.reply; count = k.count; frame = k.frame } ≡ heard_on 7 first
      unfolding called_on lowest
      ends z = sym (g.same ∙ rw (z, add-zero))
