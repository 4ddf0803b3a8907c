-- Eight bits count once: at most one of them completes a byte, and a bit that completes none names nothing.
use Rattle.std.proofs.Common.{Option, Some, None}
use Prim.Native.Nat.{ℕ, zero, suc, ◌+◌, ◌≤◌}
use mathlib.Core.Bool.{Bool, true, false}
use mathlib.Core.List.{List, [], ◌∷◌, map}
use mathlib.Core.Path.{◌≡◌, refl, sym, ap, ◌∙◌, subst}
use native.Mathlib.Omega.{arith}
use lib.Dec.{eqb}
use borrow.Author.Tests.{eqb-false}
use lib.ListN.{length, replicate}
use Rattle.base.specs.Bits as bits
use Rattle.controller.specs.declared.Control.{Control}
use Rattle.controller.specs.Memories.{Memories}
use Rattle.deeds.specs.Transfers.{performed}
use Rattle.links.specs.declared.Link.{Link}
use Rattle.links.specs.declared.Link.TheVariants.{Parallel, Serial}
use Rattle.serial.specs.declared.Receiver.{Receiver}
use Rattle.serial.specs.declared.Received.{Received}
use Rattle.serial.specs.declared.Heard.{Heard}
use Rattle.events.specs.declared.Event.{Event}
use Rattle.events.specs.declared.Event.TheVariants.{Bit}
use Rattle.links.specs.declared.Rest.TheVariants.{Stays}
use Rattle.links.specs.Taken.{deed_of, taken_by}
use Rattle.serial.specs.Serial as serial
use Rattle.connector.specs.Listened as listens
use Rattle.connector.proofs.Seldom.{at-most-one-byte}
use Rattle.picture.specs.Picture.{Seen}
use Rattle.picture.specs.Refusals.{refusal_of}
use Rattle.repaint.specs.Repaint.{named, count_named}
use Rattle.repaint.proofs.Counts.{count-nothing}
use Rattle.calls.specs.State.{State, state}
use Rattle.calls.specs.Calls.{Called, refused, accepted, called}
use Rattle.capture.specs.declared.kind.Kind.{Kind}
use Rattle.records.specs.Records.{called_on, called_in_turn, record_called}
use Rattle.records.specs.Statements.{counts_in_turn, OneCounts, EightBitsCountOnce}
use Rattle.calls.proofs.StaysInRange.{called-count, called-length}
use Rattle.records.proofs.Bits.{lowest}
use Rattle.records.proofs.Refused.{one_or_bits, in_turn_accepted, in_turn_refused, one_in_turn}

sum : List ℕ → ℕ
sum [] = 0
sum (n ∷ ns) = n + sum ns

-- what each bit brings, and its count: none where it brings nothing
Counted : List (Option Received) → List ℕ → Type 0
Counted [] [] = Unit {0}
Counted [] (n ∷ ns) = ⊥
Counted (x ∷ xs) [] = ⊥
Counted (x ∷ xs) (n ∷ ns) = (x ≡ None → n ≡ 0) × (n ≤ 1024) × Counted xs ns

none-counts : (xs : List (Option Received)) (ns : List ℕ) → Counted xs ns → listens.bytes_in xs ≡ 0 → ns ≡ replicate (length ns) 0
unfolding Counted listens.bytes_in
none-counts [] [] c h = refl
none-counts [] (n ∷ ns) c h = absurd c
none-counts (x ∷ xs) [] c h = absurd c
none-counts (None ∷ xs) (n ∷ ns) c h = rw (c.0 refl) (ap (λ (l : List ℕ). 0 ∷ l) (none-counts xs ns c.2 h))
none-counts (Some received ∷ xs) (n ∷ ns) c h = absurd (omega arith)

zeros-sum : (n : ℕ) → sum (replicate n 0) ≡ 0
unfolding sum
zeros-sum zero = refl
zeros-sum (suc n) = omega (arith, zeros-sum n)

one-counts :
    (xs : List (Option Received)) (ns : List ℕ)
    → Counted xs ns
    → listens.bytes_in xs ≤ 1
    → 1 ≤ length ns
    → (k : ℕ)
    → k ≡ sum ns
    → OneCounts ns k
unfolding Counted listens.bytes_in sum
one-counts [] [] c h l k is = absurd (omega arith)
one-counts [] (n ∷ ns) c h l k is = absurd c
one-counts (x ∷ xs) [] c h l k is = absurd c
one-counts (None ∷ xs) (n ∷ []) c h l k is =
    let same : k ≡ n = omega arith in
    record { before = 0; after = 0; alone = ap (λ (m : ℕ). m ∷ []) (sym same); most = omega (arith, c.1) }
one-counts (None ∷ xs) (n ∷ m ∷ ns) c h l k is =
    let zero-first : n ≡ 0 = c.0 refl in
    let rest = one-counts xs (m ∷ ns) c.2 h (omega arith) k (omega arith) in
    record {
      before = suc rest.before;
      after = rest.after;
      alone = ap (λ (i : ℕ). i ∷ m ∷ ns) zero-first ∙ ap (λ (i : List ℕ). 0 ∷ i) rest.alone;
      most = rest.most;
    }
one-counts (Some received ∷ xs) (n ∷ ns) c h l k is =
    let zeros : ns ≡ replicate (length ns) 0 = none-counts xs ns c.2 (omega arith) in
    let same : k ≡ n = omega (arith, ap sum zeros, zeros-sum (length ns)) in
    record {
      before = 0;
      after = length ns;
      alone = ap (λ (i : ℕ). i ∷ ns) (sym same) ∙ ap (λ (i : List ℕ). k ∷ i) zeros;
      most = omega (arith, c.1);
    }

module _ (e : Seen) where
  abbrev Fits : List ℕ → Type 0
  Fits f = eqb (refusal_of (length f) (length e.fonts.half) (length e.fonts.full)) 0 ≡ true

  in_turn_sum : (reply : ℕ) (s : State) (f : List ℕ) (events : List Event) → (called_on e reply s f events).count ≡ sum (counts_in_turn e s f events)
  unfolding called_on counts_in_turn sum
  in_turn_sum reply s f [] = refl
  in_turn_sum reply s f (event ∷ events) =
      let k = called e s f event in ap (λ (i : ℕ). k.count + i) (in_turn_sum k.reply k.state k.frame events)

  -- on the serial link a bit is heard
  abbrev heard_call : Memories → Control → List ℕ → Heard → Called
  heard_call m c f h = accepted e f (performed m c (deed_of h.received)) (Stays (Serial h.receiver))

  taken-bit :
      (m : Memories) (c : Control) (r : Receiver) (f : List ℕ) (b : Bool)
      → Fits f
      → called e (state m c (Serial r)) f (Bit b) ≡ heard_call m c f (serial.heard r b)
  unfolding called taken_by
  taken-bit m c r f b fits = rw fits

  quiet : (m : Memories) (c : Control) (f : List ℕ) (h : Heard) → h.received ≡ None → (heard_call m c f h).count ≡ 0
  unfolding performed count_named named
  quiet m c f h is = rw is (count-nothing c.view m.text)

  bits_counted :
      (bs : List Bool) (m : Memories) (c : Control) (r : Receiver) (f : List ℕ)
      → Fits f
      → Counted (listens.listened r bs).brought (counts_in_turn e (state m c (Serial r)) f (map Bit bs))
  unfolding Counted listens.listened counts_in_turn
  bits_counted [] m c r f fits = tt
  bits_counted (b ∷ bs) m c r f fits =
      let is = taken-bit m c r f b fits in
      let long : length (heard_call m c f (serial.heard r b)).frame ≡ length f =
      ap (λ (k : Called). length k.frame) (sym is) ∙ called-length e (state m c (Serial r)) f (Bit b) in
      rw is (
        quiet m c f (serial.heard r b),
        subst (λ (k : Called). k.count ≤ 1024) is (called-count e (state m c (Serial r)) f (Bit b)),
        bits_counted bs _ _ (serial.heard r b).receiver _ (rw long fits),
      )

  -- on a panel that refuses every bit, none is heard
  module _ (s : State) (f : List ℕ) (x : ℕ) (some : eqb x 0 ≡ false) (h : (b : Bool) → called e s f (Bit b) ≡ refused s f x) where
    no_counts : (bs : List Bool) → counts_in_turn e s f (map Bit bs) ≡ replicate (length bs) 0
    unfolding counts_in_turn
    no_counts [] = refl
    no_counts (b ∷ bs) = rw (h b) (ap (λ (l : List ℕ). 0 ∷ l) (no_counts bs))

    no_count : (b : Bool) (bs : List Bool) → (called_in_turn e s f (map Bit (b ∷ bs))).count ≡ 0
    no_count b bs =
        ap (λ (k : Called). k.count)
        (in_turn_refused e s f (Bit b) (map Bit bs) (λ z. eqb-false x 0 some (ap (λ (k : Called). k.number) (sym (h b)) ∙ z)) ∙ h b)

    refused-once : (b : Bool) (bs : List Bool) → OneCounts (counts_in_turn e s f (map Bit (b ∷ bs))) (called_in_turn e s f (map Bit (b ∷ bs))).count
    refused-once b bs = rw (no_count b bs) (record { before = 0; after = length bs; alone = no_counts (b ∷ bs); most = omega arith })

  module _ (m : Memories) (c : Control) (b : Bool) (bs : List Bool) where
    abbrev counts : Link → List ℕ → List ℕ
    counts l f = counts_in_turn e (state m c l) f (map Bit (b ∷ bs))

    abbrev count : Link → List ℕ → ℕ
    count l f = (called_in_turn e (state m c l) f (map Bit (b ∷ bs))).count

    heard-count : (r : Receiver) (f : List ℕ) → Fits f → count (Serial r) f ≡ (called_on e 0 (state m c (Serial r)) f (map Bit (b ∷ bs))).count
    heard-count r f fits =
        ap (λ (k : Called). k.count)
        (in_turn_accepted e (state m c (Serial r)) f (Bit b) (map Bit bs) (ap (λ (k : Called). k.number) (taken-bit m c r f b fits)))

    some-count : (s : State) (f : List ℕ) → 1 ≤ length (counts_in_turn e s f (map Bit (b ∷ bs)))
    unfolding counts_in_turn
    some-count s f = omega arith

    heard-once : (r : Receiver) (f : List ℕ) → length bs ≤ 15 → Fits f → OneCounts (counts (Serial r) f) (count (Serial r) f)
    heard-once r f few fits =
        one-counts (listens.listened r (b ∷ bs)).brought (counts (Serial r) f)
        (bits_counted (b ∷ bs) m c r f fits)
        (at-most-one-byte r (b ∷ bs) (omega (arith, few)))
        (some-count (state m c (Serial r)) f)
        (count (Serial r) f)
        (heard-count r f fits ∙ in_turn_sum 0 (state m c (Serial r)) f (map Bit (b ∷ bs)))

    by-link :
        (f : List ℕ) (t : Bool)
        → length bs ≤ 15
        → eqb (refusal_of (length f) (length e.fonts.half) (length e.fonts.full)) 0 ≡ t
        → (l : Link)
        → OneCounts (counts l f) (count l f)
    unfolding called taken_by
    by-link f false few q l = refused-once (state m c l) f (refusal_of (length f) (length e.fonts.half) (length e.fonts.full)) q (λ b. rw q) b bs
    by-link f true few q (Parallel p) = refused-once (state m c (Parallel p)) f 5 refl (λ b. rw q) b bs
    by-link f true few q (Serial r) = heard-once r f few q

pub eight_bits-count_once : EightBitsCountOnce
unfolding lowest
eight_bits-count_once e value s frame =
    by-link e s.memories s.control (bits.bit 7 value) (lowest value 7) frame _ (omega arith) refl s.link

-- so a record's count is one call's
pub record_count : (e : Seen) (kind : Kind) (value : ℕ) (s : State) (frame : List ℕ) → (record_called e kind value s frame).count ≤ 1024
unfolding record_called
record_count e kind value s frame =
    one_or_bits (λ (events : List Event). (called_in_turn e s frame events).count ≤ 1024) kind value
    (λ event. rw (one_in_turn e s frame event) (called-count e s frame event))
    (eight_bits-count_once e value s frame).most
