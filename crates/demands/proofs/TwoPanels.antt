-- Two panels on one wire: at each clock that is not refused each panel takes its own event, so that what is proved of one panel's calls
-- holds of each.
use Prim.Native.Nat.{ℕ, ◌≤◌, ◌<◌, ◌/◌, ◌%◌, ◌^◌}
use native.Mathlib.Omega.{arith}
use mathlib.Core.Bool.{Bool, true, true≢false}
use mathlib.Core.List.{List, [], ◌∷◌}
use mathlib.Core.Logic.{◌≢◌}
use mathlib.Core.Path.{◌≡◌, refl, sym, ap, subst, ◌∙◌}
use lib.Dec.{eqb}
use lib.ListN.{get_or}
use borrow.Author.Tests.{eqb-true, eqb-false, eq-eqb, ne_eqb}
use Rattle.base.specs.Choice.{when◌then◌else◌}
use Rattle.base.proofs.Choice.{by_test}
use Rattle.controller.specs.State.{InRange}
use Rattle.events.specs.declared.Event.{Event}
use Rattle.links.specs.declared.Link.{Link}
use Rattle.links.specs.declared.Link.TheVariants.{Parallel, Serial}
use Rattle.links.specs.Idle.{is_serial}
use Rattle.picture.specs.Picture.{Seen}
use Rattle.calls.specs.State.{Valid}
use Rattle.calls.specs.Calls.{Called, Stands, after_calls}
use Rattle.calls.proofs.StaysInRange.{called-valid, still_fits}
use Rattle.lent_pair.specs.declared.Clock.{Clock}
use Rattle.lent_pair.specs.Pair.{Side, comes_to, called_side, refused_side, pair_refusal, PairCalled, pair_called}
use Rattle.lent_pair.proofs.Both.{Ready, BothReady, both_ready, ready_both, takes, counts-most, refused-clock, taken-clock, pair-numbers}
use Rattle.pair_bytes.specs.Report.{SideBytes, spelled_side, bytes_after, pair_answer, pair_reported}
use Rattle.state_bytes.specs.LinkPacked.{link_packed, unpacked_link}
use Rattle.state_bytes.proofs.PackedUnpacked.{unpacked-packed}
use Rattle.state_bytes.proofs.LinkRead.{unpacked-link-packed}
use Rattle.demands.specs.Wires.{answers}
use Rattle.demands.specs.Captures.{sum_of_counts}
use Rattle.demands.specs.Demand3.{picture_of, ever_named}
use Rattle.demands.specs.TwoPanels.{Which, the_left, the_right, of, own_event, own_events, leaves, next_side, clock_answers, after_clocks, alone_called, alone_after, alone_answers, EachClockAsAlone, EndsAsAlone, AnswersAsAlone, CountsAsAlone, NeverTouched, RefusedTouchesNeither, EachPictureStands, EachNamedBytesShown, EachCountIsNumber, EachAtMost64, AnswerIsRead, BytesKeepThePair, TwoPanels}
use Rattle.demands.proofs.Sequences.{after-shows}
use Rattle.demands.proofs.Demand3.{demand_3}
use Rattle.demands.proofs.Pairs.{refusal_small}

-- the next clock finds the sides ready
still_ready : (x : Side) (select bit : Bool) (k : Called) → Ready x → k ≡ called_side x (comes_to select bit) → Ready (next_side x k)
still_ready x select bit k h is =
    rw is (record { fits = still_fits x.seen x.state x.frame (comes_to select bit) h.fits; serial = (takes x h select bit).serial })

module _ (l r : Side) (clock : Clock) (h : pair_refusal l r ≡ 0) where
  own : (w : Which) → leaves w (pair_called l r clock) ≡ alone_called (of w l r) (own_event w clock)
  own the_left = ap (λ (k : PairCalled). k.left) (taken-clock l r clock h)
  own the_right = ap (λ (k : PairCalled). k.right) (taken-clock l r clock h)

  next-taken : pair_refusal (next_side l (pair_called l r clock).left) (next_side r (pair_called l r clock).right) ≡ 0
  next-taken =
      let both = both_ready l r h in
      ready_both _ _ (record {
        left = still_ready l clock.left clock.bit _ both.left (own the_left);
        right = still_ready r clock.right clock.bit _ both.right (own the_right);
      })

-- a side's next is the next of that side
of-next : (w : Which) (l r : Side) (k : PairCalled) → of w (next_side l k.left) (next_side r k.right) ≡ next_side (of w l r) (leaves w k)
of-next the_left l r k = refl
of-next the_right l r k = refl

each_clock_as_alone : EachClockAsAlone
each_clock_as_alone w l r clock h = own l r clock h w

ends_as_alone : EndsAsAlone
unfolding after_clocks after_calls
ends_as_alone w l r [] h = refl
ends_as_alone w l r (clock ∷ clocks) h =
    ends_as_alone w (next_side l (pair_called l r clock).left) (next_side r (pair_called l r clock).right) clocks (next-taken l r clock h)
    ∙ ap (λ (x : Side). alone_after x (own_events w clocks)) (of-next w l r (pair_called l r clock) ∙ ap (next_side (of w l r)) (own l r clock h w))

answers_as_alone : AnswersAsAlone
unfolding clock_answers answers
answers_as_alone w l r [] h = refl
answers_as_alone w l r (clock ∷ clocks) h =
    ap (λ (ks : List Called). leaves w (pair_called l r clock) ∷ ks)
    (answers_as_alone w (next_side l (pair_called l r clock).left) (next_side r (pair_called l r clock).right) clocks (next-taken l r clock h)
    ∙ ap (λ (x : Side). alone_answers x (own_events w clocks)) (of-next w l r (pair_called l r clock)))
    ∙ ap (λ (k : Called). k ∷ alone_answers (next_side (of w l r) k) (own_events w clocks)) (own l r clock h w)

counts_as_alone : CountsAsAlone
counts_as_alone w l r clocks h = ap sum_of_counts (answers_as_alone w l r clocks h)

-- what ends or answers as alone is the same for any pair in which the side and its own events are the same
same-alone :
    {A : Type 0} (w : Which) (l r l' r' : Side) (clocks clocks' : List Clock) (alone : Side → List Event → A)
    → of w l r ≡ of w l' r'
    → own_events w clocks ≡ own_events w clocks'
    → alone (of w l r) (own_events w clocks) ≡ alone (of w l' r') (own_events w clocks')
same-alone w l r l' r' clocks clocks' alone same events =
    ap (λ (x : Side). alone x (own_events w clocks)) same ∙ ap (alone (of w l' r')) events

never_touched : NeverTouched
never_touched w l r l' r' clocks clocks' h h' same events =
    record {
      ends =
          ends_as_alone w l r clocks h
          ∙ same-alone w l r l' r' clocks clocks' alone_after same events
          ∙ sym (ends_as_alone w l' r' clocks' h');
      answers =
          answers_as_alone w l r clocks h
          ∙ same-alone w l r l' r' clocks clocks' alone_answers same events
          ∙ sym (answers_as_alone w l' r' clocks' h');
    }

refused-touches-neither : RefusedTouchesNeither
unfolding after_clocks
refused-touches-neither w l r [] h = refl
refused-touches-neither w l r (clock ∷ clocks) h =
    ap (λ (k : PairCalled). after_clocks w (next_side l k.left) (next_side r k.right) clocks) (refused-clock l r clock h)
    ∙ refused-touches-neither w l r clocks h

each_picture_stands : EachPictureStands
each_picture_stands w l r clocks h v is =
    let x = of w l r in
    let ends = ends_as_alone w l r clocks h in
    ap (λ (s : Stands). s.frame) ends
    ∙ after-shows x.seen x.state x.frame (own_events w clocks) v is
    ∙ ap (λ (s : Stands). picture_of x.seen s.state) (sym ends)

of_ready : (w : Which) (l r : Side) → BothReady l r → Ready (of w l r)
of_ready the_left l r h = h.left
of_ready the_right l r h = h.right

each_named_bytes_shown : EachNamedBytesShown
each_named_bytes_shown w l r clocks i h v lt =
    let x = of w l r in
    let events = own_events w clocks in
    subst
    (λ (s : Stands). get_or s.frame i 0
    ≡ (when ever_named x.seen x.state x.frame events i then get_or (picture_of x.seen s.state) i 0 else get_or x.frame i 0))
    (sym (ends_as_alone w l r clocks h))
    (demand_3.shown x.seen x.state x.frame events i v (of_ready w l r (both_ready l r h)).fits lt)

each_count_is_number : EachCountIsNumber
each_count_is_number w l r clock h =
    let x = of w l r in
    ap (λ (k : Called). k.count) (own l r clock h w)
    ∙ demand_3.counts x.seen x.state x.frame (own_event w clock) (of_ready w l r (both_ready l r h)).fits

each_at_most_64 : EachAtMost64
each_at_most_64 w l r clock t h reaches is-data s =
    let x = of w l r in
    rw (own l r clock h w) (demand_3.bounded x.seen x.state x.frame (own_event w clock) t reaches is-data s)

-- number and counts have their bits
answer-read : (n l r : ℕ) → n < 256 → l ≤ 1024 → (pair_answer n l r % 2 ^ 8 ≡ n) × (pair_answer n l r / 2 ^ 8 % 2 ^ 12 ≡ l) × (pair_answer n l r / 2 ^ 20 ≡ r)
answer-read n l r hn hl = (omega arith, omega arith, omega arith)

answer-is-read : AnswerIsRead
unfolding pair_reported
answer-is-read el er l r clock =
    let left = spelled_side el l in
    let right = spelled_side er r in
    let k = pair_called left right clock in
    answer-read k.left.number k.left.count k.right.count (rw (pair-numbers left right clock).0 (refusal_small left right)) (counts-most left right clock).0

-- a panel kept as bytes is after a call what its bytes spell then: a refusal leaves them
refused-kept :
    (e : Seen) (b : SideBytes) (n : ℕ)
    → n ≢ 0
    → spelled_side e (bytes_after b (refused_side (spelled_side e b) n)) ≡ next_side (spelled_side e b) (refused_side (spelled_side e b) n)
refused-kept e b n h = rw (ne_eqb n 0 h)

serial-read : (l : Link) → is_serial l ≡ true → unpacked_link (link_packed l) ≡ l
serial-read (Parallel pairing) h = absurd (true≢false (sym h))
serial-read (Serial receiver) h = unpacked-link-packed (Serial receiver) tt

-- else the controls are in range and the link is serial, so that both are read back from their bytes
read_back :
    (e : Seen) (b : SideBytes) (k : Called)
    → k.number ≡ 0
    → InRange k.state.control
    → is_serial k.state.link ≡ true
    → spelled_side e (bytes_after b k) ≡ next_side (spelled_side e b) k
read_back e b k z c l = rw (eq-eqb _ 0 z, unpacked-packed k.state.control c, serial-read k.state.link l)

taken-kept :
    (e : Seen) (b : SideBytes) (select bit : Bool)
    → Valid (spelled_side e b).state
    → Ready (spelled_side e b)
    → let k = called_side (spelled_side e b) (comes_to select bit) in
    spelled_side e (bytes_after b k) ≡ next_side (spelled_side e b) k
taken-kept e b select bit v h =
    let x = spelled_side e b in
    let took = takes x h select bit in
    read_back e b (called_side x (comes_to select bit)) took.number (called-valid e x.state x.frame (comes_to select bit) v).control took.serial

bytes-keep_the_pair : BytesKeepThePair
unfolding pair_reported
bytes-keep_the_pair el er l r clock ml mr =
    let left = spelled_side el l in
    let right = spelled_side er r in
    by_test (eqb (pair_refusal left right) 0)
    (λ t. let both = both_ready left right (eqb-true _ 0 t) in
    rw (taken-clock left right clock (eqb-true _ 0 t))
    (taken-kept el l clock.left clock.bit ml both.left, taken-kept er r clock.right clock.bit mr both.right))
    (λ t. let h = eqb-false _ 0 t in
    rw (refused-clock left right clock h) (refused-kept el l _ h, refused-kept er r _ h))

pub two_panels : TwoPanels
two_panels =
    record {
      clocks = each_clock_as_alone;
      ends = ends_as_alone;
      answer = answers_as_alone;
      counts = counts_as_alone;
      apart = never_touched;
      refused = refused-touches-neither;
      stands = each_picture_stands;
      shown = each_named_bytes_shown;
      counted = each_count_is_number;
      bounded = each_at_most_64;
      read = answer-is-read;
      bytes = bytes-keep_the_pair;
    }
