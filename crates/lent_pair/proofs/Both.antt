-- The paths through a call of the pair: refused, or both panels take what comes to them.
use Prim.Native.Nat.{ℕ, ◌≤◌}
use mathlib.Core.Bool.{Bool, true, false, ◌&&◌}
use mathlib.Core.List.{List}
use mathlib.Core.Logic.{◌≢◌}
use mathlib.Core.Path.{◌≡◌, refl, sym, ap, ◌∙◌}
use native.Mathlib.Omega.{arith}
use lib.Dec.{eqb}
use borrow.Author.Tests.{eqb-true, eqb-false, eq-eqb, ne_eqb}
use Rattle.base.proofs.Choice.{by_test, either, either-told}
use Rattle.events.specs.declared.Event.{Event}
use Rattle.links.specs.Idle.{is_serial}
use Rattle.picture.specs.Refusals.{lent_refusal}
use Rattle.calls.specs.State.{State, Valid}
use Rattle.calls.specs.Calls.{Called, Fits, refused}
use Rattle.refusals.specs.declared.Refusal.{Refusal}
use Rattle.refusals.specs.Numbers.{refusal_number}
use Rattle.calls.proofs.Doors.{numbered}
use Rattle.calls.proofs.StaysInRange.{called-valid, called-count}
use Rattle.calls.proofs.Serial.{TakenSilently, bit-silent, select_low-silent}
use Rattle.lent_pair.specs.declared.Clock.{Clock}
use Rattle.lent_pair.specs.Pair.{Side, comes_to, to_left, to_right, first_refusal, pair_refusal, PairCalled, called_side, refused_side, pair_called}
use Rattle.lent_pair.specs.Lent.{side_answer}

-- a side that is not refused
pub record Ready (x : Side) : Type 0 where
  pub fits : Fits x.seen x.frame
  pub serial : is_serial x.state.link ≡ true

pub record BothReady (l r : Side) : Type 0 where
  pub left : Ready l
  pub right : Ready r

record NoRefusal (a b : ℕ) (p q : Bool) : Type 0 where
  first : a ≡ 0
  second : b ≡ 0
  third : p ≡ true
  fourth : q ≡ true

five_or_none : (a b : ℕ) (p q : Bool) → a ≡ 0 → b ≡ 0 → first_refusal 0 0 (p && q) ≡ 0 → NoRefusal a b p q
five_or_none a b true true x y h = record { first = x; second = y; third = refl; fourth = refl }
five_or_none a b true false x y h = absurd (omega (arith, h))
five_or_none a b false q x y h = absurd (omega (arith, h))

no_refusal : (a b : ℕ) (p q : Bool) → first_refusal a b (p && q) ≡ 0 → NoRefusal a b p q
no_refusal a b p q h =
    by_test (eqb a 0)
    (λ x. by_test (eqb b 0)
    (λ y. five_or_none a b p q (eqb-true a 0 x) (eqb-true b 0 y) (rw (eqb-true a 0 x, eqb-true b 0 y) at h))
    (λ y. absurd (eqb-false b 0 y (rw (x, y) at h))))
    (λ x. absurd (eqb-false a 0 x (rw x at h)))

pub both_ready : (l r : Side) → pair_refusal l r ≡ 0 → BothReady l r
unfolding pair_refusal
both_ready l r h =
    let none = no_refusal _ _ _ _ h in
    record { left = record { fits = none.first; serial = none.third }; right = record { fits = none.second; serial = none.fourth } }

pub ready_both : (l r : Side) → BothReady l r → pair_refusal l r ≡ 0
unfolding pair_refusal
ready_both l r h = rw (h.left.fits, h.right.fits, h.left.serial, h.right.serial)

-- on such a side what comes at a clock is taken
pub takes : (x : Side) → Ready x → (select bit : Bool) → TakenSilently (called_side x (comes_to select bit))
takes x h true bit = bit-silent x.seen x.state x.frame bit h.fits h.serial
takes x h false bit = select_low-silent x.seen x.state x.frame h.fits h.serial

-- so no refusal is left of it
not_refused :
    (x : Side)
    → Ready x
    → (select bit : Bool)
    → {event : Event}
    → event ≡ comes_to select bit
    → (why : Refusal)
    → {t : State} {g : List ℕ}
    → refused t g (refusal_number why) ≡ called_side x event
    → ⊥
not_refused x h select bit come why is =
    eqb-false _ 0 (numbered why) (ap (λ (k : Called). k.number) is ∙ rw come (takes x h select bit).number)

-- with number 0 and no reply
abbrev answer_of : Called → Called
answer_of k = side_answer k.state k.count k.frame

answered_so : (k : Called) → TakenSilently k → answer_of k ≡ k
answered_so k t =
    ap (λ (x : ℕ). record { state = k.state; number = x; reply = 0; count = k.count; frame = k.frame }) (sym t.number)
    ∙ ap (λ (x : ℕ). record { state = k.state; number = k.number; reply = x; count = k.count; frame = k.frame }) (sym t.reply)

-- what the code has found: whether each side is serial
module _ (l r : Side) (clock : Clock) {p q : Bool} (left-serial : p ≡ is_serial l.state.link) (right-serial : q ≡ is_serial r.state.link) where
  first_is : {n : ℕ} → n ≡ first_refusal (lent_refusal l.seen l.frame) (lent_refusal r.seen r.frame) (p && q) → n ≡ pair_refusal l r
  unfolding pair_refusal
  first_is first = rw (left-serial, right-serial) at first

  pub refuses :
      (why : Refusal)
      → refusal_number why ≡ first_refusal (lent_refusal l.seen l.frame) (lent_refusal r.seen r.frame) (p && q)
      → record { left = refused_side l (refusal_number why); right = refused_side r (refusal_number why) } ≡ pair_called l r clock
  unfolding pair_called
  refuses why first = rw (← first_is first, numbered why)

  module _ (none : 0 ≡ first_refusal (lent_refusal l.seen l.frame) (lent_refusal r.seen r.frame) (p && q)) where
    ready : BothReady l r
    ready = both_ready l r (sym (first_is none))

    pub left_taken :
        {event : Event}
        → event ≡ to_left clock
        → (why : Refusal)
        → {t : State} {g : List ℕ}
        → refused t g (refusal_number why) ≡ called_side l event
        → {k : PairCalled}
        → k ≡ pair_called l r clock
    left_taken come why is = absurd (not_refused l ready.left clock.left clock.bit come why is)

    pub right_taken :
        {event : Event}
        → event ≡ to_right clock
        → (why : Refusal)
        → {t : State} {g : List ℕ}
        → refused t g (refusal_number why) ≡ called_side r event
        → {k : PairCalled}
        → k ≡ pair_called l r clock
    right_taken come why is = absurd (not_refused r ready.right clock.right clock.bit come why is)

    pub accepts :
        {to-left to-right : Event}
        → to-left ≡ to_left clock
        → to-right ≡ to_right clock
        → {x y : Called}
        → x ≡ called_side l to-left
        → y ≡ called_side r to-right
        → record { left = answer_of x; right = answer_of y } ≡ pair_called l r clock
    unfolding pair_called
    accepts tl tr hx hy =
        rw (← first_is none, hx, hy, tl, tr, answered_so _ (takes l ready.left clock.left clock.bit), answered_so _ (takes r ready.right clock.right clock.bit))

-- a valid pair stays valid
pub pair-valid :
    (l r : Side) (clock : Clock)
    → Valid l.state
    → Valid r.state
    → Valid (pair_called l r clock).left.state × Valid (pair_called l r clock).right.state
unfolding pair_called
pair-valid l r clock vl vr =
    either (λ (k : PairCalled). Valid k.left.state × Valid k.right.state) (eqb (pair_refusal l r) 0)
    (called-valid l.seen l.state l.frame (to_left clock) vl, called-valid r.seen r.state r.frame (to_right clock) vr)
    (vl, vr)

-- and what is left of it
pub handed-valid :
    (l r : Side) (clock : Clock) (k : PairCalled)
    → k ≡ pair_called l r clock
    → Valid l.state
    → Valid r.state
    → Valid k.left.state × Valid k.right.state
handed-valid l r clock k is vl vr = rw is (pair-valid l r clock vl vr)

-- no count passes that of a frame's bytes
pub counts-most : (l r : Side) (clock : Clock) → ((pair_called l r clock).left.count ≤ 1024) × ((pair_called l r clock).right.count ≤ 1024)
unfolding pair_called
counts-most l r clock =
    either (λ (k : PairCalled). (k.left.count ≤ 1024) × (k.right.count ≤ 1024)) (eqb (pair_refusal l r) 0)
    (called-count l.seen l.state l.frame (to_left clock), called-count r.seen r.state r.frame (to_right clock))
    (omega arith, omega arith)

-- a clock that is refused, and one that is not
pub refused-clock :
    (l r : Side) (clock : Clock)
    → pair_refusal l r ≢ 0
    → pair_called l r clock ≡ record { left = refused_side l (pair_refusal l r); right = refused_side r (pair_refusal l r) }
unfolding pair_called
refused-clock l r clock h = rw (ne_eqb _ 0 h)

pub taken-clock :
    (l r : Side) (clock : Clock)
    → pair_refusal l r ≡ 0
    → pair_called l r clock ≡ record { left = called_side l (to_left clock); right = called_side r (to_right clock) }
unfolding pair_called
taken-clock l r clock h = rw (eq-eqb _ 0 h)

-- either way both sides have the pair's number
pub pair-numbers :
    (l r : Side) (clock : Clock)
    → ((pair_called l r clock).left.number ≡ pair_refusal l r) × ((pair_called l r clock).right.number ≡ pair_refusal l r)
unfolding pair_called
pair-numbers l r clock =
    either-told (λ (k : PairCalled). (k.left.number ≡ pair_refusal l r) × (k.right.number ≡ pair_refusal l r)) (eqb (pair_refusal l r) 0)
    (λ t. let none = eqb-true _ 0 t in
    let ready = both_ready l r none in
    ((takes l ready.left clock.left clock.bit).number ∙ sym none, (takes r ready.right clock.right clock.bit).number ∙ sym none))
    (λ t. (refl, refl))

-- so a call with a refusal number has changed nothing
pub pair_unmoved :
    (l r : Side) (clock : Clock)
    → (pair_called l r clock).left.number ≢ 0
    → pair_called l r clock ≡ record { left = refused_side l (pair_refusal l r); right = refused_side r (pair_refusal l r) }
pair_unmoved l r clock h = refused-clock l r clock (λ z. h ((pair-numbers l r clock).0 ∙ z))

-- and what a refused one is told to leave is of the two states that it came to
pub pair_kept :
    (l r : Side) (clock : Clock) (s t : State) (f g : List ℕ) (why : Refusal)
    → record { left = refused s f (refusal_number why); right = refused t g (refusal_number why) } ≡ pair_called l r clock
    → record { left = refused l.state f (refusal_number why); right = refused r.state g (refusal_number why) } ≡ pair_called l r clock
pair_kept l r clock s t f g why is =
    let unmoved = pair_unmoved l r clock (λ z. eqb-false _ 0 (numbered why) (ap (λ (k : PairCalled). k.left.number) is ∙ z)) in
    let number : refusal_number why ≡ pair_refusal l r = ap (λ (k : PairCalled). k.left.number) (is ∙ unmoved) in
    let left_frame : f ≡ l.frame = ap (λ (k : PairCalled). k.left.frame) (is ∙ unmoved) in
    let right_frame : g ≡ r.frame = ap (λ (k : PairCalled). k.right.frame) (is ∙ unmoved) in
    rw (number, left_frame, right_frame) (sym unmoved)
