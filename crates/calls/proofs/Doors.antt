-- The paths through a call: refused for its buffers, for want of time or as of the other link, or accepted.
use Rattle.std.proofs.Common.{None, Option, Some, Result, Ok, Err, IsErrAnd}
use mathlib.Core.Bool.{true, false}
use mathlib.Core.List.{List}
use mathlib.Core.Path.{◌≡◌, ◌∙◌, ap, refl, sym}
use Prim.Native.Nat.{ℕ}
use lib.Dec.{eqb}
use borrow.Author.Tests.{eqb-false}
use Rattle.deeds.specs.Transfers.{Acted, performed}
use Rattle.events.specs.declared.Event.{Event}
use Rattle.links.specs.declared.Carried.{Carried}
use Rattle.picture.specs.Picture.{Seen}
use Rattle.picture.specs.Refusals.{lent_refusal}
use Rattle.refusals.specs.declared.Refusal.{Refusal}
use Rattle.refusals.specs.declared.Refusal.TheVariants.{Frame, HalfFont, FullFont, Buffer, OtherLink, Cut, Mark, Kind, Value}
use Rattle.refusals.specs.Numbers.{refusal_number}
use Rattle.calls.specs.State.{State}
use Rattle.calls.specs.Calls.{refused, accepted, unless_other, taken_on, timeless, Called, called}
use Rattle.calls.proofs.StaysInRange.{called_unmoved}

-- no refusal has the number 0
pub numbered : (why : Refusal) → eqb (refusal_number why) 0 ≡ false
numbered Frame = refl
numbered HalfFont = refl
numbered FullFont = refl
numbered Buffer = refl
numbered OtherLink = refl
numbered Cut = refl
numbered Mark = refl
numbered Kind = refl
numbered Value = refl

-- the answer of a call that hands a refusal on
pub handed_on : {T : Type 0} {why : Refusal} (r : Result T Refusal) → IsErrAnd r (λ x. x ≡ why) → r ≡ Err why
handed_on (Ok x) h = absurd h
handed_on (Err x) h = ap (λ y. Err y) h

module _ (e : Seen) (s : State) (f : List ℕ) (event : Event) where
  pub refuses : (why : Refusal) → refusal_number why ≡ lent_refusal e f → refused s f (refusal_number why) ≡ called e s f event
  unfolding called
  refuses why is = rw (← is, numbered why)

  module _ (fits : 0 ≡ lent_refusal e f) where
    pub refuses-timeless : timeless s.control event ≡ true → refused s f 8 ≡ called e s f event
    unfolding called
    refuses-timeless w = rw (← fits, w)

    admits : timeless s.control event ≡ false → (t : Option Carried) → t ≡ taken_on s event → unless_other e s f t ≡ called e s f event
    unfolding called
    admits w t is = ap (unless_other e s f) is ∙ rw (← fits, w)

    pub refuses-other : timeless s.control event ≡ false → None ≡ taken_on s event → refused s f 5 ≡ called e s f event
    refuses-other w is = admits w None is

    pub accepts :
        timeless s.control event ≡ false
        → (c : Carried)
        → Some c ≡ taken_on s event
        → (a : Acted)
        → a ≡ performed s.memories s.control c.deed
        → accepted e f a c.rest ≡ called e s f event
    accepts w c is a done = ap (λ (x : Acted). accepted e f x c.rest) done ∙ admits w (Some c) is

  -- the call leaves a refused call's state and frame as they were; so what it is told to leave is of the state that it came to
  pub refused_kept : (t : State) (g : List ℕ) (why : Refusal) → refused t g (refusal_number why) ≡ called e s f event → refused s g (refusal_number why) ≡ called e s f event
  refused_kept t g why is =
      let number = ap (λ (k : Called). k.number) is in
      let unmoved = called_unmoved e s f event (λ z. eqb-false _ 0 (numbered why) (number ∙ z)) in
      let frame : g ≡ f = ap (λ (k : Called). k.frame) (is ∙ unmoved) in
      rw (frame, number) (sym unmoved)
