-- Over any sequence of calls, fonts and phase held, the frame goes on showing the picture.
use Prim.Native.Nat.{ℕ}
use mathlib.Core.List.{List, [], ◌∷◌, ◌++◌}
use mathlib.Core.Path.{◌≡◌, refl, ap, ◌∙◌}
use lib.ListN.{length, replicate}
use Rattle.picture.specs.Picture.{Seen, pictured}
use Rattle.events.specs.declared.Event.{Event}
use Rattle.calls.specs.State.{State, Valid}
use Rattle.calls.specs.Calls.{called, after_calls}
use Rattle.calls.proofs.StaysInRange.{called-valid, called-length}
use Rattle.demands.specs.Wires.{answers, numbers_of}
use Rattle.demands.proofs.Repainted.{called-shows}

pub after-valid : (e : Seen) (s : State) (frame : List ℕ) (calls : List Event) → Valid s → Valid (after_calls e s frame calls).state
unfolding after_calls
after-valid e s frame [] v = v
after-valid e s frame (call ∷ calls) v =
    after-valid e (called e s frame call).state (called e s frame call).frame calls (called-valid e s frame call v)

pub after-length : (e : Seen) (s : State) (frame : List ℕ) (calls : List Event) → length (after_calls e s frame calls).frame ≡ length frame
unfolding after_calls
after-length e s frame [] = refl
after-length e s frame (call ∷ calls) =
    after-length e (called e s frame call).state (called e s frame call).frame calls ∙ called-length e s frame call

-- so a frame that begins as the picture goes on being it
pub after-shows :
    (e : Seen) (s : State) (frame : List ℕ) (calls : List Event)
    → Valid s
    → frame ≡ pictured e s.memories s.control
    → (after_calls e s frame calls).frame ≡ pictured e (after_calls e s frame calls).state.memories (after_calls e s frame calls).state.control
unfolding after_calls
after-shows e s frame [] v h = h
after-shows e s frame (call ∷ calls) v h =
    after-shows e (called e s frame call).state (called e s frame call).frame calls (called-valid e s frame call v)
    (rw h (called-shows e s call v))

-- some calls, then some more
pub after_append :
    (e : Seen) (calls more : List Event) (s : State) (frame : List ℕ)
    → after_calls e s frame (calls ++ more) ≡ after_calls e (after_calls e s frame calls).state (after_calls e s frame calls).frame more
unfolding after_calls
after_append e [] more s frame = refl
after_append e (call ∷ calls) more s frame =
    after_append e calls more (called e s frame call).state (called e s frame call).frame

pub numbers_append :
    (e : Seen) (calls more : List Event) (s : State) (frame : List ℕ)
    → numbers_of e s frame (calls ++ more)
    ≡ numbers_of e s frame calls ++ numbers_of e (after_calls e s frame calls).state (after_calls e s frame calls).frame more
unfolding after_calls answers
numbers_append e [] more s frame = refl
numbers_append e (call ∷ calls) more s frame =
    ap (λ (ns : List ℕ). (called e s frame call).number ∷ ns)
    (numbers_append e calls more (called e s frame call).state (called e s frame call).frame)

pub zeros_append :
    (calls more : List Event)
    → replicate {A = ℕ} (length (calls ++ more)) 0 ≡ replicate (length calls) 0 ++ replicate (length more) 0
zeros_append [] more = refl
zeros_append (call ∷ calls) more = ap (λ (ns : List ℕ). 0 ∷ ns) (zeros_append calls more)
