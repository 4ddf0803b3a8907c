-- Every sequence of calls yields what the definitions yield.
use Prim.Native.Nat.{ℕ}
use mathlib.Core.List.{List, [], ◌∷◌}
use mathlib.Core.Path.{◌≡◌, refl, ap, ◌∙◌}
use Rattle.std.proofs.Common.{Result, Ok, Err}
use Rattle.refusals.specs.declared.Refusal.{Refusal}
use Rattle.calls.specs.Calls.{Called}
use Rattle.panel.specs.declared.Panel.{Panel}
use Rattle.panel.specs.declared.Outcome.{Outcome}
use Rattle.panel.specs.Handed.{state_of, handed, panel_after}
use Rattle.demands.specs.Demand2.{Given, Run, handed_on, yielded, SequencesAsDefined}

-- a call goes on from the panel that there is then, and from the frame
goes_on :
    (p : Panel) (outcome : Result Outcome Refusal) (frame : List ℕ) (given : List Given)
    → yielded (state_of (panel_after p outcome)) frame given ≡ yielded (handed p outcome frame).state (handed p outcome frame).frame given
goes_on p (Ok outcome) frame given = refl
goes_on p (Err refusal) frame given = refl

pub sequences_as_defined : SequencesAsDefined
unfolding Run handed_on yielded
sequences_as_defined p frame [] [] run = refl
sequences_as_defined p frame [] (l ∷ left) run = absurd run
sequences_as_defined p frame (g ∷ given) [] run = absurd run
sequences_as_defined p frame (g ∷ given) (l ∷ left) run =
    ap (λ (more : List Called). handed p l.outcome l.frame ∷ more)
    (sequences_as_defined (panel_after p l.outcome) l.frame given left run.1 ∙ goes_on p l.outcome l.frame given)
    ∙ ap (λ (k : Called). k ∷ yielded k.state k.frame given) run.0
