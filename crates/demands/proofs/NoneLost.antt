-- Where no write is lost, doing the items is carrying them out.
use Prim.Native.Nat.{ℕ}
use mathlib.Core.Bool.{Bool, true, false}
use mathlib.Core.List.{List, [], ◌∷◌}
use mathlib.Core.Path.{◌≡◌, refl, ap, ◌∙◌}
use Rattle.controller.specs.declared.Control.{Control}
use Rattle.time.specs.Time.{busy, lost}
use Rattle.deeds.specs.Transfers.{Acted, performed}
use Rattle.deeds.proofs.Untimed.{unlost_acted}
use Rattle.links.specs.Halves.{writing}
use Rattle.connector.specs.Items.{Item, write, beside_wires, deed}
use Rattle.connector.specs.Connector.{does}
use Rattle.picture.specs.Picture.{Seen}
use Rattle.demands.specs.Wires.{Board, board_of, board_after, board, NoneLost, all_carried_out}
use Rattle.demands.specs.Agreement.{CarriedOutWhereNoneLost}

-- a write is lost exactly while the panel is busy
writing-lost : (c : Control) (register : Bool) (byte : ℕ) → lost c (writing register byte) ≡ busy c
writing-lost c false byte = refl
writing-lost c true byte = refl

does-carried : (e : Seen) (list : List Item) (b : Board) → NoneLost e b list → does (board e) b list ≡ all_carried_out e b list
unfolding does NoneLost all_carried_out performed
does-carried e [] b h = refl
does-carried e (write w ∷ list) b h =
    let t = writing w.register w.byte in
    does-carried e list ((board e).perform b (deed (write w))).state h.1
    ∙ ap (λ (a : Acted). all_carried_out e (board_after e b a) list)
    (unlost_acted b.memories b.control t (writing-lost b.control w.register w.byte ∙ h.0))
does-carried e (beside_wires x ∷ list) b h = does-carried e list ((board e).perform b x.deed).state h

pub carried_out_where_none_lost : CarriedOutWhereNoneLost
carried_out_where_none_lost e s frame list h = does-carried e list (board_of s frame) h
