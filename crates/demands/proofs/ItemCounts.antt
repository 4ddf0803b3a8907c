-- What items count: at the last of an item's calls, so their sum; and the same of lists that are alike.
use Prim.Native.Nat.{ℕ, ◌-◌}
use mathlib.Core.List.{List, [], ◌∷◌, ◌++◌, map}
use mathlib.Core.Path.{◌≡◌, refl, ap, ◌∙◌}
use native.Mathlib.Omega.{arith}
use lib.ListN.{take, drop, replicate}
use Rattle.deeds.specs.Transfers.{performed}
use Rattle.connector.specs.Items.{Item, write, beside_wires, deed, Way, whole_bytes, halves, serial, bits_of, wires, Alike, none, writes, events}
use Rattle.connector.specs.Connector.{act}
use Rattle.picture.specs.Picture.{Seen}
use Rattle.demands.specs.Wires.{Board, count_of, board, item_counts, calls_for, at_last, by_item, sum}
use Rattle.demands.proofs.ButDl.{board_but_dl, write-agrees, write-count-agrees, deed-agrees, deed-count-agrees}

-- a count at the last of an item's calls is their sum
module _ (n : ℕ) (ns : List ℕ) where
  sum-at-last : (way : Way) (item : Item) → sum (take (calls_for way item) (replicate (calls_for way item - 1) 0 ++ (n ∷ ns))) ≡ n
  unfolding sum wires bits_of
  sum-at-last whole_bytes (write w) = omega arith
  sum-at-last (halves low) (write w) = omega arith
  sum-at-last serial (write w) = omega arith
  sum-at-last way (beside_wires x) = omega arith

  past-last : (way : Way) (item : Item) → drop (calls_for way item) (replicate (calls_for way item - 1) 0 ++ (n ∷ ns)) ≡ ns
  unfolding wires bits_of
  past-last whole_bytes (write w) = refl
  past-last (halves low) (write w) = refl
  past-last serial (write w) = refl
  past-last way (beside_wires x) = refl

pub sums-back : (e : Seen) (way : Way) (list : List Item) (b : Board) →
    map sum (by_item way list (at_last way list (item_counts e b list))) ≡ item_counts e b list
unfolding by_item at_last item_counts
sums-back e way [] b = refl
sums-back e way (item ∷ list) b =
    let n = count_of (performed b.memories b.control (deed item)) in
    let more = at_last way list (item_counts e ((board e).perform b (deed item)).state list) in
    let calls = replicate (calls_for way item - 1) 0 ++ (n ∷ more) in
    ap (λ (k : ℕ). k ∷ map sum (by_item way list (drop (calls_for way item) calls))) (sum-at-last n more way item)
    ∙ ap (λ (ns : List ℕ). n ∷ map sum (by_item way list ns)) (past-last n more way item)
    ∙ ap (λ (ns : List ℕ). n ∷ ns) (sums-back e way list ((board e).perform b (deed item)).state)

-- lists that are alike count the same
pub counts_agree : (e : Seen) (s t : Board) (list others : List Item) → board_but_dl s ≡ board_but_dl t → Alike list others →
    item_counts e s list ≡ item_counts e t others
unfolding item_counts
counts_agree e s t [] [] same none = refl
counts_agree e s t _ _ same (writes {w = w} {v = v} {ws = ws} {vs = vs} p q a) =
    let one = write-count-agrees e s t same w v p q in
    let more = counts_agree e (act (board e) s w.register w.byte) (act (board e) t v.register v.byte) ws vs (write-agrees e s t same w v p q) a in
    cc (one, more)
counts_agree e s t _ _ same (events {x = x} {ws = ws} {vs = vs} a) =
    let one = deed-count-agrees e s t same x.deed in
    let more = counts_agree e ((board e).perform s x.deed).state ((board e).perform t x.deed).state ws vs (deed-agrees e s t same x.deed) a in
    cc (one, more)
