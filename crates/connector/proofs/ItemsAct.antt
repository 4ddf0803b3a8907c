-- Over each way a list of items acts as its deeds do, one after the other: of a write's half bytes or bits exactly the last acts. So two
-- lists that are alike agree over any two ways.
use Rattle.std.proofs.Common.{Option, Some, None}
use Prim.Native.Nat.{ℕ, zero, suc}
use mathlib.Core.Path.{◌≡◌, refl, sym, ap, ◌∙◌, subst}
use mathlib.Core.Bool.{Bool, true, false}
use mathlib.Core.List.{List, [], ◌∷◌, ◌++◌, map}
use lib.ListN.{replicate}
use Rattle.base.specs.Bits.{bits7_4, bits3_0}
use Rattle.events.specs.declared.Event.{Event}
use Rattle.events.specs.declared.Event.TheVariants.{Transfer, Bit}
use Rattle.events.specs.declared.Deed.{Deed}
use Rattle.events.specs.declared.Deed.TheVariants as deeds
use Rattle.links.specs.declared.Link.TheVariants.{Parallel, Serial}
use Rattle.links.specs.declared.Pairing.{Pairing}
use Rattle.links.specs.declared.Pairing.TheVariants.{Empty, Upper}
use Rattle.serial.specs.declared.Sync.{Sync}
use Rattle.serial.specs.declared.Sync.TheVariants.{Body}
use Rattle.serial.specs.declared.Receiver.{Receiver}
use Rattle.serial.specs.declared.Receiver.TheVariants.{Outside}
use Rattle.serial.specs.declared.Received.{Received}
use Rattle.serial.specs.Serial.{byte_to}
use Rattle.links.specs.declared.Carried.{Carried}
use Rattle.links.specs.Halves.{writing, acts}
use Rattle.connector.specs.Listened.{Listened, listened}
use Rattle.sender.specs.Sender.{three_bytes}
use Rattle.links.specs.Taken.{by_width, taken_by, deed_of}
use Rattle.connector.specs.Items.{WholeWrite, Item, write, beside_wires, Way, whole_bytes, halves, serial, above, bits_of, write_events, write_deeds, onward, wires, wire_deeds, sync_after, none, writes, events}
use Rattle.connector.specs.Connector.{Performed, Controller, Connected, CameAll, Comes, elsewhere, comes, preceded, rests, carried_at, event_at, runs, act, does, HasDl, KeepsDl, Idles}
use Rattle.connector.specs.Statements.{ItemsAct, ListsAgree}
use Rattle.connector.proofs.HalvesPaired.{second-half-acts}
use Rattle.connector.proofs.WriteHeard.{last-bit-acts}

-- deeds before a run: none, or one before some
preceded-none : {S : Type 0} (x : Comes (CameAll S)) → preceded [] x ≡ x
unfolding preceded
preceded-none elsewhere = refl
preceded-none (comes r) = refl

preceded-one : {S : Type 0} (d : Deed) (ds : List Deed) (x : Comes (CameAll S)) → preceded (d ∷ []) (preceded ds x) ≡ preceded (d ∷ ds) x
unfolding preceded
preceded-one d ds elsewhere = refl
preceded-one d ds (comes r) = refl

module _ {S : Type 0} (on : Controller S) where
  -- a transfer of the parallel link, then the rest
  transfer_first : (s : S) (pairing : Pairing) (t : _) (dl : Bool) (c : Carried) (rest : List Event) →
      on.dl s ≡ dl → by_width dl pairing t ≡ c →
      runs on (record { state = s; link = Parallel pairing }) (Transfer t ∷ rest)
      ≡ preceded (c.deed ∷ []) (runs on (carried_at on s c).at rest)
  unfolding runs event_at taken_by
  transfer_first s pairing t dl c rest d e = rw (d, e)

  -- all that some bits brought acts, in order
  abbrev all_carried : S → List (Option Received) → S
  all_carried s [] = s
  all_carried s (x ∷ xs) = all_carried (on.perform s (deed_of x)).state xs

  -- bits, then the rest
  bits_first : (bits : List Bool) (s : S) (receiver : Receiver) (rest : List Event) →
      runs on (record { state = s; link = Serial receiver }) (map Bit bits ++ rest)
      ≡ preceded (map deed_of (listened receiver bits).brought)
      (runs on (record { state = all_carried s (listened receiver bits).brought; link = Serial (listened receiver bits).receiver }) rest)
  unfolding runs event_at taken_by listened
  bits_first [] s receiver rest = sym (preceded-none _)
  bits_first (b ∷ bits) s receiver rest = ap (preceded _) (bits_first bits _ _ rest) ∙ preceded-one _ _ _

  module _ (idles : Idles on) where
    -- bits that bring nothing, then a byte
    quiet : (n : ℕ) (s : S) (xs : List (Option Received)) → all_carried s (replicate n None ++ xs) ≡ all_carried s xs
    quiet zero s xs = refl
    quiet (suc n) s xs = ap (λ (a : Performed S). all_carried a.state (replicate n None ++ xs)) (idles s) ∙ quiet n s xs

    -- a write's second half leaves nothing open
    write_closes : (s : S) (register : Bool) (byte : ℕ) →
        (carried_at on s (acts (writing register byte))).at ≡ record { state = act on s register byte; link = Parallel Empty }
    write_closes s false byte = refl
    write_closes s true byte = refl

    -- a write over any way, then the rest
    write-first : (way : Way) (s : S) (sync : Sync) (w : WholeWrite) (items : List Item) (rest : List Event) →
        KeepsDl on way s (write w ∷ items) →
        runs on (rests way s sync) (write_events way w ++ rest)
        ≡ preceded (write_deeds way w) (runs on (rests (onward way) (act on s w.register w.byte) (Body w.register 0 0)) rest)
    unfolding HasDl by_width
    write-first whole_bytes s sync w items rest d = transfer_first s Empty (writing w.register w.byte) true _ rest d.0 refl
    write-first (halves low) s sync w items rest d =
        let both = second-half-acts w.register w.byte w.small (low 0) (low 1) in
        transfer_first s Empty _ false _ _ d.0 both.0
        ∙ ap (λ (a : Performed S). preceded (deeds.Nothing ∷ []) (runs on (record { state = a.state; link = Parallel (Upper w.register (bits7_4 w.byte)) })
        (Transfer (writing w.register (above (bits3_0 w.byte) (low 1))) ∷ rest))) (idles s)
        ∙ ap (preceded (deeds.Nothing ∷ []))
        (transfer_first s (Upper w.register (bits7_4 w.byte)) _ false _ rest d.0 both.1)
        ∙ preceded-one _ _ _
        ∙ ap (λ (at : Connected S). preceded (write_deeds (halves low) w) (runs on at rest)) (write_closes s w.register w.byte)
    write-first serial s sync w items rest d =
        bits_first (bits_of (three_bytes w.register w.byte)) s (Outside 0 sync) rest
        ∙ ap (λ (l : Listened). preceded (map deed_of l.brought)
        (runs on (record { state = all_carried s l.brought; link = Serial l.receiver }) rest))
        (last-bit-acts sync w.register w.byte w.small)
        ∙ ap (λ (t : S). preceded (write_deeds serial w) (runs on (record { state = t; link = Serial (Outside 0 (Body w.register 0 0)) }) rest))
        (quiet 23 s (Some (byte_to w.register w.byte) ∷ []))

  -- what a list keeps it goes on keeping
  keeps_on : (way : Way) (s : S) (item : Item) (items : List Item) → KeepsDl on way s (item ∷ items) →
      KeepsDl on way (does on s (item ∷ [])) items
  unfolding HasDl does
  keeps_on whole_bytes s item items d = d.1
  keeps_on (halves low) s item items d = d.1
  keeps_on serial s item items d = d

  keeps-onward : (way : Way) (s : S) (items : List Item) → KeepsDl on way s items → KeepsDl on (onward way) s items
  keeps-onward whole_bytes s items d = d
  keeps-onward (halves low) s items d = d
  keeps-onward serial s items d = d

  onward-rests : (way : Way) (s : S) (sync : Sync) → rests (onward way) s sync ≡ rests way s sync
  onward-rests whole_bytes s sync = refl
  onward-rests (halves low) s sync = refl
  onward-rests serial s sync = refl

  onward-write : (way : Way) (w : WholeWrite) → write_deeds (onward way) w ≡ write_deeds way w
  onward-write whole_bytes w = refl
  onward-write (halves low) w = refl
  onward-write serial w = refl

  onward-deeds : (way : Way) (items : List Item) → wire_deeds (onward way) items ≡ wire_deeds way items
  unfolding wire_deeds
  onward-deeds way [] = refl
  onward-deeds way (write w ∷ items) = rw (onward-write way w, onward-deeds way items)
  onward-deeds way (beside_wires x ∷ items) = ap (λ (ds : List Deed). x.deed ∷ ds) (onward-deeds way items)

  pub items-act : ItemsAct on
  unfolding preceded runs event_at wires wire_deeds sync_after does
  items-act idles way s sync [] d = refl
  items-act idles way s sync (write w ∷ items) d =
      write-first idles way s sync w items (wires (onward way) items) d
      ∙ ap (preceded (write_deeds way w))
      (items-act idles (onward way) (act on s w.register w.byte) (Body w.register 0 0) items
      (keeps-onward way _ items (keeps_on way s (write w) items d)))
      ∙ ap (λ (ds : List Deed). comes (record { deeds = write_deeds way w ++ ds; at = rests (onward way) (does on s (write w ∷ items)) (sync_after sync (write w ∷ items)) }))
      (onward-deeds way items)
      ∙ ap (λ (at : Connected S). comes (record { deeds = wire_deeds way (write w ∷ items); at = at })) (onward-rests way _ _)
  items-act idles way s sync (beside_wires x ∷ items) d =
      rw x.alike
      (ap (preceded (x.deed ∷ []))
      (items-act idles way (on.perform s x.deed).state sync items (keeps_on way s (beside_wires x) items d)))

  module _ (◌≈◌ : S → S → Type 0) where
    infix 4 ◌≈◌
    pub lists_agree : ListsAgree on ◌≈◌
    unfolding does
    lists_agree kept s t [] [] e none = e
    lists_agree kept s t _ _ e (writes {w = w} {v = v} {ws = ws} {vs = vs} p q a) =
        lists_agree kept (act on s w.register w.byte) (act on t v.register v.byte) ws vs
        (subst (λ (r : Bool). act on s w.register w.byte ≈ act on t r v.byte) p
        (kept.writes s t w.register w.byte v.byte w.small v.small e q)) a
    lists_agree kept s t _ _ e (events {x = x} {ws = ws} {vs = vs} a) = lists_agree kept (on.perform s x.deed).state (on.perform t x.deed).state ws vs (kept.events s t x e) a
