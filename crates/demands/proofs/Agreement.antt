-- The panel is a controller at the end of its link: a call is a step of the links' connector. So the links' theorems hold of its calls.
use Rattle.std.proofs.Common.{None, Option, Some}
use Rattle.links.specs.declared.Carried.{Carried}
use Prim.Native.Nat.{ℕ, zero, suc, ◌-◌}
use mathlib.Core.Bool.{true, false}
use mathlib.Core.List.{List, [], ◌∷◌, ◌++◌, map}
use mathlib.Core.Path.{◌≡◌, refl, sym, ap, ◌∙◌, subst}
use native.Mathlib.Omega.{arith}
use lib.ListN.{length, replicate}
use Rattle.base.proofs.Painting.{painted-length}
use Rattle.controller.specs.declared.Control.{Control}
use Rattle.controller.specs.declared.Region.{Region}
use Rattle.controller.specs.Memories.{Memories}
use Rattle.deeds.specs.Transfers.{performed}
use Rattle.events.specs.declared.Event.{Event}
use Rattle.events.specs.declared.Deed.{Deed}
use Rattle.events.specs.declared.Deed.TheVariants as deeds
use Rattle.links.specs.declared.Link.{Link}
use Rattle.serial.specs.declared.Sync.TheVariants.{Lost}
use Rattle.connector.specs.Items.{WholeWrite, Item, write, beside_wires, deed, Way, whole_bytes, halves, serial, bits_of, wires, write_deeds, wire_deeds, idle_on, resting}
use Rattle.connector.specs.Connector.{Performed, CameAll, Comes, elsewhere, comes, next, preceded, carried_at, taken_at, event_at, runs, Idles}
use Rattle.connector.proofs.ItemsAct.{items-act, lists_agree}
use Rattle.picture.specs.declared.Look.{Look}
use Rattle.picture.specs.Picture.{Seen, look_of, wide}
use Rattle.repaint.specs.Repaint.{repainted}
use Rattle.calls.specs.State.{state}
use Rattle.deeds.proofs.Untimed.{performed_timed}
use Rattle.calls.specs.Calls.{Called, unless_other, taken_on, timeless, Fits, called, Stands, after_calls}
use Rattle.demands.proofs.Quiet.{none-painted, none-counted}
use Rattle.demands.proofs.Timely.{admitted-timely, AllTimely, all_same, wires-timely, alike-timely}
use Rattle.demands.specs.Wires.{answers, numbers_of, counts_of, Board, board_of, count_of, board, given, item_counts, calls_for, at_last, by_item, sum, on_link, standing, with_dl}
use Rattle.demands.specs.Agreement.{DoesBy, ReceivedAsGiven, SentIsReceived, WritesAreReceived, LinksAgree}
use Rattle.demands.proofs.ButDl.{board_but_dl, board_respects}
use Rattle.demands.proofs.ItemCounts.{sums-back, counts_agree}

-- where nothing reaches the controller nothing is painted, and nothing counted
board_idles : (e : Seen) → Idles (board e)
unfolding performed
board_idles e b =
    rw (none-painted e.fonts b.memories (look_of e.phase b.control) b.frame)

-- a painted frame keeps its length
repainted-fits : (e : Seen) (m : Memories) (look : Look) (r : Region) (frame : List ℕ) → Fits e frame → Fits e (repainted wide e.fonts m look r frame)
unfolding repainted
repainted-fits e m look r frame h = rw (painted-length _ _ frame) h

-- what each of some deeds counts, done in order
deed_counts : Seen → Board → List Deed → List ℕ
deed_counts e b [] = []
deed_counts e b (d ∷ ds) = count_of (performed b.memories b.control d) ∷ deed_counts e ((board e).perform b d).state ds

-- calls in a row on a board on a link: where they stand, and what they answer
record Tells (e : Seen) (b : Board) (l : Link) (events : List Event) (x : CameAll Board) : Type 0 where
  stands : after_calls e (on_link b l) b.frame events ≡ standing x.at.state x.at.link
  accepted : numbers_of e (on_link b l) b.frame events ≡ replicate (length events) 0
  counted : counts_of e (on_link b l) b.frame events ≡ deed_counts e b x.deeds

-- a run goes on from where its first event left it
goes_on : (d : Deed) (r : Comes (CameAll Board)) (x : CameAll Board) → preceded (d ∷ []) r ≡ comes x →
    (y : CameAll Board) × ((r ≡ comes y) × (record { deeds = d ∷ y.deeds; at = y.at } ≡ x))
unfolding preceded
goes_on d elsewhere x is = absurd (let z : ◌≡◌ {A = ℕ} 0 1 = cc in omega arith)
goes_on d (comes y) x is = (y, (refl, cc))

module _ (e : Seen) where
  pub call_is_connected : (b : Board) (l : Link) (event : Event) → Fits e b.frame → timeless b.control event ≡ false →
      DoesBy (called e (on_link b l) b.frame event) (on_link b l) b.frame (event_at (board e) (record { state = b; link = l }) event)
  unfolding event_at
  call_is_connected b l event h w = rw (admitted-timely e (on_link b l) b.frame event h w) (by (taken_on (on_link b l) event))
    where
      by : (t : Option Carried) → DoesBy (unless_other e (on_link b l) b.frame t) (on_link b l) b.frame (taken_at (board e) b t)
      by None = refl
      by (Some c) = record { state = refl; frame = refl; number = refl; reply = refl }

  -- what the connector reaches, the calls reach
  runs_tell : (events : List Event) (b : Board) (l : Link) (x : CameAll Board) → Fits e b.frame → AllTimely b.control events →
      runs (board e) (record { state = b; link = l }) events ≡ comes x → Tells e b l events x
  unfolding runs event_at after_calls answers deed_counts AllTimely
  runs_tell [] b l x h w is =
      let same : record { deeds = []; at = record { state = b; link = l } } ≡ x = cc in
      subst (Tells e b l []) same (record { stands = refl; accepted = refl; counted = refl })
  runs_tell (event ∷ events) b l x h w is =
      by (λ to at. runs_tell events to at) (taken_on (on_link b l) event) (admitted-timely e (on_link b l) b.frame event h w.0) is
    where
      by :
          ((to : Board) (at : Link) (y : CameAll Board) → Fits e to.frame → AllTimely to.control events → runs (board e) (record { state = to; link = at }) events ≡ comes y →
          Tells e to at events y)
          → (t : Option Carried)
          → called e (on_link b l) b.frame event ≡ unless_other e (on_link b l) b.frame t
          → next (taken_at (board e) b t) (λ o. preceded (o.deed ∷ []) (runs (board e) o.at events)) ≡ comes x
          → Tells e b l (event ∷ events) x
      by on None k is = absurd (let z : ◌≡◌ {A = ℕ} 0 1 = cc in omega arith)
      by on (Some c) k is =
          let to = (carried_at (board e) b c).at in
          let more = goes_on c.deed (runs (board e) to events) x is in
          let rest = on to.state to.link more.0 (repainted-fits e _ _ _ b.frame h)
          (all_same b.control to.state.control events (sym (performed_timed b.memories b.control c.deed)) w.1) more.1.0 in
          subst (Tells e b l (event ∷ events)) more.1.1
          (record {
            stands = ap (λ (k : Called). after_calls e k.state k.frame events) k ∙ rest.stands;
            accepted =
                ap (λ (k : Called). k.number ∷ numbers_of e k.state k.frame events) k
                ∙ ap (λ (ns : List ℕ). 0 ∷ ns) rest.accepted;
            counted =
                ap (λ (k : Called). k.count ∷ counts_of e k.state k.frame events) k
                ∙ ap (λ (ns : List ℕ). count_of (performed b.memories b.control c.deed) ∷ ns) rest.counted;
          })

  -- where nothing reaches the controller 0 is counted
  quiet-counts : (n : ℕ) (b : Board) (ds : List Deed) → deed_counts e b (replicate n deeds.Nothing ++ ds) ≡ replicate n 0 ++ deed_counts e b ds
  unfolding deed_counts performed
  quiet-counts zero b ds = refl
  quiet-counts (suc n) b ds =
      ap (λ (k : ℕ). k ∷ deed_counts e ((board e).perform b deeds.Nothing).state (replicate n deeds.Nothing ++ ds))
      (none-counted b.control.view b.memories.text)
      ∙ ap (λ (a : Performed Board). 0 ∷ deed_counts e a.state (replicate n deeds.Nothing ++ ds)) (board_idles e b)
      ∙ ap (λ (ns : List ℕ). 0 ∷ ns) (quiet-counts n b ds)

  -- so of a write's calls the last has the count
  write-counts : (way : Way) (b : Board) (w : WholeWrite) (ds : List Deed) →
      deed_counts e b (write_deeds way w ++ ds)
      ≡ replicate (calls_for way (write w) - 1) 0
      ++ (count_of (performed b.memories b.control (deed (write w))) ∷ deed_counts e ((board e).perform b (deed (write w))).state ds)
  unfolding deed_counts wires bits_of
  write-counts whole_bytes b w ds = refl
  write-counts (halves low) b w ds = quiet-counts 1 b (deed (write w) ∷ ds)
  write-counts serial b w ds = quiet-counts 23 b (deed (write w) ∷ ds)

  wire_counts : (way : Way) (list : List Item) (b : Board) → deed_counts e b (wire_deeds way list) ≡ at_last way list (item_counts e b list)
  unfolding deed_counts item_counts at_last wires wire_deeds
  wire_counts way [] b = refl
  wire_counts way (write w ∷ list) b =
      write-counts way b w (wire_deeds way list)
      ∙ ap (λ (ns : List ℕ). replicate (calls_for way (write w) - 1) 0 ++ (count_of (performed b.memories b.control (deed (write w))) ∷ ns))
      (wire_counts way list ((board e).perform b (deed (write w))).state)
  wire_counts way (beside_wires x ∷ list) b =
      ap (λ (ns : List ℕ). count_of (performed b.memories b.control x.deed) ∷ ns) (wire_counts way list ((board e).perform b x.deed).state)

-- an idle link has nothing half received
idle-rests : (way : Way) → idle_on way ≡ resting way Lost
idle-rests whole_bytes = refl
idle-rests (halves low) = refl
idle-rests serial = refl

pub writes_are_received : WritesAreReceived
writes_are_received e way s frame list h l w d =
    let from = board_of s frame in
    let told = runs_tell e (wires way list) from (resting way Lost) _ h (wires-timely s.control way list w) (items-act (board e) (board_idles e) way from Lost list d) in
    let sums = ap (λ (ns : List ℕ). map sum (by_item way list ns)) (told.counted ∙ wire_counts e way list from) ∙ sums-back e way list from in
    subst (λ (x : Link). ReceivedAsGiven e way (state s.memories s.control x) frame list) (sym (l ∙ idle-rests way))
    (record { stands = told.stands; accepted = told.accepted; counts = told.counted ∙ wire_counts e way list from; sums = sums })

pub sent-is-received : SentIsReceived
sent-is-received e s frame list h l w = writes_are_received e serial s frame list h l w tt

pub links_agree : LinksAgree
links_agree e way other s t frame list others h l k same alike w d f =
    let timed = ap (λ (c : Control). c.time.timed) same.controls in
    let one = writes_are_received e way s frame list h l w d in
    let two = writes_are_received e other t frame others h k (alike-timely s.control t.control list others timed alike w) f in
    let start : board_but_dl (board_of s frame) ≡ board_but_dl (board_of t frame) = cc (same.memories, same.controls) in
    let end : board_but_dl (given e s frame list) ≡ board_but_dl (given e t frame others) =
    lists_agree (board e) (λ a b. board_but_dl a ≡ board_but_dl b) (board_respects e) (board_of s frame) (board_of t frame) list others start alike in
    record {
      states = record {
        memories =
            ap (λ (k : Stands). k.state.memories) one.stands
            ∙ ap (λ (b : Board). b.memories) end
            ∙ sym (ap (λ (k : Stands). k.state.memories) two.stands);
        controls =
            ap (λ (k : Stands). with_dl true k.state.control) one.stands
            ∙ ap (λ (b : Board). b.control) end
            ∙ sym (ap (λ (k : Stands). with_dl true k.state.control) two.stands);
      };
      frames =
          ap (λ (k : Stands). k.frame) one.stands
          ∙ ap (λ (b : Board). b.frame) end
          ∙ sym (ap (λ (k : Stands). k.frame) two.stands);
      sums = one.sums ∙ counts_agree e (board_of s frame) (board_of t frame) list others start alike ∙ sym two.sums;
    }
