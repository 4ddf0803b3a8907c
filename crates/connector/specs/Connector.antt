-- Document 01, "Links": a controller at the end of its link. What a deed does to it is a parameter.
use Rattle.std.specs.Prelude.{ℕ, ◌≡◌, Bool, true, false, List, [], ◌∷◌, ◌++◌, None, Option, Some}
use Rattle.events.specs.declared.Event.{Event}
use Rattle.events.specs.declared.Deed.{Deed}
use Rattle.events.specs.declared.Deed.TheVariants.{Nothing, Whole}
use Rattle.links.specs.declared.Link.{Link}
use Rattle.serial.specs.declared.Sync.{Sync}
use Rattle.links.specs.declared.Carried.{Carried}
use Rattle.links.specs.Halves.{writing}
use Rattle.links.specs.Taken.{taken_by, replied}
use Rattle.connector.specs.Items.{Item, deed, Way, whole_bytes, halves, serial, resting}

-- the state that a deed leaves, and the byte that a read answers
pub record Performed (S : Type 0) : Type 0 where
  pub state : S
  pub answer : ℕ

-- any controller: what a deed does to it, and its flag DL
pub record Controller (S : Type 0) : Type 0 where
  pub perform : S → Deed → Performed S
  pub dl : S → Bool

-- a controller's state, and its link
pub record Connected (S : Type 0) : Type 0 where
  pub state : S
  pub link : Link

-- what comes of an event: what of it reached the controller, what it leaves, and its reply
pub record Came (S : Type 0) : Type 0 where
  pub deed : Deed
  pub at : Connected S
  pub reply : ℕ

-- what comes of events in turn: what of each reached the controller, and what they leave
pub record CameAll (S : Type 0) : Type 0 where
  pub deeds : List Deed
  pub at : Connected S

-- something comes, unless an event is of the other link
pub data Comes (X : Type 0) : Type 0 where
  elsewhere : Comes X
  comes : X → Comes X

-- and then
abbrev pub next : {X Y : Type 0} → Comes X → (X → Comes Y) → Comes Y
next elsewhere then = elsewhere
next (comes x) then = then x

-- a run after these deeds
unfoldable pub preceded : {S : Type 0} → List Deed → Comes (CameAll S) → Comes (CameAll S)
preceded deeds elsewhere = elsewhere
preceded deeds (comes r) = comes (record { deeds = deeds ++ r.deeds; at = r.at })

-- a state on the link of a way, with nothing half received
abbrev pub rests : {S : Type 0} → Way → S → Sync → Connected S
rests way s sync = record { state = s; link = resting way sync }

module _ {S : Type 0} (on : Controller S) where
  -- the answer goes back
  abbrev pub goes_back : Carried → Performed S → Came S
  goes_back c p =
      record {
        deed = c.deed;
        at = record { state = p.state; link = (replied c.rest p.answer).link };
        reply = (replied c.rest p.answer).reply;
      }

  -- the deed is done, and the answer goes back
  abbrev pub carried_at : S → Carried → Came S
  carried_at s c = goes_back c (on.perform s c.deed)

  abbrev pub taken_at : S → Option Carried → Comes (Came S)
  taken_at s None = elsewhere
  taken_at s (Some c) = comes (carried_at s c)

  -- one event
  unfoldable pub event_at : Connected S → Event → Comes (Came S)
  event_at at event = taken_at at.state (taken_by (on.dl at.state) at.link event)

  -- events in turn, up to one of the other link
  unfoldable pub runs : Connected S → List Event → Comes (CameAll S)
  runs at [] = comes (record { deeds = []; at = at })
  runs at (event ∷ events) = next (event_at at event) (λ o. preceded (o.deed ∷ []) (runs o.at events))

  -- the state after a byte written to a register
  abbrev pub act : S → Bool → ℕ → S
  act s register byte = (on.perform s (Whole (writing register byte))).state

  -- the items themselves: each is done, in order
  unfoldable pub does : S → List Item → S
  does s [] = s
  does s (item ∷ items) = does (on.perform s (deed item)).state items

  -- each state reached, the first included, has this DL
  unfoldable pub HasDl : Bool → S → List Item → Type 0
  HasDl d s [] = on.dl s ≡ d
  HasDl d s (item ∷ items) = (on.dl s ≡ d) × HasDl d (on.perform s (deed item)).state items

  -- the items keep each link's DL: 1 for bytes, 0 for half bytes, either for serial
  abbrev pub KeepsDl : Way → S → List Item → Type 0
  KeepsDl whole_bytes s items = HasDl true s items
  KeepsDl (halves low) s items = HasDl false s items
  KeepsDl serial s items = Unit {0}

  -- where nothing reaches the controller it stays as it is, and answers 0
  abbrev pub Idles : Type 0
  Idles = (s : S) → on.perform s Nothing ≡ record { state = s; answer = 0 }
