-- Demand 3, from the laws of one call: what it names becomes the picture's, and what it does not name keeps its byte in frame and picture.
use Rattle.std.proofs.Common.{None, Option, Some}
use Rattle.links.specs.declared.Carried.{Carried}
use Prim.Native.Nat.{ℕ, ◌<◌, ◌/◌, ◌%◌}
use mathlib.Core.Bool.{Bool, false}
use mathlib.Core.List.{List, [], ◌∷◌}
use mathlib.Core.Path.{◌≡◌, refl, sym, ◌∙◌}
use native.Mathlib.Omega.{arith}
use lib.ListN.{length, get_or}
use Rattle.base.specs.Choice.{when◌then◌else◌}
use Rattle.base.specs.Painting.{count}
use Rattle.base.proofs.Choice.{either-told, by_test}
use Rattle.base.proofs.Counting.{count_none}
use Rattle.base.proofs.Painting.{painted-at}
use Rattle.base.proofs.Tests.{or_neither}
use Rattle.controller.specs.Named.{covers}
use Rattle.deeds.specs.Transfers.{performed}
use Rattle.events.specs.declared.Event.{Event}
use Rattle.picture.specs.Picture.{Seen, look_of, wide}
use Rattle.picture.proofs.Wide.{picture-at}
use Rattle.picture.proofs.Accepted as sizes
use Rattle.repaint.specs.Repaint.{named, repainted, count_named}
use Rattle.calls.specs.State.{State, Valid}
use Rattle.calls.specs.Calls.{Called, unless_other, taken_on, reaching, timeless, Fits, called, after_calls}
use Rattle.calls.proofs.StaysInRange.{fresh-state-valid, called-valid, admitted, still_fits}
use Rattle.demands.proofs.Repainted.{performed_unnamed}
use Rattle.demands.proofs.Bounded.{at_most_64, glyph_at_most_32, graphic_at_most_1}
use Rattle.demands.proofs.Timely.{timeless_names}
use Rattle.demands.proofs.Sequences.{after-valid, after-length, after-shows}
use Rattle.demands.specs.Demand3.{picture_of, named_acted, named_by, ever_named, PictureStands, NamedBytesShown, CountIsNumber, Demand3}

picture-stands : PictureStands
picture-stands e s calls v = after-shows e s (picture_of e s) calls v refl

-- by what the link makes of a call
abbrev named_taken : State → Option Carried → ℕ → Bool
named_taken s t = named_acted (performed s.memories s.control (reaching t))

taken-counts : (e : Seen) (s : State) (frame : List ℕ) (t : Option Carried) → (unless_other e s frame t).count ≡ count 1024 (named_taken s t)
unfolding count_named performed named covers
taken-counts e s frame None = sym (count_none 1024 _ (λ i h. refl))
taken-counts e s frame (Some c) = refl

count-is-number : CountIsNumber
count-is-number e s frame call fits =
    rw (admitted e s frame call fits)
    (either-told (λ (k : Called). k.count ≡ count 1024 (named_by s call)) (timeless s.control call)
    (λ w. sym (count_none 1024 (named_by s call) (λ i h. timeless_names s call i w)))
    (λ w. taken-counts e s frame (taken_on s call)))

-- what one call leaves of the byte at a place of the frame
taken-shows :
    (e : Seen) (s : State) (frame : List ℕ) (t : Option Carried) (i : ℕ)
    → length frame ≡ 1024
    → i < 1024
    → get_or (unless_other e s frame t).frame i 0
    ≡ (when named_taken s t i then get_or (picture_of e (unless_other e s frame t).state) i 0 else get_or frame i 0)
unfolding repainted performed named covers
taken-shows e s frame None i l h = refl
taken-shows e s frame (Some c) i l h =
    let a = performed s.memories s.control c.deed in
    rw (picture-at wide e.fonts a.memories (look_of e.phase a.done.control) i h) (painted-at _ _ frame i (rw l h))

-- and of the picture's byte there, where it is not named
taken-keeps :
    (e : Seen) (s : State) (frame : List ℕ) (t : Option Carried) (i : ℕ)
    → Valid s
    → i < 1024
    → named_taken s t i ≡ false
    → get_or (picture_of e (unless_other e s frame t).state) i 0 ≡ get_or (picture_of e s) i 0
unfolding named
taken-keeps e s frame None i v h u = refl
taken-keeps e s frame (Some c) i v h u =
    let a = performed s.memories s.control c.deed in
    picture-at wide e.fonts a.memories (look_of e.phase a.done.control) i h
    ∙ performed_unnamed e s.memories s.control v.control c.deed (i / 32) (i % 32) (omega arith) u
    ∙ sym (picture-at wide e.fonts s.memories (look_of e.phase s.control) i h)

module _ (e : Seen) (s : State) (frame : List ℕ) (call : Event) (i : ℕ) (fits : Fits e frame) (h : i < 1024) where
  call-shows :
      get_or (called e s frame call).frame i 0
      ≡ (when named_by s call i then get_or (picture_of e (called e s frame call).state) i 0 else get_or frame i 0)
  call-shows =
      rw (admitted e s frame call fits)
      (either-told
      (λ (k : Called). get_or k.frame i 0 ≡ (when named_by s call i then get_or (picture_of e k.state) i 0 else get_or frame i 0))
      (timeless s.control call)
      (λ w. rw (timeless_names s call i w))
      (λ w. taken-shows e s frame (taken_on s call) i
      (sizes.accepted (length frame) (length e.fonts.half) (length e.fonts.full) fits).frame h))

  call-keeps : Valid s → named_by s call i ≡ false → get_or (picture_of e (called e s frame call).state) i 0 ≡ get_or (picture_of e s) i 0
  call-keeps v u =
      rw (admitted e s frame call fits)
      (either-told (λ (k : Called). get_or (picture_of e k.state) i 0 ≡ get_or (picture_of e s) i 0) (timeless s.control call) (λ w. refl)
      (λ w. taken-keeps e s frame (taken_on s call) i v h u))

-- over a sequence, a place that no call names keeps its picture byte
after-keeps :
    (e : Seen) (s : State) (frame : List ℕ) (calls : List Event) (i : ℕ)
    → Valid s
    → Fits e frame
    → i < 1024
    → ever_named e s frame calls i ≡ false
    → get_or (picture_of e (after_calls e s frame calls).state) i 0 ≡ get_or (picture_of e s) i 0
unfolding after_calls ever_named
after-keeps e s frame [] i v fits h u = refl
after-keeps e s frame (call ∷ calls) i v fits h u =
    let q = or_neither (named_by s call i) (ever_named e (called e s frame call).state (called e s frame call).frame calls i) u in
    after-keeps e (called e s frame call).state (called e s frame call).frame calls i (called-valid e s frame call v)
    (still_fits e s frame call fits) h q.1
    ∙ call-keeps e s frame call i fits h v q.0

named-bytes-shown : NamedBytesShown
unfolding after_calls ever_named
named-bytes-shown e s frame [] i v fits h = refl
named-bytes-shown e s frame (call ∷ calls) i v fits h =
    let s' = (called e s frame call).state in
    let frame' = (called e s frame call).frame in
    let v' = called-valid e s frame call v in
    let fits' = still_fits e s frame call fits in
    let one = call-shows e s frame call i fits h in
    let on = named-bytes-shown e s' frame' calls i v' fits' h in
    by_test (ever_named e s' frame' calls i)
    (λ t. by_test (named_by s call i) (λ n. rw n (rw t at on)) (λ n. rw (n, t) (rw t at on)))
    (λ t. by_test (named_by s call i)
    (λ n. rw (n, after-keeps e s' frame' calls i v' fits' h t) (rw t at on ∙ rw n at one))
    (λ n. rw (n, t) (rw t at on ∙ rw n at one)))

pub demand_3 : Demand3
demand_3 =
    record {
      stands = picture-stands;
      shown = named-bytes-shown;
      lengths = after-length;
      counts = count-is-number;
      bounded = at_most_64;
      glyph_bounded = glyph_at_most_32;
      graphic_bounded = graphic_at_most_1;
      begins = fresh-state-valid;
      valid = after-valid;
    }
