-- The numberings by their laws. Of the numbering itself: every deed but reset does the same whatever it is, and keeps it; what a call answers
-- and what it names never look at it.
use Rattle.std.proofs.Common.{None, Option, Some}
use Prim.{Unit}
use Prim.Native.Nat.{ℕ, ◌+◌, ◌*◌, ◌/◌, ◌%◌, ◌≤◌, ◌<◌}
use mathlib.Core.Bool.{Bool, true, false, ◌||◌, true≢false}
use mathlib.Core.List.{List, [], ◌∷◌, map}
use mathlib.Core.Path.{◌≡◌, refl, sym, ap, ap₂, ◌∙◌}
use native.Mathlib.Omega.{arith}
use lib.Dec.{eqb, leb}
use lib.ListN.{length}
use borrow.Author.Tests.{ne_eqb, lt-leb, le-leb}
use Rattle.base.specs.Choice.{when◌then◌else◌}
use Rattle.base.proofs.Choice.{either, by_test}
use Rattle.base.proofs.Counting.{count_cong}
use Rattle.table.specs.declared.Instruction.{Instruction}
use Rattle.table.specs.Table.{said}
use Rattle.table.specs.Touches.{touches}
use Rattle.controller.specs.declared.Control.{Control}
use Rattle.controller.specs.declared.Region.{Region}
use Rattle.controller.specs.declared.Region.TheVariants as region
use Rattle.controller.specs.declared.View.{View}
use Rattle.controller.specs.Memories.{Memories, memories}
use Rattle.controller.specs.State.{fresh_control}
use Rattle.controller.specs.Instructions.{with_view, with_numbering, cleared, modes}
use Rattle.controller.specs.Data.{stored, found, shifts, moved_on}
use Rattle.controller.specs.Glass.{image_of, shown_row, shown_word}
use Rattle.controller.specs.Named.{in_cell, in_some_cell, instruction_names, write_names, read_names, shows_glyph, shows_graphic, covers}
use Rattle.time.specs.Time.{lost, cost}
use Rattle.deeds.specs.Transfers.{Acted, acted, executed, written, read_out, status_read, carried_out, on_time, performed}
use Rattle.deeds.specs.declared.Done.{Done}
use Rattle.deeds.proofs.Beside.{obeyed-alike}
use Rattle.events.specs.declared.Deed.{Deed}
use Rattle.events.specs.declared.Deed.TheVariants as deed
use Rattle.events.specs.declared.Event.{Event}
use Rattle.events.specs.declared.Event.TheVariants.{Bit, SelectLow, Reset, Pass}
use Rattle.events.specs.declared.Event.TheVariants as event
use Rattle.events.specs.declared.Numbering.{Numbering}
use Rattle.events.specs.declared.Numbering.TheVariants.{By96, By160}
use Rattle.events.specs.declared.Transfer.{Transfer}
use Rattle.events.specs.declared.Transfer.TheVariants.{Instruct, Write, Status, Read}
use Rattle.glyph.specs.declared.Content.{Content}
use Rattle.glyph.specs.declared.Content.TheVariants.{Halves}
use Rattle.numbering.specs.Numbering.{number_of}
use Rattle.glyph.specs.Dots.{dots_of}
use Rattle.glyph.specs.Lookup.{full_of, font_of, image_or, content_of}
use Rattle.numbering.proofs.Numbers.{lead_of, trail_of, read_back, lead-byte, trail-byte, numbered, numbered-lead}
use Rattle.links.specs.declared.Carried.{Carried}
use Rattle.links.specs.declared.Link.{Link}
use Rattle.links.specs.declared.Link.TheVariants.{Parallel, Serial}
use Rattle.links.specs.declared.Rest.{Rest}
use Rattle.links.specs.Taken.{deed_of, by_width, taken_by}
use Rattle.serial.specs.declared.Received.{Received}
use Rattle.serial.specs.Serial.{heard}
use Rattle.picture.specs.Picture.{Seen, wide, word_content, cell_byte}
use Rattle.picture.proofs.Unread.{half-right}
use Rattle.picture.specs.Refusals.{refusal_of, lent_refusal}
use Rattle.repaint.specs.Repaint.{named, count_named}
use Rattle.calls.specs.State.{State, fresh_state}
use Rattle.calls.specs.Calls.{Called, accepted, unless_other, taken_on, reaching, timeless, called}
use Rattle.calls.proofs.StaysInRange.{called-length, reset-fresh}
use Rattle.demands.specs.Wires.{answers}
use Rattle.demands.specs.Numbered.{NoTwoShare, EachIsSomeCodes, NoneBeyond, OthersAsBefore, EndNotAskedFor, ShownByNumber, ChosenWhenMade, ChosenAtReset, is_reset, KeptOtherwise, renumbered, answered, Answered, SeenInPictureAlone, NamesTheSame}
use Rattle.demands.specs.Demand3.{named_acted}
use Rattle.demands.proofs.Carried.{of-paired}
use Rattle.demands.proofs.Timely.{timeless-same}

-- what holds of both pairs of answers holds of the pair that a test picks
both_picked : {A B : Type 0} (R : A → B → Type 0) (t : Bool) {a c : A} {b d : B} → R a b → R c d → R (when t then a else c) (when t then b else d)
both_picked R true p q = p
both_picked R false p q = q

-- the numberings

pub no_two_share : NoTwoShare
no_two_share n lead trail otherLead otherTrail i h k e d =
    let one = read_back n lead trail i h e in
    let other = read_back n otherLead otherTrail i k d in
    (one.lead_is ∙ sym other.lead_is, one.trail_is ∙ sym other.trail_is)

pub none_beyond : NoneBeyond
none_beyond By96 lead trail i h e = (read_back By96 lead trail i h e).below
none_beyond By160 lead trail i h e = (read_back By160 lead trail i h e).below

pub each_is_some_codes : EachIsSomeCodes
each_is_some_codes n i h =
    record { lead = lead_of n i; trail = trail_of n i; lead_byte = lead-byte n i h; trail_byte = trail-byte n i; numbered = numbered n i h }

pub others_as_before_lem : OthersAsBefore
unfolding content_of font_of
others_as_before_lem n high low size h = rw (lt-leb 0xA1 high h)

-- inside a font of 8,352 glyphs, and inside a longer one
long-enough : (size i : ℕ) → i < 8352 → 267264 ≤ size → full_of (Some i) size ≡ full_of (Some i) 267264
unfolding full_of
long-enough size i h l = rw (le-leb (32 * i + 32) size (omega arith), le-leb (32 * i + 32) 267264 (omega arith))

full-alike : (high low size : ℕ) (c : Option ℕ) → low < 256 → 267264 ≤ size → number_of By96 high low ≡ c → full_of c size ≡ full_of c 267264
unfolding full_of
full-alike high low size None h l e = refl
full-alike high low size (Some i) h l e = long-enough size i (read_back By96 high low i h e).below l

pub end_not_asked_for_lem : EndNotAskedFor
unfolding content_of font_of
end_not_asked_for_lem high low size h l =
    ap (λ (c : Content). image_or (image_of high low) (when leb 0xA1 high then c else Halves high low)) (full-alike high low size (number_of By96 high low) h l refl)

-- a word from A1h on is no image, and goes by its code; one that has a number is such a word
pub by_code : (n : Numbering) (high low size : ℕ) → 0xA1 ≤ high → content_of n high low size ≡ full_of (number_of n high low) size
unfolding content_of font_of image_of
by_code n high low size lead = rw (ne_eqb high 0x00 (λ z. omega arith), le-leb 0xA1 high lead)

pub by_number : (n : Numbering) (high low size i : ℕ) → number_of n high low ≡ Some i → content_of n high low size ≡ full_of (Some i) size
by_number n high low size i is = by_code n high low size (numbered-lead n high low i is) ∙ ap (λ (c : Option ℕ). full_of c size) is

-- the number's glyph, inside the font
pub shown-by-number : ShownByNumber
unfolding cell_byte word_content full_of dots_of
shown-by-number e m v row column i is inside =
    rw (by_number v.numbering _ _ (length e.full) i is, le-leb (32 * i + 32) (length e.full) inside, half-right column)

-- deeds

-- the controls, and what a deed leaves, with another numbering
abbrev controls_with : Numbering → Control → Control
controls_with n c = with_view (with_numbering n c.view) c

abbrev done_with : Numbering → Done → Done
done_with n d = record { control = controls_with n d.control; reply = d.reply; region = d.region }

abbrev acted_with : Numbering → Acted → Acted
acted_with n a = acted a.memories (done_with n a.done)

module _ (n : Numbering) where
  moved-alike : (c : Control) → moved_on (controls_with n c) ≡ controls_with n (moved_on c)
  unfolding moved_on
  moved-alike c = by_test (shifts c) (λ t. rw t) (λ t. rw t)

  module _ (m : Memories) (c : Control) where
    read_alike : read_out m (controls_with n c) ≡ done_with n (read_out m c)
    unfolding read_out read_names
    read_alike =
        both_picked (λ (x y : Done). x ≡ done_with n y) c.place.dummy refl
        (ap (λ (d : Control). record { control = d; reply = found c.place.target c.place m; region = read_names c d }) (moved-alike c))

    carried-alike : (t : Transfer) → carried_out m (controls_with n c) t ≡ acted_with n (carried_out m c t)
    unfolding carried_out executed written status_read instruction_names write_names
    carried-alike (Instruct byte) =
        let i : Instruction = said (modes c) byte in
        ap (λ (d : Control). acted (memories (cleared (touches i) m.text) m.glyph m.graphic) (record { control = d; reply = 0; region = instruction_names c d (touches i) }))
        (obeyed-alike n c i)
    carried-alike (Write byte) =
        ap (λ (d : Control). acted (stored c.place.target c.place byte m) (record { control = d; reply = 0; region = write_names c d })) (moved-alike c)
    carried-alike Status = refl
    carried-alike Read = ap (acted m) read_alike

    -- lost or not, at its cost
    on-time-alike : (t : Transfer) → lost (controls_with n c) t ≡ lost c t → cost (controls_with n c) t ≡ cost c t → on_time m (controls_with n c) t ≡ acted_with n (on_time m c t)
    unfolding on_time
    on-time-alike t l k =
        rw (l, k, carried-alike t) (both_picked (λ (x y : Acted). x ≡ acted_with n y) (lost c t) refl refl)

    whole-alike : (t : Transfer) → on_time m (controls_with n c) t ≡ acted_with n (on_time m c t)
    whole-alike (Instruct byte) = on-time-alike (Instruct byte) refl refl
    whole-alike (Write byte) = on-time-alike (Write byte) refl refl
    whole-alike Status = on-time-alike Status refl refl
    whole-alike Read = on-time-alike Read refl refl

    performed-alike : (d : Deed) → acted_with n (performed m c d) ≡ acted_with n (performed m (controls_with n c) d)
    unfolding performed
    performed-alike deed.Nothing = refl
    performed-alike (deed.Whole t) = sym (ap (acted_with n) (whole-alike t))
    performed-alike (deed.Fresh pin) = refl
    performed-alike (deed.Pass eights) = refl

-- chosen and kept

pub chosen_when_made_lem : ChosenWhenMade
unfolding fresh_state fresh_control
chosen_when_made_lem made = refl

pub chosen_at_reset_lem : ChosenAtReset
unfolding fresh_state fresh_control
chosen_at_reset_lem e s frame pin h = ap (λ (t : State). t.control.view.numbering) (reset-fresh e s frame pin h)

-- with the numbering that the controls have, that is to keep it
abbrev Keeps : Deed → Type 0
Keeps d = (m : Memories) (c : Control) → (performed m c d).done.control.view.numbering ≡ c.view.numbering

whole-keeps : (t : Transfer) → Keeps (deed.Whole t)
unfolding performed
whole-keeps t m c = ap (λ (a : Acted). a.done.control.view.numbering) (whole-alike c.view.numbering m c t)

nothing-keeps : Keeps deed.Nothing
unfolding performed
nothing-keeps m c = refl

pass_keeps : (eights : ℕ) → Keeps (deed.Pass eights)
unfolding performed
pass_keeps eights m c = refl

received-keeps : (r : Option Received) → Keeps (deed_of r)
received-keeps None = nothing-keeps
received-keeps (Some received) = whole-keeps _

abbrev TakenKeeps : Option Carried → Type 0
TakenKeeps None = Unit {0}
TakenKeeps (Some x) = Keeps x.deed

taken-keeps : (dl : Bool) (link : Link) (call : Event) → is_reset call ≡ false → TakenKeeps (taken_by dl link call)
unfolding taken_by by_width
taken-keeps true (Parallel pairing) (event.Transfer t) h = whole-keeps t
taken-keeps false (Parallel pairing) (event.Transfer t) h =
    of-paired (λ (x : Carried). Keeps x.deed) (λ register upper. nothing-keeps) whole-keeps (λ reply. nothing-keeps) pairing t
taken-keeps dl (Serial receiver) (event.Transfer t) h = tt
taken-keeps dl (Parallel pairing) (Bit bit) h = tt
taken-keeps dl (Serial receiver) (Bit bit) h = received-keeps (heard receiver bit).received
taken-keeps dl (Parallel pairing) SelectLow h = tt
taken-keeps dl (Serial receiver) SelectLow h = nothing-keeps
taken-keeps dl link (Reset pin) h = absurd (true≢false h)
taken-keeps dl link (Pass eights) h = pass_keeps eights

pub kept_otherwise : KeptOtherwise
unfolding called
kept_otherwise e s frame call h =
    either P (eqb (lent_refusal e frame) 0) (either P (timeless s.control call) refl (by (taken_on s call) (taken-keeps s.control.function.dl s.link call h))) refl
  where
    P : Called → Type 0
    P k = k.state.control.view.numbering ≡ s.control.view.numbering

    by : (t : Option Carried) → TakenKeeps t → P (unless_other e s frame t)
    by None k = refl
    by (Some x) k = k s.memories s.control

-- seen in the picture alone

-- the named bytes do not look at it
module _ (n : Numbering) (v : View) where
  abbrev turned : View
  turned = with_numbering n v

  cell-alike : (cell : Option ℕ) (row column : ℕ) → in_some_cell v cell row column ≡ in_some_cell turned cell row column
  unfolding in_cell shown_row
  cell-alike None row column = refl
  cell-alike (Some word) row column = refl

  covers-alike : (text : List ℕ) (r : Region) (row column : ℕ) → covers v text r row column ≡ covers turned text r row column
  unfolding covers shows_glyph shows_graphic shown_row shown_word
  covers-alike text region.Nothing row column = refl
  covers-alike text region.Whole row column = refl
  covers-alike text (region.Cells a b) row column = ap₂ ◌||◌ (cell-alike a row column) (cell-alike b row column)
  covers-alike text (region.GlyphHalf word low) row column = refl
  covers-alike text (region.GraphicHalf y k low) row column = refl

  counted-alike : (text : List ℕ) (r : Region) → count_named wide v text r ≡ count_named wide turned text r
  unfolding count_named named
  counted-alike text r = count_cong 1024 _ _ (λ i h. covers-alike text r (i / 32) (i % 32))

module _ (e : Seen) (n : Numbering) where
  -- nor do the answers
  accepted-alike : (frame other : List ℕ) (a : Acted) (rest : Rest) → answered n (accepted e frame a rest) ≡ answered n (accepted e other (acted_with n a) rest)
  accepted-alike frame other a rest =
      ap (λ (count : ℕ). record {
        state = renumbered n (accepted e frame a rest).state;
        number = 0;
        reply = (accepted e frame a rest).reply;
        count = count;
      }) (counted-alike n a.done.control.view a.memories.text a.done.region)

  abbrev Alike : Called → Called → Type 0
  Alike x y = answered n x ≡ answered n y

  module _ (s : State) (frame other : List ℕ) where
    taken-alike : (t : Option Carried) → answered n (unless_other e s frame t) ≡ answered n (unless_other e (renumbered n s) other t)
    taken-alike None = refl
    taken-alike (Some x) =
        accepted-alike frame other (performed s.memories s.control x.deed) x.rest
        ∙ ap (λ (a : Acted). answered n (accepted e other a x.rest)) (performed-alike n s.memories s.control x.deed)
        ∙ sym (accepted-alike other other (performed s.memories (controls_with n s.control) x.deed) x.rest)

    call-alike : (call : Event) → length frame ≡ length other → answered n (called e s frame call) ≡ answered n (called e (renumbered n s) other call)
    unfolding called
    call-alike call h =
        let number = refusal_of (length other) (length e.fonts.half) (length e.fonts.full) in
        rw (h, timeless-same s.control (controls_with n s.control) call refl)
        (both_picked Alike (eqb number 0) (both_picked Alike (timeless (controls_with n s.control) call) refl (taken-alike (taken_on s call))) refl)

  calls-alike : (calls : List Event) (s t : State) (frame other : List ℕ) → renumbered n s ≡ renumbered n t → length frame ≡ length other
      → map (answered n) (answers e s frame calls) ≡ map (answered n) (answers e t other calls)
  unfolding answers
  calls-alike [] s t frame other h k = refl
  calls-alike (call ∷ calls) s t frame other h k =
      let first : answered n (called e s frame call) ≡ answered n (called e t other call) =
      call-alike s frame other call k ∙ ap (λ (u : State). answered n (called e u other call)) h ∙ sym (call-alike t other other call refl) in
      ap₂ ◌∷◌ first
      (calls-alike calls (called e s frame call).state (called e t other call).state (called e s frame call).frame (called e t other call).frame
      (ap (λ (a : Answered). a.state) first)
      (called-length e s frame call ∙ k ∙ sym (called-length e t other call)))

pub seen_in_picture_alone : SeenInPictureAlone
seen_in_picture_alone e n s frame other calls h = calls-alike e n calls s (renumbered n s) frame other refl h

-- and what a deed names
named-alike : (n : Numbering) (a : Acted) (i : ℕ) → named_acted a i ≡ named_acted (acted_with n a) i
unfolding named
named-alike n a i = covers-alike n a.done.control.view a.memories.text a.done.region (i / 32) (i % 32)

pub names_the_same_lem : NamesTheSame
names_the_same_lem n s call i =
    let d : Deed = reaching (taken_on s call) in
    named-alike n (performed s.memories s.control d) i
    ∙ ap (λ (a : Acted). named_acted a i) (performed-alike n s.memories s.control d)
    ∙ sym (named-alike n (performed s.memories (controls_with n s.control) d) i)
