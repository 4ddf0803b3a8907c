-- The readings, by computation. What a call reads off does not depend on what the frame holds, so frames are left out of it first.
use Rattle.std.proofs.Common.{None, Option, Some}
use Rattle.links.specs.declared.Carried.{Carried}
use Prim.{Unit, tt}
use Prim.Native.Nat.{ℕ}
use mathlib.Core.Bool.{Bool, true, false}
use mathlib.Core.List.{List, [], ◌∷◌, map}
use mathlib.Core.Logic.{◌⊎◌, inl, inr}
use mathlib.Core.Path.{◌≡◌, refl, ap, sym, subst, ◌∙◌}
use lib.ListN.{replicate}
use Rattle.base.specs.Choice.{when◌then◌else◌}
use Rattle.base.specs.Painting.{count}
use Rattle.table.specs.Table.{row_of, said}
use Rattle.controller.specs.Memories.{fresh_memories}
use Rattle.controller.specs.State.{fresh_control}
use Rattle.controller.specs.Instructions.{obeyed}
use Rattle.controller.specs.Data.{stored, found, moved, moved_on}
use Rattle.controller.specs.Glass.{shown_row, shown_word}
use Rattle.controller.specs.Named.{instruction_names, write_names, read_names, in_cell, covers}
use Rattle.deeds.specs.Transfers.{executed, written, read_out, status_read, carried_out, on_time, performed}
use Rattle.events.specs.declared.Event.{Event}
use Rattle.links.specs.Halves as halves
use Rattle.links.specs.Taken.{by_width, taken_by}
use Rattle.connector.specs.Items.{bits_of}
use Rattle.serial.specs.Serial.{counted, after_header, header_bit, body_bit, completed, heard}
use Rattle.numbering.specs.Numbering.{number_of}
use Rattle.picture.specs.Picture.{Seen}
use Rattle.picture.specs.Refusals.{refusal_of}
use Rattle.repaint.specs.Repaint.{named, count_named}
use Rattle.calls.specs.State.{State, fresh_state}
use Rattle.calls.specs.Calls.{Called, accepted, refused, unless_other, taken_on, timeless, Fits, called, after_calls}
use Rattle.demands.specs.Wires.{answers}
use Rattle.calls.proofs.StaysInRange.{admitted, still_fits}
use Rattle.demands.specs.Readings.{Case, cases, timed_cases, turned_cases, numbered_cases, zero_fonts, Observed, observed, AllRead, AllHold, ReadingsHold, TimedReadingsHold, TurnedReadingsHold, NumberedReadingsHold}

-- what a call leaves but the frame
pub record Told : Type 0 where
  pub state : State
  pub number : ℕ
  pub reply : ℕ
  pub count : ℕ

abbrev pub told : Called → Told
told k = record { state = k.state; number = k.number; reply = k.reply; count = k.count }

abbrev pub told_by : State → Option Carried → Told
told_by s None = record { state = s; number = 5; reply = 0; count = 0 }
told_by s (Some c) = told (accepted zero_fonts [] (performed s.memories s.control c.deed) c.rest)

unfoldable pub tells : State → Event → Told
tells s call = when timeless s.control call then record { state = s; number = 8; reply = 0; count = 0 } else told_by s (taken_on s call)

all_told : State → List Event → List Told
all_told s [] = []
all_told s (call ∷ calls) = tells s call ∷ all_told (tells s call).state calls

last_state : State → List Event → State
last_state s [] = s
last_state s (call ∷ calls) = last_state (tells s call).state calls

taken-told : (e : Seen) (s : State) (frame : List ℕ) (t : Option Carried) → told (unless_other e s frame t) ≡ told_by s t
taken-told e s frame None = refl
taken-told e s frame (Some c) = refl

timely-told :
    (e : Seen) (s : State) (frame : List ℕ) (t : Option Carried) (w : Bool)
    → told (when w then refused s frame 8 else unless_other e s frame t)
    ≡ (when w then record { state = s; number = 8; reply = 0; count = 0 } else told_by s t)
timely-told e s frame t true = refl
timely-told e s frame t false = taken-told e s frame t

module _ (e : Seen) where
  pub call-told : (s : State) (frame : List ℕ) (call : Event) → Fits e frame → told (called e s frame call) ≡ tells s call
  unfolding tells
  call-told s frame call fits =
      ap told (admitted e s frame call fits) ∙ timely-told e s frame (taken_on s call) (timeless s.control call)

  all_told_lem : (calls : List Event) (s : State) (frame : List ℕ) → Fits e frame → map told (answers e s frame calls) ≡ all_told s calls
  unfolding answers all_told
  all_told_lem [] s frame fits = refl
  all_told_lem (call ∷ calls) s frame fits =
      ap (λ (more : List Told). told (called e s frame call) ∷ more)
      (all_told_lem calls (called e s frame call).state (called e s frame call).frame (still_fits e s frame call fits))
      ∙ ap (λ (k : Told). k ∷ all_told k.state calls) (call-told s frame call fits)

  last-state : (calls : List Event) (s : State) (frame : List ℕ) → Fits e frame → (after_calls e s frame calls).state ≡ last_state s calls
  unfolding after_calls last_state
  last-state [] s frame fits = refl
  last-state (call ∷ calls) s frame fits =
      last-state calls (called e s frame call).state (called e s frame call).frame (still_fits e s frame call fits)
      ∙ ap (λ (k : Told). last_state k.state calls) (call-told s frame call fits)

map-told : {B : Type 0} (f : Told → B) (ks : List Called) → map (λ k. f (told k)) ks ≡ map f (map told ks)
map-told f [] = refl
map-told f (k ∷ ks) = ap (λ (more : List _). f (told k) ∷ more) (map-told f ks)

-- what is observed without the frame
abbrev told_of : Case → Observed
told_of r =
    let all = all_told (fresh_state r.made) r.calls in
    record {
      replies = map (λ k. k.reply) all;
      counts = map (λ k. k.count) all;
      numbers = map (λ k. k.number) all;
      end = last_state (fresh_state r.made) r.calls;
    }

observed-told : (r : Case) → Fits zero_fonts (replicate r.frame 0) → observed r ≡ told_of r
observed-told r fits =
    let answered = answers zero_fonts (fresh_state r.made) (replicate r.frame 0) r.calls in
    let all = all_told_lem zero_fonts r.calls (fresh_state r.made) (replicate r.frame 0) fits in
    let last = last-state zero_fonts r.calls (fresh_state r.made) (replicate r.frame 0) fits in
    rw (map-told (λ k. k.reply) answered, map-told (λ k. k.count) answered, map-told (λ k. k.number) answered, all, last)

-- a row holds without its frame where the frame fits; where it does not, no frame is painted
Holds : Case → Type 0
Holds r = (Fits zero_fonts (replicate r.frame 0) × AllRead (told_of r) r.readings) ⊎ AllRead (observed r) r.readings

AllRows : List Case → Type 0
AllRows [] = Unit {0}
AllRows (r ∷ rows) = Holds r × AllRows rows

holds : (r : Case) → Holds r → AllRead (observed r) r.readings
unfolding Holds
holds r (inl h) = subst (λ (o : Observed). AllRead o r.readings) (sym (observed-told r h.0)) h.1
holds r (inr h) = h

all_hold : (rows : List Case) → AllRows rows → AllHold rows
unfolding AllRows AllHold
all_hold [] h = tt
all_hold (r ∷ rows) h = (holds r h.0, all_hold rows h.1)

rows_hold : AllRows cases
unfolding AllRows Holds AllRead cases all_told last_state tells answers called taken_by by_width performed on_time carried_out executed written read_out status_read obeyed said row_of stored found moved moved_on instruction_names write_names read_names covers in_cell shown_row shown_word named count_named count refusal_of fresh_control fresh_memories fresh_state bits_of heard counted after_header header_bit body_bit completed number_of
rows_hold = (
  inl (refl, (refl, tt)),
  (
    inl (refl, (refl, tt)),
    (
      inl (refl, (refl, (refl, (refl, tt)))),
      (
        inl (refl, (refl, tt)),
        (
          inl (refl, (refl, (refl, tt))),
          (
            inl (refl, (refl, tt)),
            (
              inl (refl, ((refl, refl), tt)),
              (
                inl (refl, ((refl, refl), tt)),
                (
                  inl (refl, (refl, (refl, tt))),
                  (
                    inl (refl, (refl, (refl, tt))),
                    (
                      inr (refl, tt),
                      (
                        inr (refl, tt),
                        (
                          inl (refl, (refl, tt)),
                          (
                            inl (refl, (refl, tt)),
                            tt,
                          ),
                        ),
                      ),
                    ),
                  ),
                ),
              ),
            ),
          ),
        ),
      ),
    ),
  ),
)

pub readings_hold : ReadingsHold
readings_hold = all_hold cases rows_hold

timed_rows_hold : AllRows timed_cases
unfolding AllRows Holds AllRead timed_cases all_told last_state tells answers called taken_by by_width halves.paired halves.write_half halves.read_half performed on_time carried_out executed written read_out status_read obeyed said row_of stored found moved moved_on instruction_names write_names read_names covers in_cell shown_row shown_word named count_named count refusal_of fresh_control fresh_memories fresh_state bits_of heard counted after_header header_bit body_bit completed number_of
timed_rows_hold = (
  inl (refl, (refl, (refl, tt))),
  (
    inl (refl, (refl, (refl, (refl, tt)))),
    (
      inl (refl, (refl, (refl, (refl, tt)))),
      (
        inl (refl, (refl, tt)),
        (
          inl (refl, (refl, tt)),
          (
            inl (refl, (refl, (refl, tt))),
            (
              inl (refl, (refl, tt)),
              tt,
            ),
          ),
        ),
      ),
    ),
  ),
)

pub timed_readings_hold : TimedReadingsHold
timed_readings_hold = all_hold timed_cases timed_rows_hold

turned-rows_hold : AllRows turned_cases
unfolding AllRows Holds AllRead turned_cases all_told last_state tells answers called taken_by by_width performed on_time carried_out executed written read_out status_read obeyed said row_of stored found moved moved_on instruction_names write_names read_names covers in_cell shown_row shown_word named count_named count refusal_of fresh_control fresh_memories fresh_state
turned-rows_hold = (
  inl (refl, (refl, (refl, (refl, (refl, tt))))),
  (
    inl (refl, (refl, (refl, (refl, tt)))),
    (
      inl (refl, (refl, (refl, tt))),
      (
        inl (refl, (refl, (refl, (refl, tt)))),
        tt,
      ),
    ),
  ),
)

pub turned-readings_hold : TurnedReadingsHold
turned-readings_hold = all_hold turned_cases turned-rows_hold

numbered-rows_hold : AllRows numbered_cases
unfolding AllRows Holds AllRead numbered_cases all_told last_state tells answers called taken_by by_width performed on_time carried_out executed written status_read obeyed said row_of stored moved moved_on instruction_names write_names covers in_cell shown_row shown_word named count_named count refusal_of fresh_control fresh_memories fresh_state bits_of heard counted after_header header_bit body_bit completed number_of
numbered-rows_hold = (
  inl (refl, (refl, (refl, (refl, (refl, (refl, (refl, tt))))))),
  (
    inl (refl, (refl, (refl, (refl, (refl, (refl, (refl, (refl, (refl, (refl, tt)))))))))),
    (
      inl (refl, (refl, tt)),
      (
        inl (refl, (refl, (refl, (refl, tt)))),
        (
          inl (refl, (refl, (refl, tt))),
          (
            inl (refl, (refl, (refl, tt))),
            tt,
          ),
        ),
      ),
    ),
  ),
)

pub numbered-readings_hold : NumberedReadingsHold
numbered-readings_hold = all_hold numbered_cases numbered-rows_hold
