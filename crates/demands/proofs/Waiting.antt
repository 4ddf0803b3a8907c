-- What is carried out does not look at the time. So a panel that is not busy does what the same panel does without time, and a wait, as
-- long as the dearest transfer costs, leaves it not busy.
use Rattle.std.proofs.Common.{None, Option, Some}
use Rattle.links.specs.declared.Carried.{Carried}
use Prim.Native.Nat.{ℕ, ◌*◌, ◌-◌, ◌≤◌}
use mathlib.Core.Bool.{Bool, true, false}
use mathlib.Core.List.{List, [], ◌∷◌}
use mathlib.Core.Path.{◌≡◌, refl, sym, ap, subst, ◌∙◌}
use native.Mathlib.Omega.{arith}
use lib.Dec.{ltb}
use borrow.Author.Tests.{le-ltb}
use Rattle.base.proofs.Choice.{by_test}
use Rattle.table.specs.Table.{said}
use Rattle.table.specs.declared.Instruction.{Instruction}
use Rattle.table.specs.declared.Instruction.TheVariants.{Ignored, Clear, Home, EntryMode, Display, MoveCursor, MoveDisplay, FunctionSet, GlyphAddress, TextAddress, Standby, SetSr, ToggleReverse, Scroll, GraphicAddress}
use Rattle.controller.specs.declared.Control.{Control}
use Rattle.controller.specs.declared.Time.{Time}
use Rattle.controller.specs.Memories.{Memories}
use Rattle.controller.specs.State.{fresh_control, longest}
use Rattle.controller.specs.Instructions.{with_time, obeyed, modes}
use Rattle.controller.specs.Data.{moved_on}
use Rattle.controller.specs.Named.{instruction_names, write_names, read_names}
use Rattle.time.specs.Time.{busy, cost}
use Rattle.deeds.specs.Transfers.{Acted, acted, obeyed_acted, executed, written, read_out, status_read, carried_out, nothing_done, at_cost, performed}
use Rattle.deeds.proofs.Untimed.{never-lost, unlost_acted}
use Rattle.events.specs.declared.Event.{Event}
use Rattle.events.specs.declared.Transfer.{Transfer}
use Rattle.events.specs.declared.Transfer.TheVariants.{Instruct, Write, Status, Read}
use Rattle.events.specs.declared.Deed.{Deed}
use Rattle.events.specs.declared.Deed.TheVariants as deed
use Rattle.picture.specs.Picture.{Seen}
use Rattle.calls.specs.State.{State, state, Valid}
use Rattle.calls.specs.Calls.{Called, accepted, unless_other, taken_on, Fits, called, after_calls}
use Rattle.calls.proofs.StaysInRange.{called-valid, called_timed, admitted, still_fits}
use Rattle.demands.specs.Wires.{answers, numbers_of, replies_of, counts_of, no_time}
use Rattle.demands.specs.Lost.{without_time, apart_from_time}
use Rattle.demands.specs.WithoutTime.{is_pass}
use Rattle.demands.specs.Waiting.{spaced, enough, wait, NonePass, WaitingIsServed}
use Rattle.demands.proofs.Lost.{pass_falls}
use Rattle.demands.proofs.WithoutTime.{in_time, none_passes}

-- what a transfer leaves, apart from the time
abbrev pub acted_apart : Acted → Acted
acted_apart a =
    acted a.memories (record { control = with_time no_time a.done.control; reply = a.done.reply; region = a.done.region })

module _ (m : Memories) (c : Control) where
  obeyed-apart : (i : Instruction) → obeyed_acted m (with_time no_time c) i ≡ acted_apart (obeyed_acted m c i)
  unfolding obeyed instruction_names
  obeyed-apart Ignored = refl
  obeyed-apart Clear = refl
  obeyed-apart Home = refl
  obeyed-apart (EntryMode id s) = refl
  obeyed-apart (Display display cursor blink) = refl
  obeyed-apart (MoveCursor right) = refl
  obeyed-apart (MoveDisplay right) = refl
  obeyed-apart (FunctionSet dl re g) = refl
  obeyed-apart (GlyphAddress a) = refl
  obeyed-apart (TextAddress a) = refl
  obeyed-apart Standby = refl
  obeyed-apart (SetSr sr) = refl
  obeyed-apart (ToggleReverse line) = refl
  obeyed-apart (Scroll rows) = refl
  obeyed-apart (GraphicAddress a) = refl

  read-apart : acted m (read_out m (with_time no_time c)) ≡ acted_apart (acted m (read_out m c))
  unfolding read_out read_names moved_on
  read-apart = by_test c.place.dummy (λ t. rw t) (λ t. rw t)

  module _ (idle : busy c ≡ false) where
    -- a status read looks at the busy flag alone
    carried-apart : (t : Transfer) → carried_out m (with_time no_time c) t ≡ acted_apart (carried_out m c t)
    unfolding carried_out executed written moved_on write_names status_read
    carried-apart (Instruct byte) = obeyed-apart (said (modes c) byte)
    carried-apart (Write byte) = refl
    carried-apart Status = rw idle
    carried-apart Read = read-apart

    pub performed-apart : (d : Deed) → performed m (with_time no_time c) d ≡ acted_apart (performed m c d)
    unfolding performed fresh_control
    performed-apart deed.Nothing = refl
    performed-apart (deed.Whole t) =
        unlost_acted m (with_time no_time c) t (never-lost (with_time no_time c) t refl)
        ∙ ap (λ (a : Acted). acted a.memories (at_cost (cost (with_time no_time c) t) a.done)) (carried-apart t)
        ∙ sym (ap acted_apart (unlost_acted m c t (never-lost c t idle)))
    performed-apart (deed.Fresh pin) = refl
    performed-apart (deed.Pass value) = ap (λ (t : Time). acted m (nothing_done (with_time t c))) (none_passes value no_time refl)

-- a panel that is not busy serves a call of document 01 as it does without time
served :
    (e : Seen) (s : State) (frame : List ℕ) (call : Event)
    → Fits e frame
    → busy s.control ≡ false
    → is_pass call ≡ false
    → apart_from_time (called e s frame call) ≡ called e (without_time s) frame call
served e s frame call h idle p =
    ap apart_from_time (admitted e s frame call h ∙ in_time e s frame call p)
    ∙ by (taken_on s call)
    ∙ sym (admitted e (without_time s) frame call h ∙ in_time e (without_time s) frame call p)
  where
    by : (t : Option Carried) → apart_from_time (unless_other e s frame t) ≡ unless_other e (without_time s) frame t
    by None = refl
    by (Some x) = sym (ap (λ (a : Acted). accepted e frame a x.rest) (performed-apart s.memories s.control idle x.deed))

-- after a wait nothing remains, whatever it was that a call left
none_left : (timed : Bool) (n : ℕ) → n ≤ longest timed → ltb 0 (n - 8 * enough) ≡ false
none_left true n h = le-ltb 0 (n - 8 * enough) (omega (arith, h))
none_left false n h = le-ltb 0 (n - 8 * enough) (omega (arith, h))

pub waiting-is-served : WaitingIsServed
unfolding answers after_calls spaced NonePass
waiting-is-served e s frame [] v h timed idle n =
    record { numbers = refl; replies = refl; counts = refl; frames = refl; states = refl; idle = idle }
waiting-is-served e s frame (call ∷ calls) v h timed idle n =
    let k = called e s frame call in
    let alike = served e s frame call h idle n.0 in
    let fits = still_fits e s frame call h in
    let valid = called-valid e s frame call v in
    let waits = pass_falls e k.state k.frame enough fits (called_timed e s frame call ∙ timed) in
    let after = with_time (record { timed = true; remaining = k.state.control.time.remaining - 8 * enough }) k.state.control in
    let rest =
    waiting-is-served e (state k.state.memories after k.state.link) k.frame calls
    (subst (λ (x : Called). Valid x.state) waits (called-valid e k.state k.frame wait valid))
    fits refl (none_left k.state.control.time.timed k.state.control.time.remaining valid.control.remaining) n.1 in
    record {
      numbers =
          ap (λ (x : Called). k.number ∷ x.number ∷ numbers_of e x.state x.frame (spaced wait calls)) waits
          ∙ ap (λ (ns : List ℕ). k.number ∷ 0 ∷ ns) rest.numbers
          ∙ ap (λ (x : Called). spaced 0 (x.number ∷ numbers_of e x.state x.frame calls)) alike;
      replies =
          ap (λ (x : Called). k.reply ∷ x.reply ∷ replies_of e x.state x.frame (spaced wait calls)) waits
          ∙ ap (λ (ns : List ℕ). k.reply ∷ 0 ∷ ns) rest.replies
          ∙ ap (λ (x : Called). spaced 0 (x.reply ∷ replies_of e x.state x.frame calls)) alike;
      counts =
          ap (λ (x : Called). k.count ∷ x.count ∷ counts_of e x.state x.frame (spaced wait calls)) waits
          ∙ ap (λ (ns : List ℕ). k.count ∷ 0 ∷ ns) rest.counts
          ∙ ap (λ (x : Called). spaced 0 (x.count ∷ counts_of e x.state x.frame calls)) alike;
      frames =
          ap (λ (x : Called). (after_calls e x.state x.frame (spaced wait calls)).frame) waits
          ∙ rest.frames
          ∙ ap (λ (x : Called). (after_calls e x.state x.frame calls).frame) alike;
      states =
          ap (λ (x : Called). without_time (after_calls e x.state x.frame (spaced wait calls)).state) waits
          ∙ rest.states
          ∙ ap (λ (x : Called). (after_calls e x.state x.frame calls).state) alike;
      idle = ap (λ (x : Called). busy (after_calls e x.state x.frame (spaced wait calls)).state.control) waits ∙ rest.idle;
    }
