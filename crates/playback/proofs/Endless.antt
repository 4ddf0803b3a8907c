-- A replay that writes no lines never stops for want of room.
use Prim.Native.Nat.{ℕ}
use mathlib.Core.Bool.{false}
use mathlib.Core.List.{List, [], ◌∷◌}
use mathlib.Core.Path.{◌≡◌, refl}
use lib.Dec.{eqb}
use lib.ListN.{length}
use Rattle.base.proofs.Choice.{either}
use Rattle.picture.specs.Picture.{Seen}
use Rattle.picture.specs.Refusals.{refusal_of}
use Rattle.calls.specs.State.{State}
use Rattle.refusals.specs.Numbers.{answer_number}
use Rattle.capture.specs.declared.record.Record.{Record}
use Rattle.records.specs.Records.{record_called}
use Rattle.playback.specs.Replay.{Replayed, endless, records_replayed, read_by, replayed}

module _ (e : Seen) where
  records-not-full : (last : ℕ) (rs : List Record) (s : State) (f : List ℕ) (n : ℕ) → (records_replayed e last endless rs s f n).ending.full ≡ false
  unfolding records_replayed
  records-not-full last [] s f n = refl
  records-not-full last (r ∷ rs) s f n =
      either (λ (x : Replayed). x.ending.full ≡ false) (eqb (record_called e r.kind r.value s f).number 0) (records-not-full last rs _ _ _) refl

  pub not_full : (c : List ℕ) (s : State) (f : List ℕ) (n : ℕ) → (replayed e endless c s f n).ending.full ≡ false
  unfolding replayed
  not_full c s f n =
      either (λ (x : Replayed). x.ending.full ≡ false) (eqb (refusal_of (length f) (length e.fonts.half) (length e.fonts.full)) 0)
      (records-not-full (answer_number (read_by s c).stop) (read_by s c).records s f n)
      refl
