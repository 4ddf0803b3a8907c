-- One law: what a call leaves gives its outcome back, so two outcomes that leave the same are one.
use Prim.{Unit}
use Prim.Native.Nat.{ℕ}
use mathlib.Core.Bool.{Bool, true, false}
use mathlib.Core.List.{List, [], ◌∷◌}
use mathlib.Core.Path.{◌≡◌, refl, ap, sym, ◌∙◌}
use lib.ListN.{get_or}
use Rattle.std.proofs.Common.{Result, Ok, Err}
use Rattle.refusals.specs.declared.Refusal.{Refusal}
use Rattle.refusals.specs.declared.Refusal.TheVariants.{Frame, HalfFont, FullFont, Buffer, OtherLink, Cut, Mark, Kind, Value}
use Rattle.refusals.specs.Numbers as numbers
use Rattle.controller.specs.Memories.{Memories}
use Rattle.sender.specs.Sender.{Sent}
use Rattle.picture.specs.Refusals.{Drawn}
use Rattle.calls.specs.declared.Kept.{Kept}
use Rattle.calls.specs.declared.LentOutcome.{LentOutcome}
use Rattle.calls.specs.State.{State}
use Rattle.calls.specs.Calls.{Called, left}
use Rattle.panel.specs.declared.Panel.{Panel}
use Rattle.panel.specs.declared.CallAnswer.{CallAnswer}
use Rattle.panel.specs.declared.Outcome.{Outcome}
use Rattle.panel.specs.Handed.{stands, handed}
use Rattle.lent_pair.specs.declared.LentPairOutcome.{LentPairOutcome}
use Rattle.lent_pair.specs.Pair.{PairCalled}
use Rattle.lent_pair.specs.Lent.{pair_lent}
use Rattle.pair.specs.declared.Pair.{Pair}
use Rattle.pair.specs.declared.PairOutcome.{PairOutcome}
use Rattle.pair.specs.Handed.{pair_handed}
use Rattle.playback.specs.declared.Halt.{Halt}
use Rattle.playback.specs.declared.Halt.TheVariants as halts
use Rattle.playback.specs.declared.Stop.{Stop}
use Rattle.playback.specs.Transcript.{Told, halt_number, is_full, left_by}
use Rattle.demands.specs.Tight.{Contract, Tight, With, LeftLent, LeftStanding, PairWithFrames, LentPairWithFrames, pair_of, PublicCall, contract_of, fresh, call, standing_call, draw, lent_call, pair_bit, lent_pair_bit, send, read, record_at, answer_number, answer_taken_with, number_of_refusal, kind_with_number, reader_over, reader_step}
use Rattle.demands.specs.Tight.{replay, transcribe, put_last, exported_draw, exported_send, exported_replay, exported_pair_bit, braille, plain, pbm}

-- the answer of a number: at 0 what an accepted call answers, and else the refusal of that number
abbrev by_number : {A : Type 0} → A → List (Result A Refusal)
by_number x =
    Ok x ∷ Err Frame ∷ Err HalfFont ∷ Err FullFont ∷ Err Buffer ∷ Err OtherLink ∷ Err Cut ∷ Err Mark ∷ Err Kind ∷ Err Value ∷ []

abbrev answer_of_number : {A : Type 0} → A → ℕ → Result A Refusal
answer_of_number x n = get_or (by_number x) n (Ok x)

refusal-again : {A : Type 0} (x : A) (refusal : Refusal) → answer_of_number x (numbers.refusal_number refusal) ≡ Err refusal
refusal-again x Frame = refl
refusal-again x HalfFont = refl
refusal-again x FullFont = refl
refusal-again x Buffer = refl
refusal-again x OtherLink = refl
refusal-again x Cut = refl
refusal-again x Mark = refl
refusal-again x Kind = refl
refusal-again x Value = refl

-- the panel of a state, and what a board keeps of it beside the memories
abbrev panel_of : State → Panel
panel_of s =
    record { text = s.memories.text; glyph = s.memories.glyph; graphic = s.memories.graphic; control = s.control; link = s.link }

abbrev kept_of : State → Kept
kept_of s = record { control = s.control; link = s.link }

-- why a replay stopped, and its answer
halt_answered : Result (Unit {0}) Refusal → Halt
halt_answered (Ok ended) = halts.End
halt_answered (Err refusal) = halts.Refused refusal

halt_of : ℕ → Bool → Halt
halt_of number true = halts.Full
halt_of number false = halt_answered (answer_of_number tt number)

halt-again : (halt : Halt) → halt_of (halt_number halt) (is_full halt) ≡ halt
unfolding halt_answered halt_of
halt-again halts.End = refl
halt-again (halts.Refused refusal) = ap halt_answered (refusal-again tt refusal)
halt-again halts.Full = refl

abbrev stop_with : Told → Halt → Stop
stop_with k halt =
    record { panel = panel_of k.ending.state; place = k.ending.place; halt = halt; reply = k.reply; count = k.count; filled = k.filled }

abbrev stop_of : Told → Stop
stop_of k = stop_with k (halt_of k.ending.number k.ending.full)

stop-again : (stop : Stop) (frame text : List ℕ) → stop_of (left_by stop frame text) ≡ stop
stop-again stop frame text = ap (stop_with (left_by stop frame text)) (halt-again stop.halt)

-- what has no answer but whether it was refused
unit_again : (answer : Result (Unit {0}) Refusal) → answer_of_number tt (numbers.answer_number answer) ≡ answer
unit_again (Ok done) = refl
unit_again (Err refusal) = refusal-again tt refusal

abbrev drawing_of : Drawn → With (Result (Unit {0}) Refusal)
drawing_of d = record { result = answer_of_number tt d.number; buffer = d.frame }

abbrev sending_of : Sent → With (Result (Unit {0}) Refusal)
sending_of d = record { result = answer_of_number tt d.number; buffer = d.buffer }

-- the calls, by value and on lent memories, of one panel and of the pair
abbrev outcome_of : Called → With (Result Outcome Refusal)
outcome_of k =
    record { result = answer_of_number (record { panel = panel_of k.state; reply = k.reply; count = k.count }) k.number; buffer = k.frame }

outcome-again : (p : Panel) (outcome : Result Outcome Refusal) (frame : List ℕ) → outcome_of (handed p outcome frame) ≡ record { result = outcome; buffer = frame }
outcome-again p (Ok outcome) frame = refl
outcome-again p (Err refusal) frame = ap (λ (r : Result Outcome Refusal). record { result = r; buffer = frame }) (refusal-again _ refusal)

abbrev standing_of : Called → LeftStanding
standing_of k =
    record { answer = answer_of_number (record { reply = k.reply; count = k.count }) k.number; panel = panel_of k.state; frame = k.frame }

standing-again :
    (p : Panel) (answer : Result CallAnswer Refusal) (frame : List ℕ)
    → standing_of (stands p answer frame) ≡ record { answer = answer; panel = p; frame = frame }
standing-again p (Ok answer) frame = refl
standing-again p (Err refusal) frame =
    ap (λ (r : Result CallAnswer Refusal). record { answer = r; panel = p; frame = frame }) (refusal-again _ refusal)

abbrev lent_of : Called → LeftLent
lent_of k =
    record {
      answer = answer_of_number (record { kept = kept_of k.state; reply = k.reply; count = k.count }) k.number;
      memories = k.state.memories;
      frame = k.frame;
    }

lent-again :
    (kept : Kept) (answer : Result LentOutcome Refusal) (m : Memories) (frame : List ℕ)
    → lent_of (left kept answer m frame) ≡ record { answer = answer; memories = m; frame = frame }
lent-again kept (Ok answer) m frame = refl
lent-again kept (Err refusal) m frame =
    ap (λ (r : Result LentOutcome Refusal). record { answer = r; memories = m; frame = frame }) (refusal-again _ refusal)

abbrev pair_outcome_of : PairCalled → PairWithFrames
pair_outcome_of k =
    record {
      outcome =
          answer_of_number
          (record {
            pair = record { left = panel_of k.left.state; right = panel_of k.right.state };
            counts = record { left = k.left.count; right = k.right.count };
          })
          k.left.number;
      left_frame = k.left.frame;
      right_frame = k.right.frame;
    }

pair_outcome-again :
    (p : Pair) (outcome : Result PairOutcome Refusal) (left_frame right_frame : List ℕ)
    → pair_outcome_of (pair_handed p outcome left_frame right_frame)
    ≡ record { outcome = outcome; left_frame = left_frame; right_frame = right_frame }
pair_outcome-again p (Ok outcome) left_frame right_frame = refl
pair_outcome-again p (Err refusal) left_frame right_frame =
    ap (λ (r : Result PairOutcome Refusal). record { outcome = r; left_frame = left_frame; right_frame = right_frame }) (refusal-again _ refusal)

abbrev lent_pair_of : PairCalled → LentPairWithFrames
lent_pair_of k =
    record {
      answer =
          answer_of_number
          (record {
            kept = record { left = kept_of k.left.state; right = kept_of k.right.state };
            counts = record { left = k.left.count; right = k.right.count };
          })
          k.left.number;
      left_memories = k.left.state.memories;
      right_memories = k.right.state.memories;
      left_frame = k.left.frame;
      right_frame = k.right.frame;
    }

lent_pair-again :
    (l r : Kept) (answer : Result LentPairOutcome Refusal) (ml mr : Memories) (fl fr : List ℕ)
    → lent_pair_of (pair_lent l r answer ml mr fl fr)
    ≡ record { answer = answer; left_memories = ml; right_memories = mr; left_frame = fl; right_frame = fr }
lent_pair-again l r (Ok answer) ml mr fl fr = refl
lent_pair-again l r (Err refusal) ml mr fl fr =
    ap (λ (a : Result LentPairOutcome Refusal). record { answer = a; left_memories = ml; right_memories = mr; left_frame = fl; right_frame = fr })
    (refusal-again _ refusal)

tight-by : (k : Contract) (back : k.Left → k.Outcome) → ((i : k.Input) (x : k.Outcome) → back (k.leaves i x) ≡ x) → Tight k
tight-by k back gives i x y p q = sym (gives i x) ∙ ap back (p ∙ sym q) ∙ gives i y

pub tight : (p : PublicCall) → Tight (contract_of p)
tight fresh = tight-by (contract_of fresh) panel_of (λ i x. refl)
tight call = tight-by (contract_of call) outcome_of (λ i x. outcome-again i.state x.result x.buffer)
tight standing_call = tight-by (contract_of standing_call) standing_of (λ i x. standing-again x.panel x.answer x.frame)
tight draw =
    tight-by (contract_of draw) drawing_of
    (λ i x. ap (λ (r : Result (Unit {0}) Refusal). record { result = r; buffer = x.buffer }) (unit_again x.result))
tight lent_call = tight-by (contract_of lent_call) lent_of (λ i x. lent-again i.state.kept x.answer x.memories x.frame)
tight pair_bit =
    tight-by (contract_of pair_bit) pair_outcome_of (λ i x. pair_outcome-again (pair_of i) x.outcome x.left_frame x.right_frame)
tight lent_pair_bit =
    tight-by (contract_of lent_pair_bit) lent_pair_of
    (λ i x. lent_pair-again i.left.kept i.right.kept x.answer x.left_memories x.right_memories x.left_frame x.right_frame)
tight send =
    tight-by (contract_of send) sending_of
    (λ i x. ap (λ (r : Result (Unit {0}) Refusal). record { result = r; buffer = x.buffer }) (unit_again x.result))
tight read = tight-by (contract_of read) (λ x. x) (λ i x. refl)
tight record_at = tight-by (contract_of record_at) (λ x. x) (λ i x. refl)
tight (answer_number T) = tight-by (contract_of (answer_number T)) (λ x. x) (λ i x. refl)
tight answer_taken_with = tight-by (contract_of answer_taken_with) (λ x. x) (λ i x. refl)
tight number_of_refusal = tight-by (contract_of number_of_refusal) (λ x. x) (λ i x. refl)
tight kind_with_number = tight-by (contract_of kind_with_number) (λ x. x) (λ i x. refl)
tight reader_over = tight-by (contract_of reader_over) (λ x. x) (λ i x. refl)
tight reader_step = tight-by (contract_of reader_step) (λ x. x) (λ i x. refl)
tight replay =
    tight-by (contract_of replay) (λ k. record { result = stop_of k; buffer = k.ending.frame })
    (λ i x. ap (λ (s : Stop). record { result = s; buffer = x.buffer }) (stop-again x.result x.buffer []))
tight transcribe =
    tight-by (contract_of transcribe) (λ k. record { stop = stop_of k; frame = k.ending.frame; text = k.text })
    (λ i x. ap (λ (s : Stop). record { stop = s; frame = x.frame; text = x.text }) (stop-again x.stop x.frame x.text))
tight put_last = tight-by (contract_of put_last) (λ k. record { result = k.filled; buffer = k.buffer }) (λ i x. refl)
tight exported_draw = tight-by (contract_of exported_draw) (λ d. record { result = d.number; buffer = d.frame }) (λ i x. refl)
tight exported_send = tight-by (contract_of exported_send) (λ d. record { result = d.number; buffer = d.buffer }) (λ i x. refl)
tight exported_replay = tight-by (contract_of exported_replay) (λ x. x) (λ i x. refl)
tight exported_pair_bit = tight-by (contract_of exported_pair_bit) (λ x. x) (λ i x. refl)
tight braille = tight-by (contract_of braille) (λ x. x) (λ i x. refl)
tight plain = tight-by (contract_of plain) (λ x. x) (λ i x. refl)
tight pbm = tight-by (contract_of pbm) (λ x. x) (λ i x. refl)
