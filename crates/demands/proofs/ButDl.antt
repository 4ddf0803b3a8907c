-- What a write does never depends on DL, and function sets that differ in bit 4 alone differ in DL alone: so the panel respects
-- "equal apart from DL". Two boards are so where they are equal once DL is set.
use Prim.Native.Nat.{ℕ, ◌/◌, ◌%◌, ◌≤◌, ◌<◌}
use mathlib.Core.Bool.{Bool, true, false}
use mathlib.Core.Path.{◌≡◌, refl, sym, ap, ◌∙◌}
use native.Mathlib.Omega.{arith}
use lib.Dec.{eqb}
use Rattle.base.specs.Bits.{bit, bits3_0}
use Rattle.base.proofs.Choice.{either, by_test}
use Rattle.table.specs.declared.Modes.{Modes}
use Rattle.table.specs.declared.Instruction.{Instruction}
use Rattle.table.specs.declared.Instruction.TheVariants.{Ignored, Clear, Home, EntryMode, Display, MoveCursor, MoveDisplay, FunctionSet, GlyphAddress, TextAddress, Standby, SetSr, ToggleReverse, Scroll, GraphicAddress}
use Rattle.table.specs.Table.{20h_3Fh, function_set, said}
use Rattle.table.proofs.Rows.{by_row}
use Rattle.controller.specs.declared.Function.{Function}
use Rattle.controller.specs.declared.Control.{Control}
use Rattle.controller.specs.Memories.{Memories}
use Rattle.controller.specs.Instructions as instructions
use Rattle.controller.specs.Instructions.{with_function, begun, obeyed, modes}
use Rattle.controller.specs.Data.{moved_on}
use Rattle.controller.specs.Named.{instruction_names, write_names, read_names}
use Rattle.base.specs.Choice.{when◌then◌else◌}
use Rattle.table.specs.Touches.{touches}
use Rattle.time.specs.Time.{lost, instruction_cost, cost}
use Rattle.deeds.specs.Transfers.{Acted, acted, obeyed_acted, executed, written, read_out, status_read, carried_out, nothing_done, at_cost, on_time, performed}
use Rattle.events.specs.declared.Transfer.{Transfer}
use Rattle.events.specs.declared.Transfer.TheVariants.{Instruct, Write, Status, Read}
use Rattle.events.specs.declared.Deed.{Deed}
use Rattle.events.specs.declared.Deed.TheVariants.{Nothing, Whole, Fresh, Pass}
use Rattle.links.specs.Halves as halves
use Rattle.connector.specs.Items.{WholeWrite, write, deed, SameButBit4, same, function_sets}
use Rattle.connector.specs.Connector.{act}
use Rattle.connector.specs.Statements.{Respected}
use Rattle.picture.specs.Picture.{Seen, byte_at, byte_over}
use Rattle.repaint.specs.Repaint.{repainted, named}
use Rattle.demands.specs.Wires.{Board, count_of, board_after, board, with_dl}

-- all but DL of what a transfer leaves, and of a board
abbrev pub acted_but_dl : Acted → Acted
acted_but_dl a =
    acted a.memories (record { control = with_dl true a.done.control; reply = a.done.reply; region = a.done.region })

abbrev pub board_but_dl : Board → Board
board_but_dl b = record { memories = b.memories; control = with_dl true b.control; frame = b.frame }

-- the byte of a function set says the same for RE and G as another that differs in bit 4 alone
function_set-said : (m : Modes) (b : ℕ) → 0x20 ≤ b → b < 0x40 → said m b ≡ function_set b
unfolding said
function_set-said m b low high =
    either (λ (i : Instruction). i ≡ function_set b) m.re (sym (by_row (λ k. k.extended) m 20h_3Fh low high))
    (sym (by_row (λ k. k.basic) m 20h_3Fh low high))

bit2_same : (b c : ℕ) → bits3_0 b ≡ bits3_0 c → bit 2 b ≡ bit 2 c
bit2_same b c e = let q : b / 4 % 2 ≡ c / 4 % 2 = omega arith in ap (λ (n : ℕ). eqb n 1) q

bit1_same : (b c : ℕ) → bits3_0 b ≡ bits3_0 c → bit 1 b ≡ bit 1 c
bit1_same b c e = let q : b / 2 % 2 ≡ c / 2 % 2 = omega arith in ap (λ (n : ℕ). eqb n 1) q

-- a function set, whatever DL was and becomes
abbrev function_but_dl : Function → Function
function_but_dl f = record { dl = true; re = f.re; g = f.g }

function_but_dl_lem : (was is was' is' r g re new : Bool) →
    function_but_dl (instructions.set_function (record { dl = was; re = r; g = g }) is re new)
    ≡ function_but_dl (instructions.set_function (record { dl = was'; re = r; g = g }) is' re new)
function_but_dl_lem was is was' is' false g false new = refl
function_but_dl_lem was is was' is' false g true new = refl
function_but_dl_lem was is was' is' true g false new = refl
function_but_dl_lem was is was' is' true g true new = refl

function_set_but_dl : (m : Memories) (c : Control) (is is' re g : Bool) →
    acted_but_dl (obeyed_acted m c (FunctionSet is re g)) ≡ acted_but_dl (obeyed_acted m (with_dl true c) (FunctionSet is' re g))
unfolding obeyed instruction_names
function_set_but_dl m c is is' re g =
    let a = obeyed_acted m c (FunctionSet is re g) in
    ap (λ (f : Function). acted a.memories (record {
      control = with_function f (begun c);
      reply = 0;
      region = a.done.region;
    })) (function_but_dl_lem c.function.dl is true is' c.function.re c.function.g re g)

obeyed_but_dl : (m : Memories) (c : Control) (i : Instruction) → acted_but_dl (obeyed_acted m c i) ≡ acted_but_dl (obeyed_acted m (with_dl true c) i)
unfolding obeyed instruction_names
obeyed_but_dl m c Ignored = refl
obeyed_but_dl m c Clear = refl
obeyed_but_dl m c Home = refl
obeyed_but_dl m c (EntryMode id s) = refl
obeyed_but_dl m c (Display display cursor blink) = refl
obeyed_but_dl m c (MoveCursor right) = refl
obeyed_but_dl m c (MoveDisplay right) = refl
obeyed_but_dl m c (FunctionSet dl re g) = function_set_but_dl m c dl dl re g
obeyed_but_dl m c (GlyphAddress a) = refl
obeyed_but_dl m c (TextAddress a) = refl
obeyed_but_dl m c Standby = refl
obeyed_but_dl m c (SetSr sr) = refl
obeyed_but_dl m c (ToggleReverse line) = refl
obeyed_but_dl m c (Scroll rows) = refl
obeyed_but_dl m c (GraphicAddress a) = refl

-- two function sets in a row of the table
function_sets_but_dl : (m : Memories) (c : Control) (b d : ℕ) →
    0x20 ≤ b → b < 0x40 → 0x20 ≤ d → d < 0x40 → bits3_0 b ≡ bits3_0 d →
    acted_but_dl (obeyed_acted m c (said (modes c) b)) ≡ acted_but_dl (obeyed_acted m (with_dl true c) (said (modes c) d))
function_sets_but_dl m c b d p q r s e =
    rw (function_set-said (modes c) b p q, function_set-said (modes c) d r s, bit2_same b d e, bit1_same b d e)
    (function_set_but_dl m c (bit 4 b) (bit 4 d) (bit 2 d) (bit 1 d))

carried_out_but_dl : (m : Memories) (c : Control) {register : Bool} {b d : ℕ} → SameButBit4 register b d →
    acted_but_dl (carried_out m c (halves.writing register b)) ≡ acted_but_dl (carried_out m (with_dl true c) (halves.writing register d))
unfolding carried_out executed written moved_on write_names
carried_out_but_dl m c (same {register = false} {b = b}) = obeyed_but_dl m c (said (modes c) b)
carried_out_but_dl m c (same {register = true} {b = b}) = refl
carried_out_but_dl m c (function_sets {b = b} {c = d} p q r s e) = function_sets_but_dl m c b d p q r s e

-- a read looks at no DL either
read_but_dl : (m : Memories) (c : Control) → acted_but_dl (acted m (read_out m c)) ≡ acted_but_dl (acted m (read_out m (with_dl true c)))
unfolding read_out read_names moved_on
read_but_dl m c = by_test c.place.dummy (λ t. rw t) (λ t. rw t)

-- so the same transfers are lost, and the others cost the same
module _ (m : Memories) (c : Control) where
  -- lost, or carried out at its cost, but for DL
  outcome : Bool → ℕ → Acted → Acted
  outcome is n a = when is then acted m (nothing_done (with_dl true c)) else acted a.memories (at_cost n a.done)

  loses : (is : Bool) (n : ℕ) (a : Acted) →
      acted_but_dl (when is then acted m (nothing_done c) else acted a.memories (at_cost n a.done)) ≡ outcome is n (acted_but_dl a)
  unfolding outcome
  loses true n a = refl
  loses false n a = refl

  loses_too : (is : Bool) (n : ℕ) (a : Acted) →
      acted_but_dl (when is then acted m (nothing_done (with_dl true c)) else acted a.memories (at_cost n a.done)) ≡ outcome is n (acted_but_dl a)
  unfolding outcome
  loses_too true n a = refl
  loses_too false n a = refl

  on_time-alike : (t u : Transfer) → lost c t ≡ lost (with_dl true c) u → cost c t ≡ cost (with_dl true c) u →
      acted_but_dl (carried_out m c t) ≡ acted_but_dl (carried_out m (with_dl true c) u) →
      acted_but_dl (on_time m c t) ≡ acted_but_dl (on_time m (with_dl true c) u)
  unfolding on_time
  on_time-alike t u l k q =
      loses (lost c t) (cost c t) (carried_out m c t)
      ∙ ap (λ (is : Bool). outcome is (cost c t) (acted_but_dl (carried_out m c t))) l
      ∙ ap (λ (n : ℕ). outcome (lost (with_dl true c) u) n (acted_but_dl (carried_out m c t))) k
      ∙ ap (outcome (lost (with_dl true c) u) (cost (with_dl true c) u)) q
      ∙ sym (loses_too (lost (with_dl true c) u) (cost (with_dl true c) u) (carried_out m (with_dl true c) u))

  -- function sets cost the same, whatever bit 4 is
  function_sets-cost : (b d : ℕ) → 0x20 ≤ b → b < 0x40 → 0x20 ≤ d → d < 0x40 → cost c (Instruct b) ≡ cost (with_dl true c) (Instruct d)
  function_sets-cost b d p q r s =
      ap (λ (i : Instruction). instruction_cost (touches i)) (function_set-said (modes c) b p q)
      ∙ sym (ap (λ (i : Instruction). instruction_cost (touches i)) (function_set-said (modes c) d r s))

  pub on_time_but_dl : {register : Bool} {b d : ℕ} → SameButBit4 register b d →
      acted_but_dl (on_time m c (halves.writing register b)) ≡ acted_but_dl (on_time m (with_dl true c) (halves.writing register d))
  on_time_but_dl (same {register = false} {b = b}) = on_time-alike (Instruct b) (Instruct b) refl refl (carried_out_but_dl m c (same {register = false} {b = b}))
  on_time_but_dl (same {register = true} {b = b}) = on_time-alike (Write b) (Write b) refl refl (carried_out_but_dl m c (same {register = true} {b = b}))
  on_time_but_dl (function_sets {b = b} {c = d} p q r s e) =
      on_time-alike (Instruct b) (Instruct d) refl (function_sets-cost b d p q r s) (carried_out_but_dl m c (function_sets p q r s e))

-- so it is with every deed
pub performed_but_dl : (m : Memories) (c : Control) (d : Deed) → acted_but_dl (performed m c d) ≡ acted_but_dl (performed m (with_dl true c) d)
unfolding performed carried_out status_read
performed_but_dl m c Nothing = refl
performed_but_dl m c (Whole (Instruct byte)) = on_time_but_dl m c (same {register = false} {b = byte})
performed_but_dl m c (Whole (Write byte)) = on_time_but_dl m c (same {register = true} {b = byte})
performed_but_dl m c (Whole Status) = on_time-alike m c Status Status refl refl refl
performed_but_dl m c (Whole Read) = on_time-alike m c Read Read refl refl (read_but_dl m c)
performed_but_dl m c (Fresh pin) = refl
performed_but_dl m c (Pass eights) = refl

-- the picture and the named bytes do not look at DL
board_after_but_dl : (e : Seen) (b : Board) (a : Acted) → board_but_dl (board_after e b a) ≡ board_but_dl (board_after e b (acted_but_dl a))
unfolding repainted named byte_at byte_over
board_after_but_dl e b a = refl

module _ (e : Seen) where
  -- what leaves the same but DL leaves boards that are the same but DL
  acted_but_dl_lem : (b : Board) (x y : Acted) → acted_but_dl x ≡ acted_but_dl y →
      board_but_dl (board_after e b x) ≡ board_but_dl (board_after e (board_but_dl b) y)
  acted_but_dl_lem b x y q =
      board_after_but_dl e b x ∙ ap (λ (a : Acted). board_but_dl (board_after e b a)) q ∙ sym (board_after_but_dl e b y)

  -- a write, and one alike on the board with DL set
  act_but_dl : (s : Board) {register : Bool} {b d : ℕ} → SameButBit4 register b d →
      board_but_dl (act (board e) s register b) ≡ board_but_dl (act (board e) (board_but_dl s) register d)
  unfolding performed
  act_but_dl s {register} {b} {d} q =
      acted_but_dl_lem s (on_time s.memories s.control (halves.writing register b))
      (on_time s.memories (with_dl true s.control) (halves.writing register d)) (on_time_but_dl s.memories s.control q)

  deed_but_dl : (s : Board) (d : Deed) →
      board_but_dl ((board e).perform s d).state ≡ board_but_dl ((board e).perform (board_but_dl s) d).state
  deed_but_dl s d =
      acted_but_dl_lem s (performed s.memories s.control d) (performed s.memories (with_dl true s.control) d)
      (performed_but_dl s.memories s.control d)

  -- two boards that are the same but DL: writes alike and deeds leave such boards, and count the same
  module _ (s t : Board) (same-board : board_but_dl s ≡ board_but_dl t) where
    act-agrees : {register : Bool} {b d : ℕ} → SameButBit4 register b d → board_but_dl (act (board e) s register b) ≡ board_but_dl (act (board e) t register d)
    act-agrees {register} {b} {d} q =
        act_but_dl s q
        ∙ ap (λ (x : Board). board_but_dl (act (board e) x register d)) same-board
        ∙ sym (act_but_dl t {register = register} {b = d} same)

    pub write-agrees : (w v : WholeWrite) → w.register ≡ v.register → SameButBit4 w.register w.byte v.byte →
        board_but_dl (act (board e) s w.register w.byte) ≡ board_but_dl (act (board e) t v.register v.byte)
    write-agrees w v p q = act-agrees q ∙ ap (λ (r : Bool). board_but_dl (act (board e) t r v.byte)) p

    pub deed-agrees : (d : Deed) → board_but_dl ((board e).perform s d).state ≡ board_but_dl ((board e).perform t d).state
    deed-agrees d =
        deed_but_dl s d ∙ ap (λ (y : Board). board_but_dl ((board e).perform y d).state) same-board ∙ sym (deed_but_dl t d)

    pub write-count-agrees : (w v : WholeWrite) → w.register ≡ v.register → SameButBit4 w.register w.byte v.byte →
        count_of (performed s.memories s.control (deed (write w))) ≡ count_of (performed t.memories t.control (deed (write v)))
    unfolding performed
    write-count-agrees w v p q =
        ap count_of (on_time_but_dl s.memories s.control q)
        ∙ ap (λ (x : Board). count_of (on_time x.memories x.control (halves.writing w.register v.byte))) same-board
        ∙ sym (ap count_of (on_time_but_dl t.memories t.control {register = w.register} {b = v.byte} same))
        ∙ ap (λ (r : Bool). count_of (on_time t.memories t.control (halves.writing r v.byte))) p

    pub deed-count-agrees : (d : Deed) → count_of (performed s.memories s.control d) ≡ count_of (performed t.memories t.control d)
    deed-count-agrees d =
        ap count_of (performed_but_dl s.memories s.control d)
        ∙ ap (λ (x : Board). count_of (performed x.memories x.control d)) same-board
        ∙ sym (ap count_of (performed_but_dl t.memories t.control d))

  pub board_respects : Respected (board e) (λ s t. board_but_dl s ≡ board_but_dl t)
  board_respects = record {
    writes = λ s t register b d h k same-board q. act-agrees s t same-board q;
    events = λ s t x same-board. deed-agrees s t same-board x.deed;
  }
