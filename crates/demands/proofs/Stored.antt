-- A word's two bytes, by what doing the writes leaves and counts: an address set leaves its place, and the rest is computed. Over any way
-- the calls leave and count the same.
use Rattle.std.proofs.Common.{None, Option, Some}
use Prim.Native.Nat.{ℕ, ◌≤◌, ◌<◌}
use mathlib.Core.Bool.{Bool, true, false, ◌&&◌, true≢false}
use mathlib.Core.List.{List, [], ◌∷◌}
use mathlib.Core.Path.{◌≡◌, refl, ap, ◌∙◌}
use native.Mathlib.Omega.{arith}
use Rattle.base.specs.Bits.{bits5_0, bits3_0}
use Rattle.base.specs.Choice.{when◌then◌else◌}
use Rattle.controller.specs.declared.Time.{Time}
use Rattle.controller.specs.declared.Control.{Control}
use Rattle.controller.specs.declared.Region.{Region}
use Rattle.controller.specs.declared.Region.TheVariants as region
use Rattle.controller.specs.declared.Region.TheVariants.{Whole, Cells, GlyphHalf, GraphicHalf}
use Rattle.controller.specs.declared.View.{View}
use Rattle.controller.specs.Memories.{Memories}
use Rattle.controller.specs.Instructions.{stepped, with_waiting, obeyed}
use Rattle.controller.specs.Data.{stored, moved, moved_on}
use Rattle.controller.specs.Named.{counter_cell, instruction_names, write_names, covers}
use Rattle.deeds.specs.Transfers.{Acted, obeyed_acted, executed, written, carried_out, on_time, performed}
use Rattle.connector.specs.Items.{WholeWrite, Item, deed, Way, whole_bytes, halves, serial}
use Rattle.connector.specs.Connector.{does}
use Rattle.picture.specs.Picture.{Seen, wide}
use Rattle.repaint.specs.Repaint.{named, count_named}
use Rattle.base.proofs.Counting.{count-all}
use Rattle.repaint.proofs.Counts.{count-whole}
use Rattle.calls.specs.State.{State}
use Rattle.calls.specs.Calls.{Stands}
use Rattle.demands.specs.Wires.{Board, count_of, board_after, board, item_counts, no_time, items, SetsDl, SetsWidth}
use Rattle.demands.specs.Agreement.{ReceivedAsGiven}
use Rattle.demands.specs.Stored.{instruction, datum, with_text_word, with_glyph_word, with_graphic_word, all_if, text_sizes, glyph_sizes, graphic_sizes, Begins, Stores, WordsStored}
use Rattle.events.specs.declared.Transfer.TheVariants.{Instruct}
use Rattle.table.specs.declared.Instruction.TheVariants.{GraphicAddress}
use Rattle.demands.proofs.Calm.{calm}
use Rattle.demands.proofs.Addresses.{says-text, says-glyph, says-graphic}
use Rattle.demands.proofs.Agreement.{writes_are_received}
use Rattle.demands.proofs.Quiet.{none-counted}
use Rattle.demands.proofs.Timely.{writes-timely}
use Rattle.demands.proofs.KeepDl.{function_sets-keep-dl}

-- what the first instruction counts
waking : (v : View) (text : List ℕ) (standby : Bool) (r : Region) →
    count_named wide v text (when standby && true then Whole else r) ≡ (when standby then 1024 else count_named wide v text r)
unfolding count_named named
waking v text true r = count-whole v text
waking v text false r = refl

module _ (e : Seen) (frame : List ℕ) (m : Memories) (k : Control) (b c : ℕ) (p : b < 256) (q : c < 256) where
  -- a board with these flags, and all else as it is
  abbrev from : Bool → Bool → Bool → Option ℕ → Time → Board
  from re s sr waiting time =
      record {
        memories = m;
        control = record {
          place = with_waiting waiting k.place;
          entry = record { id = k.entry.id; s = s };
          shown = k.shown;
          function = record { dl = k.function.dl; re = re; g = k.function.g };
          sr = sr;
          view = k.view;
          standby = k.standby;
          time = time;
        };
        frame = frame;
      }

  -- how many bytes a region has there
  abbrev size : Region → ℕ
  size r = count_named wide k.view m.text r

  text-left : (a : ℕ) (h : a < 256) → 0x80 ≤ a →
      (does (board e) (from false k.entry.s k.sr k.place.waiting no_time) (instruction a h ∷ datum b p ∷ datum c q ∷ [])).memories
      ≡ with_text_word (bits5_0 a) b c m
  unfolding does performed on_time carried_out executed written stored obeyed moved moved_on
  text-left a h low = rw (says-text k.sr k.place.target a low h)

  text-counted : (z : Bool) (a : ℕ) (h : a < 256) → 0x80 ≤ a →
      item_counts e (from false z k.sr k.place.waiting no_time) (instruction a h ∷ datum b p ∷ datum c q ∷ [])
      ≡ all_if k.standby (size (Cells (counter_cell k.place) (Some (bits5_0 a))))
      ∷ size (Cells (Some (bits5_0 a)) None)
      ∷ all_if z (size (Cells (Some (bits5_0 a)) (Some (stepped k.entry.id (bits5_0 a)))))
      ∷ []
  unfolding item_counts performed on_time carried_out executed written stored obeyed moved moved_on instruction_names write_names count_named named covers
  text-counted false a h low =
      let first = waking k.view m.text k.standby (Cells (counter_cell k.place) (Some (bits5_0 a))) in
      let word = size (Cells (Some (bits5_0 a)) None) in
      let both = size (Cells (Some (bits5_0 a)) (Some (stepped k.entry.id (bits5_0 a)))) in
      rw (says-text k.sr k.place.target a low h) (ap (λ (n : ℕ). n ∷ word ∷ both ∷ []) first)
  text-counted true a h low =
      let first = waking k.view m.text k.standby (Cells (counter_cell k.place) (Some (bits5_0 a))) in
      let word = size (Cells (Some (bits5_0 a)) None) in
      rw (says-text k.sr k.place.target a low h, count-all 1024 (λ i. true) (λ i h. refl)) (ap (λ (n : ℕ). n ∷ word ∷ 1024 ∷ []) first)

  glyph-left : (a : ℕ) (h : a < 256) → 0x40 ≤ a → a < 0x80 →
      (does (board e) (from false k.entry.s false k.place.waiting no_time) (instruction a h ∷ datum b p ∷ datum c q ∷ [])).memories
      ≡ with_glyph_word (bits5_0 a) b c m
  unfolding does performed on_time carried_out executed written stored obeyed moved moved_on
  glyph-left a h low high = rw (says-glyph k.place.target a low high)

  glyph-counted : (a : ℕ) (h : a < 256) → 0x40 ≤ a → a < 0x80 →
      item_counts e (from false k.entry.s false k.place.waiting no_time) (instruction a h ∷ datum b p ∷ datum c q ∷ [])
      ≡ all_if k.standby (size (Cells (counter_cell k.place) None))
      ∷ size (GlyphHalf (bits5_0 a) false)
      ∷ size (GlyphHalf (bits5_0 a) true)
      ∷ []
  unfolding item_counts performed on_time carried_out executed written stored obeyed moved moved_on instruction_names write_names
  glyph-counted a h low high =
      let more = size (GlyphHalf (bits5_0 a) false) ∷ size (GlyphHalf (bits5_0 a) true) ∷ [] in
      rw (says-glyph k.place.target a low high)
      (ap (λ (n : ℕ). n ∷ more) (waking k.view m.text k.standby (Cells (counter_cell k.place) None)))

  -- the board after the row
  abbrev row_set : ℕ → Board
  row_set y =
      let start : Board = from true k.entry.s k.sr None no_time in
      board_after e start (obeyed_acted m start.control (GraphicAddress (bits5_0 y)))

  set-row : (y : ℕ) (h : y < 256) → 0x80 ≤ y →
      let start : Board = from true k.entry.s k.sr None no_time in
      performed m start.control (deed (instruction y h)) ≡ obeyed_acted m start.control (GraphicAddress (bits5_0 y))
  unfolding performed carried_out executed
  set-row y h low =
      let start : Board = from true k.entry.s k.sr None no_time in
      calm m start.control (Instruct y) ∙ ap (obeyed_acted m start.control) (says-graphic k.sr k.place.target y low h)

  set-column : (y x : ℕ) (i : x < 256) → 0x80 ≤ x →
      performed m (row_set y).control (deed (instruction x i)) ≡ obeyed_acted m (row_set y).control (GraphicAddress (bits5_0 x))
  unfolding performed carried_out executed obeyed
  set-column y x i low =
      calm m (row_set y).control (Instruct x) ∙ ap (obeyed_acted m (row_set y).control) (says-graphic k.sr k.place.target x low i)

  graphic-left : (y x : ℕ) (h : y < 256) (i : x < 256) → 0x80 ≤ y → 0x80 ≤ x →
      (does (board e) (from true k.entry.s k.sr None no_time) (instruction y h ∷ instruction x i ∷ datum b p ∷ datum c q ∷ [])).memories
      ≡ with_graphic_word (bits5_0 y) (bits3_0 x) b c m
  unfolding does performed on_time carried_out written stored obeyed moved moved_on
  graphic-left y x h i low low' =
      let row : bits5_0 (bits5_0 y) ≡ bits5_0 y = omega arith in
      let column : bits3_0 (bits5_0 x) ≡ bits3_0 x = omega arith in
      let start = from true k.entry.s k.sr None no_time in
      ap (λ (a : Acted). (does (board e) (board_after e start a) (instruction x i ∷ datum b p ∷ datum c q ∷ [])).memories) (set-row y h low)
      ∙ ap (λ (a : Acted). (does (board e) (board_after e (row_set y) a) (datum b p ∷ datum c q ∷ [])).memories) (set-column y x i low')
      ∙ rw (row, column)

  graphic-counted : (y x : ℕ) (h : y < 256) (i : x < 256) → 0x80 ≤ y → 0x80 ≤ x →
      item_counts e (from true k.entry.s k.sr None no_time) (instruction y h ∷ instruction x i ∷ datum b p ∷ datum c q ∷ [])
      ≡ all_if k.standby 0
      ∷ size (Cells (counter_cell k.place) None)
      ∷ size (GraphicHalf (bits5_0 y) (bits3_0 x) false)
      ∷ size (GraphicHalf (bits5_0 y) (bits3_0 x) true)
      ∷ []
  unfolding item_counts performed on_time carried_out written stored obeyed moved moved_on instruction_names write_names
  graphic-counted y x h i low low' =
      let row : bits5_0 (bits5_0 y) ≡ bits5_0 y = omega arith in
      let column : bits3_0 (bits5_0 x) ≡ bits3_0 x = omega arith in
      let start = from true k.entry.s k.sr None no_time in
      let more =
      size (Cells (counter_cell k.place) None)
      ∷ size (GraphicHalf (bits5_0 y) (bits3_0 x) false)
      ∷ size (GraphicHalf (bits5_0 y) (bits3_0 x) true)
      ∷ [] in
      ap (λ (a : Acted). count_of a ∷ item_counts e (board_after e start a) (instruction x i ∷ datum b p ∷ datum c q ∷ [])) (set-row y h low)
      ∙ ap (λ (a : Acted). count_of (obeyed_acted m start.control (GraphicAddress (bits5_0 y))) ∷ count_of a ∷ item_counts e (board_after e (row_set y) a) (datum b p ∷ datum c q ∷ []))
      (set-column y x i low')
      ∙ rw (row, column)
      (ap (λ (n : ℕ). n ∷ more)
      (waking k.view m.text k.standby region.Nothing
      ∙ ap (λ (n : ℕ). when k.standby then 1024 else n) (none-counted k.view m.text)))

-- no function set is among these writes
module _ (dl : Bool) (b c : ℕ) (p : b < 256) (q : c < 256) where
  sets-dl : (a : ℕ) (h : a < 256) → 0x40 ≤ a → SetsDl dl (record { register = false; byte = a; small = h } ∷ record { register = true; byte = b; small = p } ∷ record { register = true; byte = c; small = q } ∷ [])
  unfolding SetsDl
  sets-dl a h low = (λ r u v. absurd (omega arith), (λ r u v. absurd (true≢false r), (λ r u v. absurd (true≢false r), tt)))

sets-width : (way : Way) (list : List WholeWrite) → ((dl : Bool) → SetsDl dl list) → SetsWidth way list
sets-width whole_bytes list h = h true
sets-width (halves low) list h = h false
sets-width serial list h = tt

module _ (e : Seen) (way : Way) (s : State) (frame : List ℕ) (b c : ℕ) (p : b < 256) (q : c < 256) (begins : Begins e way s frame) where
  received : (list : List WholeWrite) → ((dl : Bool) → SetsDl dl list) → ReceivedAsGiven e way s frame (items list)
  received list sets =
      writes_are_received e way s frame (items list) begins.fits begins.idle (writes-timely s.control list)
      (function_sets-keep-dl e way s frame list begins.width (sets-width way list sets))

  abbrev own : Bool → Bool → Bool → Option ℕ → Time → Board
  own re shifts sr waiting time = from e frame s.memories s.control b c p q re shifts sr waiting time

  -- the writes of a word after an address
  abbrev word : (a : ℕ) → a < 256 → List Item
  word a h = instruction a h ∷ datum b p ∷ datum c q ∷ []

  abbrev graphic_word : (y x : ℕ) → y < 256 → x < 256 → List Item
  graphic_word y x h i = instruction y h ∷ instruction x i ∷ datum b p ∷ datum c q ∷ []

  word-received : (a : ℕ) (h : a < 256) → 0x40 ≤ a → ReceivedAsGiven e way s frame (word a h)
  word-received a h low = received _ (λ dl. sets-dl dl b c p q a h low)

  graphic-received : (y x : ℕ) (h : y < 256) (i : x < 256) → 0x40 ≤ y → 0x40 ≤ x → ReceivedAsGiven e way s frame (graphic_word y x h i)
  unfolding SetsDl
  graphic-received y x h i low low' =
      received
      (record { register = false; byte = y; small = h }
      ∷ record { register = false; byte = x; small = i }
      ∷ record { register = true; byte = b; small = p }
      ∷ record { register = true; byte = c; small = q }
      ∷ [])
      (λ dl. (λ r u v. absurd (omega arith), sets-dl dl b c p q x i low'))

  abbrev left : List Item → Board → Memories
  left list from = (does (board e) from list).memories

  abbrev flags : Control
  flags = s.control

  -- the board as it is, but for its time
  abbrev with_own : Time → Board
  with_own t = own flags.function.re flags.entry.s flags.sr flags.place.waiting t

  text-stored : (a : ℕ) (h : a < 256) → s.control.function.re ≡ false → 0x80 ≤ a →
      Stores e way s frame (word a h) (with_text_word (bits5_0 a) b c s.memories) (text_sizes s (bits5_0 a))
  text-stored a h re low =
      record {
        memories =
            ap (λ (x : Stands). x.state.memories) (word-received a h (omega arith)).stands
            ∙ ap (λ (t : Time). left (word a h) (with_own t)) begins.untimed
            ∙ ap (λ (x : Bool). left (word a h) (own x flags.entry.s flags.sr flags.place.waiting no_time)) re
            ∙ text-left e frame s.memories flags b c p q a h low;
        counts =
            (word-received a h (omega arith)).sums
            ∙ ap (λ (t : Time). item_counts e (with_own t) (word a h)) begins.untimed
            ∙ ap (λ (x : Bool). item_counts e (own x flags.entry.s flags.sr flags.place.waiting no_time) (word a h)) re
            ∙ text-counted e frame s.memories flags b c p q flags.entry.s a h low;
      }

  glyph-stored : (a : ℕ) (h : a < 256) → s.control.function.re ≡ false → s.control.sr ≡ false → 0x40 ≤ a → a < 0x80 →
      Stores e way s frame (word a h) (with_glyph_word (bits5_0 a) b c s.memories) (glyph_sizes s (bits5_0 a))
  glyph-stored a h re sr low high =
      record {
        memories =
            ap (λ (x : Stands). x.state.memories) (word-received a h low).stands
            ∙ ap (λ (t : Time). left (word a h) (with_own t)) begins.untimed
            ∙ ap (λ (x : Bool). left (word a h) (own x flags.entry.s flags.sr flags.place.waiting no_time)) re
            ∙ ap (λ (x : Bool). left (word a h) (own false flags.entry.s x flags.place.waiting no_time)) sr
            ∙ glyph-left e frame s.memories flags b c p q a h low high;
        counts =
            (word-received a h low).sums
            ∙ ap (λ (t : Time). item_counts e (with_own t) (word a h)) begins.untimed
            ∙ ap (λ (x : Bool). item_counts e (own x flags.entry.s flags.sr flags.place.waiting no_time) (word a h)) re
            ∙ ap (λ (x : Bool). item_counts e (own false flags.entry.s x flags.place.waiting no_time) (word a h)) sr
            ∙ glyph-counted e frame s.memories flags b c p q a h low high;
      }

  graphic-stored : (y x : ℕ) (h : y < 256) (i : x < 256) → s.control.function.re ≡ true → s.control.place.waiting ≡ None → 0x80 ≤ y → 0x80 ≤ x →
      Stores e way s frame (graphic_word y x h i) (with_graphic_word (bits5_0 y) (bits3_0 x) b c s.memories) (graphic_sizes s (bits5_0 y) (bits3_0 x))
  graphic-stored y x h i re waits low low' =
      record {
        memories =
            ap (λ (x : Stands). x.state.memories) (graphic-received y x h i (omega arith) (omega arith)).stands
            ∙ ap (λ (t : Time). left (graphic_word y x h i) (with_own t)) begins.untimed
            ∙ ap (λ (r : Bool). left (graphic_word y x h i) (own r flags.entry.s flags.sr flags.place.waiting no_time)) re
            ∙ ap (λ (w : Option ℕ). left (graphic_word y x h i) (own true flags.entry.s flags.sr w no_time)) waits
            ∙ graphic-left e frame s.memories flags b c p q y x h i low low';
        counts =
            (graphic-received y x h i (omega arith) (omega arith)).sums
            ∙ ap (λ (t : Time). item_counts e (with_own t) (graphic_word y x h i)) begins.untimed
            ∙ ap (λ (r : Bool). item_counts e (own r flags.entry.s flags.sr flags.place.waiting no_time) (graphic_word y x h i)) re
            ∙ ap (λ (w : Option ℕ). item_counts e (own true flags.entry.s flags.sr w no_time) (graphic_word y x h i)) waits
            ∙ graphic-counted e frame s.memories flags b c p q y x h i low low';
      }

pub words_stored : WordsStored
words_stored =
    record {
      text = λ e way s frame a b c h p q begins. text-stored e way s frame b c p q begins a h;
      glyph = λ e way s frame a b c h p q begins. glyph-stored e way s frame b c p q begins a h;
      graphic = λ e way s frame y x b c h i p q begins. graphic-stored e way s frame b c p q begins y x h i;
    }
