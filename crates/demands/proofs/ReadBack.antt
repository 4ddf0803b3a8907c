-- The readings for every address, call by call: an address set leaves the place that it names, and the rest is computed.
use Rattle.std.proofs.Common.{None, Option}
use Prim.Native.Nat.{ℕ, ◌+◌, ◌*◌, ◌%◌, ◌<◌}
use mathlib.Core.Bool.{Bool, true, false, true≢false}
use mathlib.Core.List.{List, [], ◌∷◌, ◌++◌}
use mathlib.Core.Path.{◌≡◌, refl, ap, sym, subst, ◌∙◌}
use native.Mathlib.Omega.{arith}
use lib.ListN.{length, get_or, set, length-set}
use lib.Seq.{get_or-set_same, get_or-set_other}
use Rattle.table.specs.declared.Target.{Target}
use Rattle.table.specs.declared.Target.TheVariants.{Text, Glyph, Graphic}
use Rattle.table.specs.declared.Instruction.TheVariants.{GlyphAddress, TextAddress, GraphicAddress}
use Rattle.table.specs.Table.{said}
use Rattle.controller.specs.declared.Time.{Time}
use Rattle.controller.specs.declared.Place.{Place}
use Rattle.controller.specs.declared.Entry.{Entry}
use Rattle.controller.specs.declared.Shown.{Shown}
use Rattle.controller.specs.declared.View.{View}
use Rattle.controller.specs.Memories.{Memories}
use Rattle.controller.specs.Instructions.{pointed, stepped, with_waiting, obeyed}
use Rattle.controller.specs.Data.{stored, found, moved, moved_on}
use Rattle.deeds.specs.Transfers.{executed, written, read_out, status_read, carried_out, on_time, performed}
use Rattle.events.specs.declared.Event.{Event}
use Rattle.links.specs.declared.Link.{Link}
use Rattle.links.specs.declared.Link.TheVariants.{Parallel, Serial}
use Rattle.links.specs.declared.Pairing.{Pairing}
use Rattle.links.specs.Taken.{by_width, taken_by}
use Rattle.picture.specs.Picture.{Seen}
use Rattle.calls.specs.State.{State, state}
use Rattle.calls.specs.Calls.{Fits, called}
use Rattle.demands.specs.Wires.{answers, replies_of, no_time}
use Rattle.calls.proofs.StaysInRange.{still_fits}
use Rattle.links.specs.Idle.{is_serial}
use Rattle.demands.specs.Readings.{write_data, read_status, read_data}
use Rattle.demands.specs.ReadBack.{to_text, to_glyph, to_graphic, there_and_back, both_read, TakesBytes, ReadBack}
use Rattle.demands.proofs.Addresses.{says-text, says-glyph, says-graphic}
use Rattle.demands.proofs.Readings.{Told, tells, call-told}

-- what calls reply, without the frame
replies : State → List Event → List ℕ
replies s [] = []
replies s (call ∷ calls) = (tells s call).reply ∷ replies (tells s call).state calls

replies-told : (e : Seen) (calls : List Event) (s : State) (frame : List ℕ) → Fits e frame → replies_of e s frame calls ≡ replies s calls
unfolding answers replies
replies-told e [] s frame fits = refl
replies-told e (call ∷ calls) s frame fits =
    ap (λ (l : List ℕ). (called e s frame call).reply ∷ l)
    (replies-told e calls (called e s frame call).state (called e s frame call).frame (still_fits e s frame call fits))
    ∙ ap (λ (k : Told). k.reply ∷ replies k.state calls) (call-told e s frame call fits)

-- two bytes stored side by side are found again
module _ (l : List ℕ) (i b c : ℕ) (h : i + 1 < length l) where
  first_back : get_or (set (set l (i + 0) b) (i + 1) c) (i + 0) 0 ≡ b
  first_back =
      get_or-set_other (set l (i + 0) b) (i + 1) (i + 0) c 0 (λ e. omega arith)
      ∙ get_or-set_same l (i + 0) b 0 (omega arith)

  second_back : get_or (set (set l (i + 0) b) (i + 1) c) (i + 1) 0 ≡ c
  second_back = get_or-set_same (set l (i + 0) b) (i + 1) c 0 (omega (arith, length-set l (i + 0) b))

-- without time the busy bit is not set
not_set : (n : ℕ) → 0 + n ≡ n
not_set n = omega arith

-- an address is the low bits of its instruction
text_address : (sr : Bool) (t : Target) (a : ℕ) → a < 64 → said (record { re = false; sr = sr; target = t }) (0x80 + a) ≡ TextAddress a
text_address sr t a h = says-text sr t (0x80 + a) (omega arith) (omega arith) ∙ ap TextAddress (omega arith)

glyph_address : (t : Target) (a : ℕ) → a < 64 → said (record { re = false; sr = false; target = t }) (0x40 + a) ≡ GlyphAddress a
glyph_address t a h = says-glyph t (0x40 + a) (omega arith) (omega arith) ∙ ap GlyphAddress (omega arith)

graphic_address : (sr : Bool) (t : Target) (a : ℕ) → a < 64 → said (record { re = true; sr = sr; target = t }) (0x80 + a) ≡ GraphicAddress a
graphic_address sr t a h = says-graphic sr t (0x80 + a) (omega arith) (omega arith) ∙ ap GraphicAddress (omega arith)

module _ (q : Pairing) (entry : Entry) (shown : Shown) (g : Bool) where
  -- a panel that takes bytes, at a place
  abbrev at : Memories → Place → Bool → Bool → View → Bool → State
  at m p re sr v standby =
      state m (record { place = p; entry = entry; shown = shown; function = record { dl = true; re = re; g = g }; sr = sr; view = v; standby = standby; time = no_time }) (Parallel q)

  module _ (m : Memories) (p : Place) (sr : Bool) (v : View) (standby : Bool) where
    to-text : (a : ℕ) → a < 64 → (calls : List Event)
        → replies (at m p false sr v standby) (to_text a ++ calls) ≡ 0 ∷ replies (at m (pointed Text a p.row) false sr v false) calls
    unfolding replies tells taken_by by_width performed on_time carried_out executed obeyed
    to-text a h calls = rw (text_address sr p.target a h)

    to-glyph : (a : ℕ) → a < 64 → (calls : List Event)
        → replies (at m p false false v standby) (to_glyph a ++ calls) ≡ 0 ∷ replies (at m (pointed Glyph a p.row) false false v false) calls
    unfolding replies tells taken_by by_width performed on_time carried_out executed obeyed
    to-glyph a h calls = rw (glyph_address p.target a h)

    to-graphic : (row column : ℕ) → row < 64 → column < 16 → (calls : List Event)
        → replies (at m (with_waiting None p) true sr v standby) (to_graphic row column ++ calls)
        ≡ 0 ∷ 0 ∷ replies (at m (pointed Graphic column row) true sr v false) calls
    unfolding replies tells taken_by by_width performed on_time carried_out executed obeyed
    to-graphic row column h l calls =
        let r : row % 64 ≡ row = omega arith in
        let k : column % 16 ≡ column = omega arith in
        rw (graphic_address sr p.target row h, graphic_address sr p.target column (omega arith), r, k)

  -- what is read of two bytes written side by side
  module _ (m : Memories) (p : Place) (sr : Bool) (v : View) (standby : Bool) (b c : ℕ) where
    text-back :
        (a : ℕ) → a < 64 → length m.text ≡ 128
        → replies (at m p false sr v standby) (there_and_back (to_text a) b c) ≡ both_read (to_text a) a (stepped entry.id a) b c
    unfolding replies tells taken_by by_width performed on_time carried_out written read_out status_read stored found moved moved_on
    text-back a h long =
        let to = at m (pointed Text a p.row) false sr v false in
        let one = written m to.control b in
        let two = written one.memories one.done.control c in
        let fits : 2 * a + 1 < length m.text = omega arith in
        to-text m p sr v standby a h (read_status ∷ write_data b ∷ read_status ∷ write_data c ∷ read_status ∷ (to_text a ++ (read_data ∷ read_data ∷ read_data ∷ read_status ∷ [])))
        ∙ ap (λ (l : List ℕ). 0 ∷ (0 + a) ∷ 0 ∷ (0 + a) ∷ 0 ∷ (0 + stepped entry.id a) ∷ l)
        (to-text two.memories two.done.control.place sr two.done.control.view false a h (read_data ∷ read_data ∷ read_data ∷ read_status ∷ []))
        ∙ rw (not_set a, not_set (stepped entry.id a), first_back m.text (2 * a) b c fits, second_back m.text (2 * a) b c fits)

    glyph-back :
        (a : ℕ) → a < 64 → length m.glyph ≡ 128
        → replies (at m p false false v standby) (there_and_back (to_glyph a) b c) ≡ both_read (to_glyph a) a (stepped entry.id a) b c
    unfolding replies tells taken_by by_width performed on_time carried_out written read_out status_read stored found moved moved_on
    glyph-back a h long =
        let to = at m (pointed Glyph a p.row) false false v false in
        let one = written m to.control b in
        let two = written one.memories one.done.control c in
        let fits : 2 * a + 1 < length m.glyph = omega arith in
        to-glyph m p sr v standby a h (read_status ∷ write_data b ∷ read_status ∷ write_data c ∷ read_status ∷ (to_glyph a ++ (read_data ∷ read_data ∷ read_data ∷ read_status ∷ [])))
        ∙ ap (λ (l : List ℕ). 0 ∷ (0 + a) ∷ 0 ∷ (0 + a) ∷ 0 ∷ (0 + stepped entry.id a) ∷ l)
        (to-glyph two.memories two.done.control.place sr two.done.control.view false a h (read_data ∷ read_data ∷ read_data ∷ read_status ∷ []))
        ∙ rw (not_set a, not_set (stepped entry.id a), first_back m.glyph (2 * a) b c fits, second_back m.glyph (2 * a) b c fits)

    graphic-back :
        (row column : ℕ) → row < 64 → column < 16 → length m.graphic ≡ 2048
        → replies (at m (with_waiting None p) true sr v standby) (there_and_back (to_graphic row column) b c)
        ≡ both_read (to_graphic row column) column ((column + 1) % 16) b c
    unfolding replies tells taken_by by_width performed on_time carried_out written read_out status_read stored found moved moved_on
    graphic-back row column h k long =
        let to = at m (pointed Graphic column row) true sr v false in
        let one = written m to.control b in
        let two = written one.memories one.done.control c in
        let place = 32 * row + 2 * column in
        let fits : place + 1 < length m.graphic = omega arith in
        to-graphic m p sr v standby row column h k (read_status ∷ write_data b ∷ read_status ∷ write_data c ∷ read_status ∷ (to_graphic row column ++ (read_data ∷ read_data ∷ read_data ∷ read_status ∷ [])))
        ∙ ap (λ (l : List ℕ). 0 ∷ 0 ∷ (0 + column) ∷ 0 ∷ (0 + column) ∷ 0 ∷ (0 + (column + 1) % 16) ∷ l)
        (to-graphic two.memories two.done.control.place sr two.done.control.view false row column h k (read_data ∷ read_data ∷ read_data ∷ read_status ∷ []))
        ∙ rw (not_set column, not_set ((column + 1) % 16), first_back m.graphic place b c fits, second_back m.graphic place b c fits)

-- a state that takes bytes, as the laws above have it
as_bytes :
    (P : State → Type 0) (s : State)
    → is_serial s.link ≡ false
    → s.control.function.dl ≡ true
    → s.control.time ≡ no_time
    → ((q : Pairing) → P (at q s.control.entry s.control.shown s.control.function.g s.memories s.control.place s.control.function.re s.control.sr s.control.view s.control.standby))
    → P s
as_bytes P s parallel wide untimed k = subst (λ (t : Time). P (with t s.link s.control.function.dl)) (sym untimed) (by s.link s.control.function.dl parallel wide)
  where
    with : Time → Link → Bool → State
    with t l dl =
        state s.memories
        (record {
          place = s.control.place;
          entry = s.control.entry;
          shown = s.control.shown;
          function = record { dl = dl; re = s.control.function.re; g = s.control.function.g };
          sr = s.control.sr;
          view = s.control.view;
          standby = s.control.standby;
          time = t;
        })
        l

    by : (l : Link) (dl : Bool) → is_serial l ≡ false → dl ≡ true → P (with no_time l dl)
    by (Parallel q) true x y = k q
    by (Parallel q) false x y = absurd (true≢false (sym y))
    by (Serial r) dl x y = absurd (true≢false x)

module _ (e : Seen) (s : State) (frame : List ℕ) (b c : ℕ) (takes : TakesBytes e s frame) where
  abbrev entry : Entry
  entry = s.control.entry

  -- the same, of the state's own flags
  abbrev own : Place → Bool → Bool → Pairing → State
  own p re sr q = at q entry s.control.shown s.control.function.g s.memories p re sr s.control.view s.control.standby

  abbrev Replies : List Event → ℕ → ℕ → State → Type 0
  Replies address counter next x = replies x (there_and_back address b c) ≡ both_read address counter next b c

  text-read : (a : ℕ) → s.control.function.re ≡ false → a < 64
      → replies_of e s frame (there_and_back (to_text a) b c) ≡ both_read (to_text a) a (stepped entry.id a) b c
  text-read a re h =
      replies-told e (there_and_back (to_text a) b c) s frame takes.fits
      ∙ as_bytes (Replies (to_text a) a (stepped entry.id a)) s takes.parallel takes.wide takes.untimed
      (λ q. subst (λ (x : Bool). Replies (to_text a) a (stepped entry.id a) (own s.control.place x s.control.sr q)) (sym re)
      (text-back q entry s.control.shown s.control.function.g s.memories s.control.place s.control.sr s.control.view s.control.standby b c a h takes.valid.text))

  glyph-read : (a : ℕ) → s.control.function.re ≡ false → s.control.sr ≡ false → a < 64
      → replies_of e s frame (there_and_back (to_glyph a) b c) ≡ both_read (to_glyph a) a (stepped entry.id a) b c
  glyph-read a re sr h =
      replies-told e (there_and_back (to_glyph a) b c) s frame takes.fits
      ∙ as_bytes (Replies (to_glyph a) a (stepped entry.id a)) s takes.parallel takes.wide takes.untimed
      (λ q. subst (λ (x : Bool). Replies (to_glyph a) a (stepped entry.id a) (own s.control.place x s.control.sr q)) (sym re)
      (subst (λ (x : Bool). Replies (to_glyph a) a (stepped entry.id a) (own s.control.place false x q)) (sym sr)
      (glyph-back q entry s.control.shown s.control.function.g s.memories s.control.place s.control.sr s.control.view s.control.standby b c a h takes.valid.glyph)))

  graphic-read : (row column : ℕ) → s.control.function.re ≡ true → s.control.place.waiting ≡ None → row < 64 → column < 16
      → replies_of e s frame (there_and_back (to_graphic row column) b c) ≡ both_read (to_graphic row column) column ((column + 1) % 16) b c
  graphic-read row column re waits h k =
      replies-told e (there_and_back (to_graphic row column) b c) s frame takes.fits
      ∙ as_bytes (Replies (to_graphic row column) column ((column + 1) % 16)) s takes.parallel takes.wide takes.untimed
      (λ q. subst (λ (x : Bool). Replies (to_graphic row column) column ((column + 1) % 16) (own s.control.place x s.control.sr q)) (sym re)
      (subst (λ (w : Option ℕ). Replies (to_graphic row column) column ((column + 1) % 16) (own (with_waiting w s.control.place) true s.control.sr q)) (sym waits)
      (graphic-back q entry s.control.shown s.control.function.g s.memories s.control.place s.control.sr s.control.view s.control.standby b c row column h k takes.valid.graphic)))

pub read_back : ReadBack
read_back =
    record {
      text = λ e s frame a b c takes. text-read e s frame b c takes a;
      glyph = λ e s frame a b c takes. glyph-read e s frame b c takes a;
      graphic = λ e s frame row column b c takes. graphic-read e s frame b c takes row column;
    }
