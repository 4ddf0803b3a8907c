-- A line's tiles: laid, marked and reversed, handed out row by row and overlaid, they give the picture.
use Prim.Native.Nat.{ℕ, zero, suc, ◌+◌, ◌*◌, ◌-◌, ◌/◌, ◌%◌, ◌<◌, ◌≤◌}
use mathlib.Core.Path.{◌≡◌, refl, sym, ap, ap₂, ◌∙◌}
use mathlib.Core.Logic.{◌≢◌, ⊎_elim}
use mathlib.Core.Bool.{Bool, true, false, ◌&&◌, ◌||◌}
use mathlib.Core.List.{List, ◌∷◌}
use native.Mathlib.Omega.{arith}
use native.Mathlib.Nat.{add-zero}
use lib.ListN.{length, get_or, set, replicate}
use lib.Dec.{eqb}
use lib.Bits.{bit_xor}
use borrow.Author.Tests.{eqb-true, eqb-false, eq-eqb}
use Rattle.base.specs.Choice.{when◌then◌else◌}
use Rattle.base.specs.Lists.{upto}
use Rattle.base.specs.Painting.{painted, everywhere, between}
use Rattle.base.specs.Layout.{on, painted_on}
use Rattle.base.proofs.Tests.{alike, or_either, or_else}
use Rattle.base.proofs.Lists.{get_or-upto, upto_cong}
use Rattle.base.proofs.Painting.{painted-named, painted_same, painted-none, painted_cong, painted-twice, painted_upto, as_long}
use Rattle.base.proofs.Loops.{in_between, paint_step, pair-painted}
use Rattle.base.proofs.Copies.{one_further, not_yet}
use Rattle.picture.specs.declared.Look.{Look}
use Rattle.picture.specs.declared.Scene.{Scene}
use Rattle.controller.specs.Memories.{Memories, half}
use Rattle.controller.specs.Glass.{shown_row, shown_word}
use Rattle.picture.specs.Picture.{Fonts, fonts_in, right, cell_byte, graphic_byte, filled, inverted, overlaid, byte_over, byte_at, wide, picture}
use Rattle.picture.specs.Tiles.{counter_word, word_dots, line_word, underlined, turned, marked_byte, marked_at, marked_line, tile_byte, tile_at, line_at, by_tile, from_tiles, in_rows, shown_by, pair_by}
use Rattle.picture.specs.declared.TwoBytes.{TwoBytes}
use Rattle.picture.proofs.Bytes.{counter-here}
use Rattle.picture.proofs.Unread.{half-right}
use Rattle.picture.proofs.Wide.{rows_lie}

inverted-upto : (P : ℕ → Bool) (f : ℕ → ℕ) (n : ℕ) → painted P (λ i. 0xFF - get_or (upto n f) i 0) (upto n f) ≡ upto n (λ i. inverted (P i) (f i))
inverted-upto P f n =
    painted_upto P (λ i. 0xFF - get_or (upto n f) i 0) f n
    ∙ upto_cong n _ _ (λ i l. ap (λ (x : ℕ). when P i then 0xFF - x else f i) (get_or-upto n f i l))

marked : (n : ℕ) (f : ℕ → ℕ) (P Q : ℕ → Bool) → (
    let u = painted P (λ i. 0xFF) (upto n f) in
    painted Q (λ i. 0xFF - get_or u i 0) u) ≡ upto n (λ i. inverted (Q i) (filled (P i) (f i)))
marked n f P Q = rw (painted_upto P (λ i. 0xFF) f n) (inverted-upto Q (λ i. filled (P i) (f i)) n)

-- one cell further: its tile begins at a multiple of 32
pub words_turn : (d : ℕ → ℕ → ℕ) (cell : ℕ) (f g h : List ℕ)
    → g ≡ painted (between 0 (32 * cell) everywhere) (by_tile d) f
    → h ≡ painted (between (32 * cell) (32 * cell + 32) everywhere) (λ i. get_or (upto 32 (d cell)) (i - 32 * cell) 0) g
    → h ≡ painted (between 0 (32 * (cell + 1)) everywhere) (by_tile d) f
words_turn d cell f g h c e =
    let next : 32 * (cell + 1) ≡ 32 * cell + 32 = omega arith in
    rw next (paint_step everywhere (by_tile d) f g h 0 (32 * cell) (32 * cell + 32) (omega arith) (omega arith) c
    (e ∙ painted_cong _ _ _ (by_tile d) g (λ i l. refl)
    (λ i l t. let q = in_between (32 * cell) (32 * cell + 32) everywhere i t in
    let a : cell ≡ i / 32 = omega arith in
    let b : i - 32 * cell ≡ i % 32 = omega arith in
    get_or-upto 32 (d cell) (i - 32 * cell) (omega arith) ∙ ap₂ d a b)))

-- the two bytes of a cell that a row takes
pub taken-left : (tiles : List ℕ) (y row cell : ℕ) → cell < 16 → get_or tiles (32 * cell + 2 * y) 0 ≡ from_tiles tiles y (32 * row + 2 * cell)
taken-left tiles y row cell h =
    let a : (32 * row + 2 * cell) % 32 ≡ 2 * cell = omega arith in
    let b : 2 * cell / 2 ≡ cell = omega arith in
    let d : (32 * row + 2 * cell) % 2 ≡ 0 = omega arith in
    let k : 32 * cell + 2 * y ≡ 32 * ((32 * row + 2 * cell) % 32 / 2) + 2 * y + (32 * row + 2 * cell) % 2 = rw (a, b, d) (sym (add-zero _)) in
    ap (λ (n : ℕ). get_or tiles n 0) k

pub taken-right : (tiles : List ℕ) (y row cell : ℕ) → cell < 16 → get_or tiles (32 * cell + 2 * y + 1) 0 ≡ from_tiles tiles y (32 * row + 2 * cell + 1)
taken-right tiles y row cell h =
    let a : (32 * row + 2 * cell + 1) % 32 ≡ 2 * cell + 1 = omega arith in
    let b : (2 * cell + 1) / 2 ≡ cell = omega arith in
    let d : (32 * row + 2 * cell + 1) % 2 ≡ 1 = omega arith in
    let k : 32 * cell + 2 * y + 1 ≡ 32 * ((32 * row + 2 * cell + 1) % 32 / 2) + 2 * y + (32 * row + 2 * cell + 1) % 2 = rw (a, b, d) in
    ap (λ (n : ℕ). get_or tiles n 0) k

-- one row further
pub out_turn : (tiles : List ℕ) (scroll row r : ℕ) (f g h : List ℕ) → row ≤ r
    → g ≡ painted (between (32 * row) (32 * r) everywhere) (λ i. from_tiles tiles ((i / 32 + scroll) % 16) i) f
    → h ≡ painted (between (32 * r) (32 * r + 32) everywhere) (from_tiles tiles ((r + scroll) % 16)) g
    → h ≡ painted (between (32 * row) (32 * (r + 1)) everywhere) (λ i. from_tiles tiles ((i / 32 + scroll) % 16) i) f
out_turn tiles scroll row r f g h l c e =
    let next : 32 * (r + 1) ≡ 32 * r + 32 = omega arith in
    rw next (paint_step everywhere (λ i. from_tiles tiles ((i / 32 + scroll) % 16) i) f g h (32 * row) (32 * r) (32 * r + 32) (omega arith) (omega arith) c
    (e ∙ painted_cong _ _ _ (λ i. from_tiles tiles ((i / 32 + scroll) % 16) i) g (λ i l. refl)
    (λ i l t. let q = in_between (32 * r) (32 * r + 32) everywhere i t in
    let a : r ≡ i / 32 = omega arith in
    ap (λ (n : ℕ). from_tiles tiles ((n + scroll) % 16) i) a)))

-- one byte of the graphic further
pub over-turn : (graphic f g : List ℕ) (from to n : ℕ) → to + n < length f
    → g ≡ painted (between to (to + n) everywhere) (λ i. bit_xor (get_or f i 0) (get_or graphic (from + (i - to)) 0)) f
    → set g (to + n) (bit_xor (get_or g (to + n) 0) (get_or graphic (from + n) 0))
    ≡ painted (between to (to + (n + 1)) everywhere) (λ i. bit_xor (get_or f i 0) (get_or graphic (from + (i - to)) 0)) f
over-turn graphic f g from to n l c =
    let k : from + n ≡ from + (to + n - to) = omega arith in
    one_further (λ i. bit_xor (get_or f i 0) (get_or graphic (from + (i - to)) 0)) f g to (to + n) (to + (n + 1)) (omega arith) c _ l (omega arith)
    (ap₂ bit_xor (not_yet _ f g to (to + n) l c) (ap (λ (i : ℕ). get_or graphic i 0) k))

-- glyph row 15 is the last two bytes of a tile
last_row : (j : ℕ) → (eqb j 30 || eqb j 31) ≡ eqb (j / 2) 15
last_row j =
    alike (eqb j 30 || eqb j 31) (eqb (j / 2) 15)
    (λ e. ⊎_elim
    (λ (d : eqb j 30 ≡ true). let z : j ≡ 30 = eqb-true _ _ d in eq-eqb (j / 2) 15 (omega arith))
    (λ (d : eqb j 31 ≡ true). let z : j ≡ 31 = eqb-true _ _ d in eq-eqb (j / 2) 15 (omega arith))
    (or_either _ _ e))
    (λ e. let r : j / 2 ≡ 15 = eqb-true _ _ e in or_else (eqb j 30) (eqb j 31) (λ d. let n : j ≢ 30 = eqb-false _ _ d in eq-eqb j 31 (omega arith)))

pub last_set : (t : List ℕ) → length t ≡ 32 → set (set t 30 0xFF) 31 0xFF ≡ underlined true t
last_set t k =
    pair-painted 30 (λ j. 0xFF) t (omega arith) ∙ painted_same (λ j. eqb j 30 || eqb j 31) (λ j. eqb (j / 2) 15) (λ j. 0xFF) t (λ j l. last_row j)

and_in_turn : (h w x : Bool) → ((h && w) && x) ≡ (h && (w && x))
and_in_turn true w x = refl
and_in_turn false w x = refl

-- where nothing is to be marked
pub unmarked : (t : List ℕ) → t ≡ turned false (underlined false t)
unmarked t = sym (painted-none (λ j. false) _ (underlined false t) (λ j l. refl) ∙ painted-none (λ j. false) _ t (λ j l. refl))

-- the dots of a word with its marks
pub tile_marked : (s : Scene) (word : ℕ) (t v : List ℕ) (here : Bool) → word < 64
    → t ≡ upto 32 (word_dots (fonts_in s) s.text.now s.glyphs.memory.now s.look.view.numbering word)
    → here ≡ eqb word (counter_word s.look.counter)
    → v ≡ turned (here && s.look.blink) (underlined (here && s.look.cursor) t)
    → v ≡ upto 32 (marked_at s word)
unfolding marked_byte
tile_marked s word t v here k laid is-here a =
    rw (a, laid)
    (marked 32 _ (λ j. (here && s.look.cursor) && eqb (j / 2) 15) (λ j. here && s.look.blink)
    ∙ upto_cong 32 _ _ (λ j l. rw (and_in_turn here s.look.cursor (eqb (j / 2) 15), is-here, counter-here s.look.counter word k)))

-- and reversed: a word's, and a line's
pub tile_reversed : (s : Scene) (word : ℕ) (t v : List ℕ)
    → t ≡ upto 32 (marked_at s word) → v ≡ turned (get_or s.look.view.reversed (word / 16) false) t → v ≡ upto 32 (tile_at s word)
unfolding tile_byte marked_byte
tile_reversed s word t v a b =
    rw (b, a) (inverted-upto (λ j. get_or s.look.view.reversed (word / 16) false) (marked_at s word) 32)

line-of : (line shift cell : ℕ) → line_word shift line cell / 16 ≡ line
line-of line shift cell = omega arith

pub line_reversed : (s : Scene) (line : ℕ) (t v : List ℕ)
    → t ≡ upto 512 (marked_line s line) → v ≡ turned (get_or s.look.view.reversed line false) t → v ≡ upto 512 (line_at s line)
unfolding tile_byte marked_byte
line_reversed s line t v a b =
    rw (b, a)
    (inverted-upto (λ i. get_or s.look.view.reversed line false) (marked_line s line) 512
    ∙ upto_cong 512 _ _ (λ i l. rw (line-of line s.look.view.shift (i / 32))))

-- the rows of a band show one line, one after the other
row_in_band : (scroll row r end s : ℕ) → s ≡ (row + scroll) % 64 → row ≤ r → r < end → end + s % 16 ≤ row + 16 → (r + scroll) % 64 ≡ s + (r - row)
row_in_band scroll row r end s is h l k = omega arith

still_inside : (t end row r : ℕ) → row ≤ r → r < end → end + t ≤ row + 16 → t + (r - row) < 16
still_inside t end row r h l k = omega arith

same_line : (s d : ℕ) → s % 16 + d < 16 → s / 16 ≡ (s + d) / 16
same_line s d h = omega arith

within-line : (x : ℕ) → x % 16 ≡ x % 64 % 16
within-line x = omega arith

-- a place among a line's tiles
tile_of : (k y p : ℕ) → y < 16 → p < 2 → (32 * k + 2 * y + p) / 32 ≡ k
tile_of k y p h l = omega arith

byte_of : (k y p : ℕ) → y < 16 → p < 2 → (32 * k + 2 * y + p) % 32 ≡ 2 * y + p
byte_of k y p h l = omega arith

place_lt : (k y p : ℕ) → k < 16 → y < 16 → p < 2 → 32 * k + 2 * y + p < 512
place_lt k y p g h l = omega arith

parity : (i : ℕ) → i % 2 ≡ i % 32 % 2
parity i = omega arith

cell_lt : (i : ℕ) → i % 32 / 2 < 16
cell_lt i = omega arith

row_lt : (x : ℕ) → x % 16 < 16
row_lt x = omega arith

side_lt : (x : ℕ) → x % 2 < 2
side_lt x = omega arith

pub over-fits : (s row end : ℕ) → s < 64 → row < end → end + s % 16 ≤ row + 16 → 32 * s + 32 * (end - row) ≤ 2048
over-fits s row end b h l = omega arith

-- a place of the graphic memory under a band
graphic-of : (s row i : ℕ) → row ≤ i / 32 → 32 * s + (i - 32 * row) ≡ 32 * (s + (i / 32 - row)) + 2 * (i % 32 / 2) + half (right (i % 32))
graphic-of s row i h =
    let p = half-right (i % 32) in
    let a : i % 32 ≡ 2 * (i % 32 / 2) + i % 32 % 2 = omega arith in
    omega arith

zeros : (n : ℕ) → replicate n 0 ≡ upto n (λ i. 0)
unfolding upto
zeros zero = refl
zeros (suc n) = ap (λ (l : List ℕ). 0 ∷ l) (zeros n)

alight : (d : Bool) (x : ℕ) → d ≡ false → (when d then 0x00 else x) ≡ x
alight d x h = rw h

module _ (e : Fonts) (m : Memories) (look : Look) where
  -- where nothing shows
  dark-picture : look.dark ≡ true → upto 1024 (λ i. 0) ≡ picture wide e m look
  unfolding picture byte_at byte_over
  dark-picture h = upto_cong 1024 _ _ (λ i l. rw h)

  -- a frame of zeros is that
  pub dark-filled : (f : List ℕ) → look.dark ≡ true → length f ≡ 1024 → replicate (length f) 0 ≡ picture wide e m look
  dark-filled f h k = zeros (length f) ∙ ap (λ (n : ℕ). upto n (λ i. 0)) k ∙ dark-picture h

  -- a byte of the picture is the tile's, with the graphic over it
  byte_by_tile : (row column : ℕ) → byte_at e m look row column
      ≡ (when look.dark then 0x00
      else overlaid look.graphic (graphic_byte m.graphic look.view row column)
      (tile_byte e m.text m.glyph look (shown_word look.view row (column / 2)) (2 * (shown_row look.view row % 16) + column % 2)))
  unfolding byte_at byte_over cell_byte tile_byte shown_word
  byte_by_tile row column =
      let s = shown_row look.view row in
      let a : (2 * (s % 16) + column % 2) / 2 ≡ s % 16 = omega arith in
      let b : (2 * (s % 16) + column % 2) % 2 ≡ column % 2 = omega arith in
      let d : (16 * (s / 16) + (column / 2 + look.view.shift) % 16) / 16 ≡ s / 16 = omega arith in
      rw (a, b, d)

  pub byte-shown-by : (tile : List ℕ) (word row column : ℕ) → tile ≡ upto 32 (tile_byte e m.text m.glyph look word)
      → word ≡ shown_word look.view row (column / 2) → shown_by tile m.graphic look row column ≡ byte_at e m look row column
  unfolding shown_by
  byte-shown-by tile word row column t w =
      let j = 2 * (shown_row look.view row % 16) + column % 2 in
      rw (t, get_or-upto 32 (tile_byte e m.text m.glyph look word) j (omega arith), w) (sym (byte_by_tile row column))

  module _ (light : look.dark ≡ false) where
    module _ (row end s : ℕ) (is : s ≡ shown_row look.view row) (some : row < end) (below : end ≤ 32) (one : end + s % 16 ≤ row + 16) where
      abbrev line : ℕ → ℕ
      line = by_tile (λ cell j. tile_byte e m.text m.glyph look (line_word look.view.shift (s / 16) cell) j)

      band_byte : (tiles : List ℕ) (i : ℕ) → tiles ≡ upto 512 line → 32 * row ≤ i → i < 32 * end
          → overlaid look.graphic (get_or m.graphic (32 * s + (i - 32 * row)) 0) (from_tiles tiles ((i / 32 + look.view.scroll) % 16) i)
          ≡ on wide (byte_at e m look) i
      unfolding graphic_byte shown_row shown_word
      band_byte tiles i t l k =
          let r : row ≤ i / 32 = omega arith in
          let q : i / 32 < end = omega arith in
          let z : (i / 32 + look.view.scroll) % 64 ≡ s + (i / 32 - row) = row_in_band look.view.scroll row (i / 32) end s is r q one in
          let y = within-line (i / 32 + look.view.scroll) in
          let x : s / 16 ≡ (i / 32 + look.view.scroll) % 64 / 16 = rw z (same_line s (i / 32 - row) (still_inside (s % 16) end row (i / 32) r q one)) in
          let g : 32 * s + (i - 32 * row) ≡ 32 * ((i / 32 + look.view.scroll) % 64) + 2 * (i % 32 / 2) + half (right (i % 32)) = rw z (graphic-of s row i r) in
          let k = i % 32 / 2 in
          let n = (i / 32 + look.view.scroll) % 64 % 16 in
          let p = parity i in
          let ks = cell_lt i in
          let ns = row_lt ((i / 32 + look.view.scroll) % 64) in
          let ps = side_lt (i % 32) in
          rw (t, y, p, g, get_or-upto 512 line (32 * k + 2 * n + i % 32 % 2) (place_lt k n (i % 32 % 2) ks ns ps), tile_of k n (i % 32 % 2) ns ps, byte_of k n (i % 32 % 2) ns ps, x)
          (sym (byte_by_tile (i / 32) (i % 32) ∙ alight _ _ light))

      pub band_painted : (tiles f g h : List ℕ)
          → tiles ≡ upto 512 line
          → g ≡ painted (between (32 * row) (32 * end) everywhere) (λ i. from_tiles tiles ((i / 32 + look.view.scroll) % 16) i) f
          → h ≡ painted (between (32 * row) (32 * row + 32 * (end - row)) everywhere) (λ i. overlaid look.graphic (get_or m.graphic (32 * s + (i - 32 * row)) 0) (get_or g i 0)) g
          → h ≡ painted_on wide (in_rows row end) (byte_at e m look) f
      band_painted tiles f g h t a b =
          let last : 32 * row + 32 * (end - row) ≡ 32 * end = omega arith in
          let B : ℕ → Bool = between (32 * row) (32 * end) everywhere in
          let out : ℕ → ℕ = λ i. from_tiles tiles ((i / 32 + look.view.scroll) % 16) i in
          (rw last at b)
          ∙ painted_cong B B (λ i. overlaid look.graphic (get_or m.graphic (32 * s + (i - 32 * row)) 0) (get_or g i 0)) (on wide (byte_at e m look)) g (λ i l. refl)
          (λ i l u. let q = in_between (32 * row) (32 * end) everywhere i u in
          let v : get_or g i 0 ≡ out i = ap (λ (x : List ℕ). get_or x i 0) a ∙ painted-named B out f i (rw (← as_long B out f g a) l) u in
          ap (overlaid look.graphic (get_or m.graphic (32 * s + (i - 32 * row)) 0)) v ∙ band_byte tiles i t q.0 q.1)
          ∙ ap (painted B (on wide (byte_at e m look))) a ∙ painted-twice B out (on wide (byte_at e m look)) f
          ∙ painted_same B _ (on wide (byte_at e m look)) f (λ i l. rows_lie row end i)

abbrev pub pair_of : ℕ → ℕ → TwoBytes
pair_of left right = record { left = left; right = right }

-- the two bytes of a cell, by its tile
pub pair-shown-by : (tile graphic : List ℕ) (look : Look) (row cell : ℕ)
    → pair_of
    (when look.dark then 0x00
    else overlaid look.graphic (get_or graphic (32 * shown_row look.view row + 2 * cell) 0) (get_or tile (2 * (shown_row look.view row % 16)) 0))
    (when look.dark then 0x00
    else overlaid look.graphic (get_or graphic (32 * shown_row look.view row + 2 * cell + 1) 0) (get_or tile (2 * (shown_row look.view row % 16) + 1) 0))
    ≡ pair_by tile graphic look row cell
unfolding shown_by graphic_byte
pair-shown-by tile graphic look row cell =
    let a : 2 * cell / 2 ≡ cell = omega arith in
    let b : 2 * cell % 2 ≡ 0 = omega arith in
    let d : (2 * cell + 1) / 2 ≡ cell = omega arith in
    let f : (2 * cell + 1) % 2 ≡ 1 = omega arith in
    simp (a, b, d, f, add-zero)
