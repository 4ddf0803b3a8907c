-- Request K6: which glyph is missing, of the present screen.
use Rattle.std.specs.Prelude.{ℕ, ◌*◌, ◌-◌, ◌%◌, true, false, List, get_or, eqb, ltb, None, Option, Some}
use Rattle.base.specs.Choice.{when◌then◌else◌}
use Rattle.controller.specs.declared.View.{View}
use Rattle.controller.specs.Memories.{word_place}
use Rattle.controller.specs.Glass.{shown_word}
use Rattle.glyph.specs.declared.Content.{Content}
use Rattle.glyph.specs.declared.Content.TheVariants.{Image, Full, Halves, Missing, Blank}
use Rattle.picture.specs.Picture.{word_content}
use Rattle.missing.specs.declared.Code.{Code}

-- the glass in bands, the rows that show one line of text: the first row of band b, or 32 where the glass ends before it
unfoldable pub band_row : View → ℕ → ℕ
band_row v b = when eqb b 0 then 0 else when ltb (16 * b - v.scroll % 16) 32 then 16 * b - v.scroll % 16 else 32

-- a code, of its two bytes
abbrev pub code_of : ℕ → ℕ → Code
code_of lead trail = record { lead = lead; trail = trail }

-- the code of a word with these two bytes, where what it shows is the box of a missing glyph
unfoldable pub code_if_missing : Content → ℕ → ℕ → Option Code
code_if_missing (Image i) lead trail = None
code_if_missing (Full i) lead trail = None
code_if_missing (Halves h l) lead trail = None
code_if_missing Missing lead trail = Some (code_of lead trail)
code_if_missing Blank lead trail = None

-- what cell k of row r lacks, with a full font of `size` bytes
unfoldable pub missing_at : View → ℕ → List ℕ → ℕ → ℕ → Option Code
missing_at v size text r k =
    let word = shown_word v r k in
    code_if_missing (word_content v.numbering size text word) (get_or text (word_place word false) 0) (get_or text (word_place word true) 0)
