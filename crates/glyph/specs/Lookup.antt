-- Document 01, "The picture", and request K6: what a text word shows. This layer knows that a code has a number, and the full font's length;
-- the numbering is handed on.
use Rattle.std.specs.Prelude.{ℕ, ◌+◌, ◌*◌, leb, None, Option, Some}
use Rattle.base.specs.Choice.{when◌then◌else◌}
use Rattle.events.specs.declared.Numbering.{Numbering}
use Rattle.controller.specs.Glass.{image_of}
use Rattle.glyph.specs.declared.Content.{Content}
use Rattle.glyph.specs.declared.Content.TheVariants.{Image, Full, Halves, Missing, Blank}
use Rattle.numbering.specs.Numbering.{number_of}

-- three things told apart: found, where the 32 bytes of the glyph lie inside the lent font; blank by the rules, where the code has no number;
-- and missing, where the code is allowed but not in the lent font
unfoldable pub full_of : Option ℕ → ℕ → Content
full_of None length = Blank
full_of (Some i) length = when leb (32 * i + 32) length then Full i else Missing

-- high byte A1h or more: full glyph; otherwise each byte by itself
unfoldable pub font_of : Numbering → ℕ → ℕ → ℕ → Content
font_of n high low length = when leb 0xA1 high then full_of (number_of n high low) length else Halves high low

-- the image, or what the fonts give
abbrev pub image_or : Option ℕ → Content → Content
image_or (Some i) c = Image i
image_or None c = c

-- word 0000h..000Fh: image; the others by the fonts
unfoldable pub content_of : Numbering → ℕ → ℕ → ℕ → Content
content_of n high low length = image_or (image_of high low) (font_of n high low length)
