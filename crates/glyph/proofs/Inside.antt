-- What a word shows lies inside glyph memory or inside the font, by the tests that led there.
use Rattle.std.proofs.Common.{None, Option, Some}
use Prim.Native.Nat.{ℕ, ◌+◌, ◌*◌}
use native.Mathlib.Omega.{arith}
use lib.Dec.{eqb, leb}
use mathlib.Core.Bool.{◌&&◌}
use borrow.Author.Tests.{leb-true}
use Rattle.base.proofs.Choice.{either, either-told}
use Rattle.events.specs.declared.Numbering.{Numbering}
use Rattle.controller.specs.Glass.{image_of}
use Rattle.glyph.specs.declared.Content.{Content}
use Rattle.numbering.specs.Numbering.{number_of}
use Rattle.glyph.specs.Lookup.{full_of, font_of, image_or, content_of}
use Rattle.glyph.specs.Tiles.{Inside}

full-inside : (c : Option ℕ) (length : ℕ) → Inside (full_of c length) length
unfolding full_of
full-inside None length = tt
full-inside (Some i) length =
    either-told (λ (c : Content). Inside c length) (leb (32 * i + 32) length) (λ e. leb-true (32 * i + 32) length e) (λ e. tt)

font_inside : (n : Numbering) (high low length : ℕ) → Inside (font_of n high low length) length
unfolding font_of
font_inside n high low length = either (λ (c : Content). Inside c length) (leb 0xA1 high) (full-inside (number_of n high low) length) tt

pub content_inside : (n : Numbering) (high low length : ℕ) → Inside (content_of n high low length) length
unfolding content_of image_of
content_inside n high low length =
    either (λ (i : Option ℕ). Inside (image_or i (font_of n high low length)) length) (eqb high 0x00 && leb low 0x0F) (omega arith) (font_inside n high low length)
