-- Document 01, "The picture", and request K3: the number of a full glyph, in either numbering. This layer knows codes alone.
use Rattle.std.specs.Prelude.{ℕ, ◌+◌, ◌*◌, ◌-◌, not, ◌&&◌, leb, None, Option, Some}
use Rattle.base.specs.Choice.{when◌then◌else◌}
use Rattle.events.specs.declared.Numbering.{Numbering}
use Rattle.events.specs.declared.Numbering.TheVariants.{By96, By160}

-- the old one: (lead − A1h)·96 + (trail − A0h), for lead A1h to F7h, trail from A0h.
-- The new one: (lead − A1h)·160, plus trail − 40h for trail 40h to 7Fh, or 64 + trail − A0h for trail from A0h; lead A1h to D7h
unfoldable pub number_of : Numbering → ℕ → ℕ → Option ℕ
number_of By96 lead trail =
    when leb 0xA1 lead && (leb lead 0xF7 && leb 0xA0 trail) then Some ((lead - 0xA1) * 96 + (trail - 0xA0)) else None
number_of By160 lead trail =
    when not (leb 0xA1 lead && leb lead 0xD7) then None
    else when leb 0x40 trail && leb trail 0x7F then Some ((lead - 0xA1) * 160 + (trail - 0x40))
    else when leb 0xA0 trail then Some ((lead - 0xA1) * 160 + (64 + (trail - 0xA0)))
    else None

-- how many numbers a lead has
abbrev pub per_lead : Numbering → ℕ
per_lead By96 = 96
per_lead By160 = 160

-- how many numbers each has
abbrev pub number_count : Numbering → ℕ
number_count By96 = 8352
number_count By160 = 8800
