-- No sentence of the documents, but what the contracts of the code promise: the place of a row and a column of the glass in a frame.
use Rattle.std.specs.Prelude.{ℕ, ◌+◌, ◌*◌, ◌/◌, ◌%◌}
use Rattle.glass.specs.declared.Glass.{Glass}
use Rattle.glass.specs.declared.Glass.TheVariants.{Wide, Folded}

-- how far apart two rows of a column lie
abbrev pub stride_of : Glass → ℕ
stride_of Wide = 32
stride_of Folded = 16

-- where a column begins
abbrev pub offset_of : Glass → ℕ → ℕ
offset_of Wide column = column
offset_of Folded column = 512 * (column / 16) + column % 16

abbrev pub place_on : Glass → ℕ → ℕ → ℕ
place_on g row column = stride_of g * row + offset_of g column
