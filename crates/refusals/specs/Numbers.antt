-- Document 01, "Refusal numbers": the table.
use Rattle.std.specs.Prelude.{ℕ, Result, Ok, Err}
use Rattle.refusals.specs.declared.Refusal.{Refusal}
use Rattle.refusals.specs.declared.Refusal.TheVariants.{Frame, HalfFont, FullFont, Buffer, OtherLink, Cut, Mark, Kind, Value}

abbrev pub refusal_number : Refusal → ℕ
refusal_number Frame = 1
refusal_number HalfFont = 2
refusal_number FullFont = 3
refusal_number Buffer = 4
refusal_number OtherLink = 5
refusal_number Cut = 6
refusal_number Mark = 7
refusal_number Kind = 8
refusal_number Value = 9

-- the number of an answer, whatever it is where nothing is refused: 0 then
abbrev pub answer_number : {T : Type 0} → Result T Refusal → ℕ
answer_number (Ok x) = 0
answer_number (Err refusal) = refusal_number refusal
