-- Document 01, "Captures": a small reader holds the capture it was lent, and a position in it.
use Rattle.std.specs.Prelude.{ℕ, List}
use Rattle.std.specs.Borrow.{Bor}
use Rattle.reader.specs.declared.Reader.{Reader}
use Rattle.reader.specs.declared.Step.{Step}
use Rattle.reader.specs.Capture.{step_at}

-- a reader over a capture, at a position of it
abbrev pub over : Bor (List ℕ) → ℕ → Reader
over capture at = record { capture = capture; at = at }

-- what stands at its position, and where it reads next
abbrev pub reader_step : Reader → Step
reader_step r = step_at r.capture.now r.at
