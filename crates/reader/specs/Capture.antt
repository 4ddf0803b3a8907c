-- Document 01, "Captures": the records of a capture, one after another, and what each leaves of it.
use Rattle.std.specs.Prelude.{ℕ, ◌+◌, min, Bool, List, [], ◌∷◌, length, drop, Some, None, Ok, Err}
use Rattle.std.specs.Borrow.{Bor}
use Rattle.capture.specs.declared.record.Record.{Record}
use Rattle.reader.specs.declared.Step.{Step}
use Rattle.capture.specs.Record.{Answer, read_first, passed, taken_with}
use Rattle.reader.specs.Part.{Part, from}

-- the caller's own capture from a position on: each record read leaves the rest of it, beginning after the record
-- (a position past the end is the end)
abbrev pub part_from : Bor (List ℕ) → ℕ → Part
part_from s at = from (min at (length s.now)) s

-- what stands at a position: at the beginning of the part from there on
abbrev pub read_at : List ℕ → ℕ → Answer
read_at c at = read_first (drop at c)

-- what stands at a position, and the position from which the rest is read: after the record, or the same where there is none
abbrev pub step_at : List ℕ → ℕ → Step
step_at c at = record { answer = read_at c at; next = at + passed (read_at c at) }

-- a capture read through by a panel with or without time: its records, and what stands where reading stops
pub record Contents : Type 0 where
  pub records : List Record
  pub stop : Answer

abbrev pub no_more : Answer → Contents
no_more a = record { records = []; stop = a }

-- a record is followed by what comes after it; anything else stops the reading
abbrev pub read_on : Answer → Contents → Contents
read_on (Ok (Some r)) on = record { records = r ∷ on.records; stop = on.stop }
read_on (Ok None) on = no_more (Ok None)
read_on (Err refusal) on = no_more (Err refusal)

-- by four bytes at a time; fewer are no record
unfoldable pub contents : Bool → List ℕ → Contents
contents time [] = no_more (read_first [])
contents time (a ∷ []) = no_more (read_first (a ∷ []))
contents time (a ∷ b ∷ []) = no_more (read_first (a ∷ b ∷ []))
contents time (a ∷ b ∷ d ∷ []) = no_more (read_first (a ∷ b ∷ d ∷ []))
contents time (a ∷ b ∷ d ∷ e ∷ c) = read_on (taken_with time (read_first (a ∷ b ∷ d ∷ e ∷ c))) (contents time c)
