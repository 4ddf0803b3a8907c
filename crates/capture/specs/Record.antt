-- Document 01, "Captures" and refusals 6 to 9: the record at the beginning of a capture.
use Rattle.std.specs.Prelude.{ℕ, Bool, not, ◌&&◌, List, [], ◌∷◌, eqb, leb, length, get_or, Option, Some, None, Result, Ok, Err}
use Rattle.base.specs.Choice.{when◌then◌else◌}
use Rattle.refusals.specs.declared.Refusal.{Refusal}
use Rattle.refusals.specs.declared.Refusal.TheVariants.{Cut, Mark, Kind, Value}
use Rattle.capture.specs.declared.record.Record.{Record}
use Rattle.capture.specs.Kinds.{known, kind_of, kind_number, allowed}

-- what stands in a capture: a record, none where it ends, or why it is refused
abbrev pub Answer : Type 0
Answer = Result (Option Record) Refusal

-- a record is the mark A5h 5Ah, a kind, a value
abbrev pub marked : ℕ → ℕ → Bool
marked first second = eqb first 0xA5 && eqb second 0x5A

abbrev pub kind_byte : List ℕ → ℕ
kind_byte c = get_or c 2 0

abbrev pub value_byte : List ℕ → ℕ
value_byte c = get_or c 3 0

-- the record with these two numbers
abbrev pub record_of : ℕ → ℕ → Record
record_of kind value = record { kind = kind_of kind; value = value }

-- what stands at the beginning of a capture: where none is left the end, else the refusals in their order (6: 1 to 3 bytes remain; 7: mark
-- wrong; 8: kind above 7; 9: value not allowed), else a record. Kind 7 is turned down behind it where the panel has no time
unfoldable pub read_first : List ℕ → Answer
read_first c =
    when eqb (length c) 0 then Ok None
    else when leb (length c) 3 then Err Cut
    else when not (marked (get_or c 0 0) (get_or c 1 0)) then Err Mark
    else when not (known (kind_byte c)) then Err Kind
    else when not (allowed (kind_of (kind_byte c)) (value_byte c)) then Err Value
    else Ok (Some (record_of (kind_byte c) (value_byte c)))

-- a record's two numbers; the other answers have none
abbrev pub values : Answer → List ℕ
values (Ok (Some r)) = kind_number r.kind ∷ r.value ∷ []
values (Ok None) = []
values (Err refusal) = []

-- how many bytes are passed: a record's four, or none
abbrev pub passed : Answer → ℕ
passed (Ok (Some r)) = 4
passed (Ok None) = 0
passed (Err refusal) = 0

-- request K1: what an answer is to a panel with or without time; without time kind 7 is still refused with 8
abbrev pub taken_with : Bool → Answer → Answer
taken_with time (Ok (Some r)) = when not time && eqb (kind_number r.kind) 7 then Err Kind else Ok (Some r)
taken_with time (Ok None) = Ok None
taken_with time (Err refusal) = Err refusal
