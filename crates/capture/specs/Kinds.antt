-- Document 01, "Captures", and requests K1 and K3: the kinds of records. What holds of a kind is a table with a clause for each.
use Rattle.std.specs.Prelude.{ℕ, Bool, true, false, List, [], ◌∷◌, eqb, leb, get_or, Result, Ok, Err}
use Rattle.base.specs.Choice.{when◌then◌else◌}
use Rattle.refusals.specs.declared.Refusal.{Refusal}
use Rattle.refusals.specs.declared.Refusal.TheVariants as refusal
use Rattle.capture.specs.declared.kind.Kind.{Kind}
use Rattle.capture.specs.declared.kind.Kind.TheVariants.{InstructionWrite, DataWrite, StatusRead, DataRead, EightBits, ChipSelectLow, Reset, TimePasses}

-- in the order of their numbers, from 0 on; the last says that value times 8 microseconds passed
abbrev pub kinds : List Kind
kinds = InstructionWrite ∷ DataWrite ∷ StatusRead ∷ DataRead ∷ EightBits ∷ ChipSelectLow ∷ Reset ∷ TimePasses ∷ []

-- with time, kinds go to 7, without to 6
abbrev pub last_kind : Bool → ℕ
last_kind true = 7
last_kind false = 6

-- refusal 8: a kind that no panel has (7 itself is turned down behind this where the panel has no time)
abbrev pub known : ℕ → Bool
known number = leb number (last_kind true)

-- the kind with a number (one that is not known is refused before)
unfoldable pub kind_of : ℕ → Kind
kind_of number = get_or kinds number TimePasses

-- a number as a kind
abbrev pub kind_numbered : ℕ → Result Kind Refusal
kind_numbered number = when known number then Ok (kind_of number) else Err refusal.Kind

-- the number of a kind
abbrev pub kind_number : Kind → ℕ
kind_number InstructionWrite = 0
kind_number DataWrite = 1
kind_number StatusRead = 2
kind_number DataRead = 3
kind_number EightBits = 4
kind_number ChipSelectLow = 5
kind_number Reset = 6
kind_number TimePasses = 7

-- refusal 9: kinds 2, 3, 5 need value 0; 6 needs 0 to 3
abbrev pub allowed : Kind → ℕ → Bool
allowed InstructionWrite value = true
allowed DataWrite value = true
allowed StatusRead value = eqb value 0
allowed DataRead value = eqb value 0
allowed EightBits value = true
allowed ChipSelectLow value = eqb value 0
allowed Reset value = leb value 3
allowed TimePasses value = true

-- whether a reply is shown for it
abbrev pub reads : Kind → Bool
reads InstructionWrite = false
reads DataWrite = false
reads StatusRead = true
reads DataRead = true
reads EightBits = false
reads ChipSelectLow = false
reads Reset = false
reads TimePasses = false
