-- Document 01, "Captures": what `replay` prints, as a function of the answers. Characters are ASCII bytes.
use Rattle.std.specs.Prelude.{ℕ, zero, suc, ◌+◌, ◌-◌, ◌/◌, ◌%◌, ◌^◌, ◌≤◌, Bool, ◌&&◌, ◌≡◌, List, [], ◌∷◌, ◌++◌, leb, ltb, length, take, codes, eqb}
use Rattle.std.proofs.lemmas.List.Edits.{sets}
use Rattle.base.specs.Choice.{when◌then◌else◌}
use Rattle.capture.specs.declared.kind.Kind.{Kind}
use Rattle.capture.specs.Kinds.{reads}
use Rattle.printed.specs.declared.answer.RecordAnswer.{RecordAnswer}

-- what an accepted record answers
abbrev pub record_answer : Kind → ℕ → ℕ → RecordAnswer
record_answer kind reply count = record { kind = kind; reply = reply; count = count }

-- a hex digit, in capitals
abbrev pub digit : ℕ → ℕ
digit d = when ltb d 10 then 0x30 + d else 0x37 + d

-- decimal, at most so many digits, without leading zeros
unfoldable pub decimal : ℕ → ℕ → List ℕ
decimal zero n = []
decimal (suc most) n = (when ltb n 10 then [] else decimal most (n / 10)) ++ ((0x30 + n % 10) ∷ [])

-- a digit of a read's reply; a dash for other kinds
abbrev pub shown : Kind → ℕ → ℕ
shown kind character = when reads kind then character else 0x2D

-- the reply between two spaces
abbrev pub middle : Kind → ℕ → List ℕ
middle kind reply = 0x20 ∷ shown kind (digit (reply / 16)) ∷ shown kind (digit (reply % 16)) ∷ 0x20 ∷ []

-- per accepted record its number, reply and count; a number of 64 bits has at most 20 digits
unfoldable pub line : ℕ → RecordAnswer → List ℕ
line place a = decimal 20 place ++ middle a.kind a.reply ++ decimal 20 a.count ++ codes "\n"

-- the longest line: the digits of its number, two spaces, two characters, a count of at most 1,024, a line feed
abbrev pub longest_line : ℕ → ℕ
longest_line place = length (decimal 20 place) + 9

-- a record is taken where that fits into the rest of the buffer, and where the records with it are counted in 64 bits
unfoldable pub has_room : ℕ → ℕ → Bool
has_room rest place = leb (longest_line place) rest && ltb place (2 ^ 64 - 1)

-- the lines of records numbered from a place on
unfoldable pub lines : ℕ → List RecordAnswer → List ℕ
lines place [] = []
lines place (a ∷ more) = line place a ++ lines (place + 1) more

unfoldable pub end_line : ℕ → List ℕ
end_line place = codes "end " ++ decimal 20 place ++ codes "\n"

unfoldable pub stop_line : ℕ → ℕ → List ℕ
stop_line place number = codes "stop " ++ decimal 20 place ++ codes " " ++ decimal 20 number ++ codes "\n"

-- `end N`, or `stop N code`
abbrev pub last_line : ℕ → ℕ → List ℕ
last_line place number = when eqb number 0 then end_line place else stop_line place number

-- writing a text at a place of a buffer leaves the text there and all else as it was, and answers the place behind it
pub record Put (buffer : List ℕ) (at : ℕ) (text left : List ℕ) (next : ℕ) : Type 0 where
  pub stands : left ≡ sets buffer at text
  pub follows : next ≡ at + length text

-- a text at the beginning of a buffer: what stands in the buffer then, and how many bytes are the text
pub record Begun : Type 0 where
  pub buffer : List ℕ
  pub filled : ℕ

abbrev pub begun_with : List ℕ → List ℕ → Begun
begun_with buffer text = record { buffer = sets buffer 0 text; filled = length text }

abbrev pub begun_as : ℕ → List ℕ → Begun
begun_as filled buffer = record { buffer = buffer; filled = filled }

-- a count of bytes at the beginning of a buffer
abbrev pub Counts : ℕ → List ℕ → Type 0
Counts n buffer = (n ≤ length buffer) × (n ≡ length (take n buffer))
