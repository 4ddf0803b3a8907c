-- Document 01, "Captures": what records answer, by the calls that they ask for.
use Rattle.std.specs.Prelude.{ℕ, ◌+◌}
use mathlib.Core.List.{List, [], ◌∷◌, map, flatten}
use Rattle.events.specs.declared.Event.{Event}
use Rattle.capture.specs.declared.record.Record.{Record}
use Rattle.picture.specs.Picture.{Seen}
use Rattle.calls.specs.State.{State}
use Rattle.calls.specs.Calls.{Called, after_calls}
use Rattle.demands.specs.Wires.{answers}
use Rattle.printed.specs.declared.answer.RecordAnswer.{RecordAnswer}
use Rattle.printed.specs.Text.{record_answer}
use Rattle.records.specs.Records.{asks}

-- a record's calls, by the table of kinds
abbrev pub calls_of : Record → List Event
calls_of r = asks r.kind r.value

-- the calls of records, one after another
abbrev pub calls_of_all : List Record → List Event
calls_of_all records = flatten (map calls_of records)

-- the reply of the last of some calls, and the sum of their counts
unfoldable pub last_reply : List Called → ℕ
last_reply [] = 0
last_reply (k ∷ []) = k.reply
last_reply (k ∷ more ∷ ks) = last_reply (more ∷ ks)

unfoldable pub sum_of_counts : List Called → ℕ
sum_of_counts [] = 0
sum_of_counts (k ∷ ks) = k.count + sum_of_counts ks

-- what a record answers: its kind, the reply of its call (of eight bits the last one's), and the sum of its calls' counts
abbrev pub answer_of : Seen → State → List ℕ → Record → RecordAnswer
answer_of e s frame r =
    let calls : List Called = answers e s frame (calls_of r) in
    record_answer r.kind (last_reply calls) (sum_of_counts calls)

-- what records answer, each on what the calls of the ones before it left
unfoldable pub answers_of : Seen → State → List ℕ → List Record → List RecordAnswer
answers_of e s frame [] = []
answers_of e s frame (r ∷ rs) =
    answer_of e s frame r ∷ answers_of e (after_calls e s frame (calls_of r)).state (after_calls e s frame (calls_of r)).frame rs
