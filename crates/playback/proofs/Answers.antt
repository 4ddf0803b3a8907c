-- What an accepted record answers, of what its calls left.
use Rattle.calls.specs.Calls.{Called}
use Rattle.capture.specs.declared.kind.Kind.{Kind}
use Rattle.printed.specs.declared.answer.RecordAnswer.{RecordAnswer}
use Rattle.printed.specs.Text.{record_answer}

abbrev pub answer_from : Kind → Called → RecordAnswer
answer_from kind k = record_answer kind k.reply k.count
