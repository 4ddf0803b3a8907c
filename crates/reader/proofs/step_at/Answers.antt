-- `read` is given the part that begins there; what is passed lies within the capture, so the sum fits.
use Rattle.std.proofs.Common.{◌≡◌, ap, ◌∙◌, arith, drop, length-drop}
use Rattle.base.proofs.Lists.{drop_min}
use Rattle.reader.specs.Part.{Part}
use Rattle.capture.specs.Record.{read_first, passed}
use Rattle.reader.specs.Capture.{read_at}
use Rattle.capture.proofs.Answers.{passed-within}
use Rattle.reader.proofs.step_at.Goals as goal

pub overflow_add-result : goal.overflow_add-result
overflow_add-result c =
    let a = c.args in
    let found : c.read-answer.result ≡ read_at a.capture.now a.at = c.read-answer.ensures ∙ ap (λ (p : Part). read_first p.bytes) c.part_from.ensures ∙ ap read_first (drop_min a.at a.capture.now) in
    omega (arith, c.passed.ensures ∙ ap passed found, passed-within (drop a.at a.capture.now), length-drop a.at a.capture.now)
