-- Without time it is carried out, and that alone.
use Rattle.std.proofs.Common.{◌∙◌, sym}
use Rattle.std.proofs.lemmas.Bool.{not-true}
use Rattle.deeds.proofs.Untimed.{untimed}
use Rattle.deeds.proofs.on_time.Goals as goal

pub returns-then-not-control : goal.returns-then-not-control
returns-then-not-control c =
    c.carry_out-done.ensures ∙ sym (untimed _ _ _ c.requires (not-true c.args.control.time.timed c.if-not-control.true))
