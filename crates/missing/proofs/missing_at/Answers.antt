-- By whether the word shows the box.
use Rattle.std.proofs.Common.{add-zero}
use Rattle.missing.specs.Missing.{missing_at}
use Rattle.missing.proofs.Boxes.{the_box, none_but_the_box}
use Rattle.missing.proofs.missing_at.Goals as goal

pub returns-in-Missing : goal.returns-in-Missing
unfolding missing_at
returns-in-Missing c = rw (← c.shown_word-word.ensures.value, ← c.in-Missing.ensures, add-zero _) (the_box _ _)

pub returns-in_default : goal.returns-in_default
unfolding missing_at
returns-in_default c = rw (← c.shown_word-word.ensures.value, ← c.word_content.ensures) (none_but_the_box c.word_content.result _ _ c.in_default.not-Missing)
