-- What a call sees of the fonts as they are lent, with the blink phase.
use Rattle.picture.specs.declared.lent.Lent.{Lent}
use Rattle.picture.specs.Picture.{Seen, seen}

abbrev pub seen_by : Lent → Seen
seen_by l = seen l.half.now l.full.now l.phase
