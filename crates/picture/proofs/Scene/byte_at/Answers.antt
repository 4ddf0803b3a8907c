-- The dots of the word that is shown, with everything over them.
use Rattle.std.proofs.Common.{rules}
use Rattle.picture.specs.Picture.{fonts_in, memories_in}
use Rattle.picture.proofs.Bytes.{word-inside, over-shown}
use Rattle.picture.proofs.Scene.byte_at.Goals as goal

pub dot_byte-dots-requires : goal.dot_byte-dots-requires
dot_byte-dots-requires c = (search rules, rw c.word_content-shown.ensures (word-inside _ _ _ _))

pub returns : goal.returns
returns c =
    let s = c.args.self.now in
    over-shown s.look c.args.row c.args.column (fonts_in s) (memories_in s) _ _ _ _ _
    c.shown_word-word.ensures.value c.word_content-shown.ensures c.shown_row-y.ensures.value c.dot_byte-dots.ensures c.byte_over.ensures
