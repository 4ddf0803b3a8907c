-- The region is painted and counted, and the answer goes back.
use Rattle.std.proofs.Common.{ap}
use Rattle.controller.specs.Memories.{Memories, memories}
use Rattle.links.specs.Taken.{replied}
use Rattle.repaint.specs.Repaint.{Painting}
use Rattle.calls.specs.State.{state}
use Rattle.calls.proofs.calls.show.Goals as goal

pub paint-count-requires : goal.paint-count-requires
paint-count-requires c =
    let p = c.requires in (rw c.scene-scene.ensures.look (record { scroll = p.0.scroll; shift = p.0.shift }), p.1)

pub returns : goal.returns
returns c =
    let a = c.args in let s = c.scene-scene.ensures in let text = ap (λ (m : Memories). m.text) s.memories in
    rw c.reply-replied.ensures
    (ap (λ (p : Painting). record {
      state = state (memories a.text.now a.glyph.now a.graphic.now) a.done.control (replied a.rest a.done.reply).link;
      number = 0;
      reply = (replied a.rest a.done.reply).reply;
      count = p.count;
      frame = p.frame;
    })
    (rw (s.memories, text, s.fonts, s.look) at c.paint-count.ensures.frame_after))
