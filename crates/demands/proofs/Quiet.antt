-- What names nothing: no byte is painted, and none counted.
use Prim.Native.Nat.{ℕ}
use mathlib.Core.List.{List}
use mathlib.Core.Path.{◌≡◌, refl}
use Rattle.base.proofs.Painting.{painted-none}
use Rattle.controller.specs.declared.Control.{Control}
use Rattle.controller.specs.declared.View.{View}
use Rattle.controller.specs.declared.Region.TheVariants.{Nothing}
use Rattle.controller.specs.Memories.{Memories}
use Rattle.controller.specs.Named.{covers}
use Rattle.deeds.specs.Transfers.{acted}
use Rattle.links.specs.declared.Rest.{Rest}
use Rattle.links.specs.Taken.{replied}
use Rattle.picture.specs.declared.Look.{Look}
use Rattle.picture.specs.Picture.{Fonts, Seen, look_of, wide}
use Rattle.repaint.specs.Repaint.{named, repainted, count_named}
use Rattle.repaint.proofs.Counts.{count-nothing}
use Rattle.calls.specs.State.{state}
use Rattle.calls.specs.Calls.{accepted}

pub none-painted : (e : Fonts) (m : Memories) (look : Look) (frame : List ℕ) → repainted wide e m look Nothing frame ≡ frame
unfolding repainted named covers
none-painted e m look frame = painted-none _ _ frame (λ i h. refl)

pub none-counted : (v : View) (text : List ℕ) → count_named wide v text Nothing ≡ 0
unfolding count_named named
none-counted v text = count-nothing v text

-- an accepted call that names nothing
pub unnamed_accepted :
    (e : Seen) (frame : List ℕ) (m : Memories) (c : Control) (answer : ℕ) (rest : Rest)
    → accepted e frame (acted m (record { control = c; reply = answer; region = Nothing })) rest
    ≡ record { state = state m c (replied rest answer).link; number = 0; reply = (replied rest answer).reply; count = 0; frame = frame }
unfolding repainted
unnamed_accepted e frame m c answer rest =
    rw (none-painted e.fonts m (look_of e.phase c) frame, none-counted c.view m.text)
