-- Request K5: two panels on one wire. They share clock and data, and each has a select of its own.
use Rattle.std.specs.Prelude.{ℕ, Bool, not, ◌&&◌, List, eqb}
use Rattle.base.specs.Choice.{when◌then◌else◌}
use Rattle.events.specs.declared.Event.{Event}
use Rattle.events.specs.declared.Event.TheVariants.{Bit, SelectLow}
use Rattle.links.specs.Idle.{is_serial}
use Rattle.picture.specs.Picture.{Seen}
use Rattle.picture.specs.Refusals.{lent_refusal}
use Rattle.calls.specs.State.{State}
use Rattle.calls.specs.Calls.{Called, refused, called}
use Rattle.lent_pair.specs.declared.Clock.{Clock}

-- a side: what its panel is lent for the picture, its panel's state, and its frame
pub record Side : Type 0 where
  pub seen : Seen
  pub state : State
  pub frame : List ℕ

abbrev pub side : Seen → State → List ℕ → Side
side e s frame = record { seen = e; state = s; frame = frame }

-- what comes to a panel at a clock: the bit where its select is high; else its select is low
abbrev pub comes_to : Bool → Bool → Event
comes_to select bit = when select then Bit bit else SelectLow

abbrev pub to_left : Clock → Event
to_left clock = comes_to clock.left clock.bit

abbrev pub to_right : Clock → Event
to_right clock = comes_to clock.right clock.bit

-- 1 to 3 for the left panel, then 1 to 3 for the right; then 5 unless both panels are serial
abbrev pub first_refusal : ℕ → ℕ → Bool → ℕ
first_refusal left right bothSerial =
    when not (eqb left 0) then left
    else when not (eqb right 0) then right
    else when not bothSerial then 5
    else 0

unfoldable pub pair_refusal : Side → Side → ℕ
pair_refusal l r =
    first_refusal (lent_refusal l.seen l.frame) (lent_refusal r.seen r.frame) (is_serial l.state.link && is_serial r.state.link)

-- all that a call of the pair leaves, on either side
pub record PairCalled : Type 0 where
  pub left : Called
  pub right : Called

abbrev pub called_side : Side → Event → Called
called_side x event = called x.seen x.state x.frame event

abbrev pub refused_side : Side → ℕ → Called
refused_side x number = refused x.state x.frame number

-- a refusal touches neither; else each panel takes what comes to it
unfoldable pub pair_called : Side → Side → Clock → PairCalled
pair_called l r clock =
    when eqb (pair_refusal l r) 0
    then record { left = called_side l (to_left clock); right = called_side r (to_right clock) }
    else record { left = refused_side l (pair_refusal l r); right = refused_side r (pair_refusal l r) }
