-- Request K5. "A panel whose select is low loses sync and is otherwise untouched; where both are high, both hear the bit. Show that each
-- panel ends as it would alone on the bits it heard, with a select-low for each bit it did not. Each has its own frame, fonts and count,
-- and demand 3 holds for each." What the pair refuses is in Demand1; what a bit and a select-low do to one panel, in Demand2.
-- Proved in proofs/, as `two-panels`.
use Rattle.std.specs.Prelude.{ℕ, ◌≤◌, ◌<◌, ◌/◌, ◌%◌, ◌^◌, true, false, List, [], ◌∷◌, map, ◌≢◌, ◌≡◌, get_or}
use Rattle.base.specs.Choice.{when◌then◌else◌}
use Rattle.base.specs.Painting.{count}
use Rattle.events.specs.declared.Event.{Event}
use Rattle.events.specs.declared.Event.TheVariants.{Bit, SelectLow}
use Rattle.events.specs.declared.Transfer.{Transfer}
use Rattle.events.specs.declared.Deed.TheVariants.{Whole}
use Rattle.picture.specs.Picture.{Seen}
use Rattle.calls.specs.State.{Valid}
use Rattle.calls.specs.Calls.{Called, Stands, taken_on, reaching, called, after_calls}
use Rattle.lent_pair.specs.declared.Clock.{Clock}
use Rattle.lent_pair.specs.Pair.{Side, side, pair_refusal, PairCalled, pair_called}
use Rattle.pair_bytes.specs.Report.{SideBytes, spelled_side, pair_reported}
use Rattle.demands.specs.Wires.{answers, is_data}
use Rattle.demands.specs.Captures.{sum_of_counts}
use Rattle.demands.specs.Demand3.{picture_of, named_by, ever_named}

-- either of two
pub data Which : Type 0 where
  the_left : Which
  the_right : Which

abbrev pub of : {A : Type 0} → Which → A → A → A
of the_left l r = l
of the_right l r = r

-- the event that a clock is to a panel: the bit where its select is high, a select-low where it is low
abbrev pub own_event : Which → Clock → Event
own_event w clock = when of w clock.left clock.right then Bit clock.bit else SelectLow

abbrev pub own_events : Which → List Clock → List Event
own_events w clocks = map (own_event w) clocks

-- what a clock leaves of a panel, and the side then
abbrev pub leaves : Which → PairCalled → Called
leaves w k = of w k.left k.right

abbrev pub next_side : Side → Called → Side
next_side x k = side x.seen k.state k.frame

-- what each clock of a list leaves
unfoldable pub clock_answers : Side → Side → List Clock → List PairCalled
clock_answers l r [] = []
clock_answers l r (clock ∷ clocks) =
    pair_called l r clock
    ∷ clock_answers (next_side l (pair_called l r clock).left) (next_side r (pair_called l r clock).right) clocks

abbrev pub own_answers : Which → Side → Side → List Clock → List Called
own_answers w l r clocks = map (leaves w) (clock_answers l r clocks)

-- where a side stands then
unfoldable pub after_clocks : Which → Side → Side → List Clock → Side
after_clocks w l r [] = of w l r
after_clocks w l r (clock ∷ clocks) =
    after_clocks w (next_side l (pair_called l r clock).left) (next_side r (pair_called l r clock).right) clocks

abbrev pub side_stands : Side → Stands
side_stands x = record { state = x.state; frame = x.frame }

-- a panel alone: one call, and lists of them
abbrev pub alone_called : Side → Event → Called
alone_called x event = called x.seen x.state x.frame event

abbrev pub alone_after : Side → List Event → Stands
alone_after x events = after_calls x.seen x.state x.frame events

abbrev pub alone_answers : Side → List Event → List Called
alone_answers x events = answers x.seen x.state x.frame events

-- where nothing is refused, a clock is to each panel its own event, and leaves and answers what that does alone
abbrev pub EachClockAsAlone : Type 0
EachClockAsAlone =
    (w : Which) (l r : Side) (clock : Clock)
    → pair_refusal l r ≡ 0
    → leaves w (pair_called l r clock) ≡ alone_called (of w l r) (own_event w clock)

-- so over any list of clocks each panel ends as it would alone on its own events, each clock leaves and answers what it would alone, and the
-- sum of the counts is the same
abbrev pub EndsAsAlone : Type 0
EndsAsAlone =
    (w : Which) (l r : Side) (clocks : List Clock)
    → pair_refusal l r ≡ 0
    → side_stands (after_clocks w l r clocks) ≡ alone_after (of w l r) (own_events w clocks)

abbrev pub AnswersAsAlone : Type 0
AnswersAsAlone =
    (w : Which) (l r : Side) (clocks : List Clock)
    → pair_refusal l r ≡ 0
    → own_answers w l r clocks ≡ alone_answers (of w l r) (own_events w clocks)

abbrev pub CountsAsAlone : Type 0
CountsAsAlone =
    (w : Which) (l r : Side) (clocks : List Clock)
    → pair_refusal l r ≡ 0
    → sum_of_counts (own_answers w l r clocks) ≡ sum_of_counts (alone_answers (of w l r) (own_events w clocks))

-- one side's fonts, frame, state and bits never touch the other: whatever they are, it ends and answers the same
pub record Same (w : Which) (l r l' r' : Side) (clocks clocks' : List Clock) : Type 0 where
  pub ends : side_stands (after_clocks w l r clocks) ≡ side_stands (after_clocks w l' r' clocks')
  pub answers : own_answers w l r clocks ≡ own_answers w l' r' clocks'

abbrev pub NeverTouched : Type 0
NeverTouched =
    (w : Which) (l r l' r' : Side) (clocks clocks' : List Clock)
    → pair_refusal l r ≡ 0
    → pair_refusal l' r' ≡ 0
    → of w l r ≡ of w l' r'
    → own_events w clocks ≡ own_events w clocks'
    → Same w l r l' r' clocks clocks'

-- and where something is refused, no list of clocks touches either
abbrev pub RefusedTouchesNeither : Type 0
RefusedTouchesNeither = (w : Which) (l r : Side) (clocks : List Clock) → pair_refusal l r ≢ 0 → after_clocks w l r clocks ≡ of w l r

-- demand 3 for each: from a frame that equals the picture it goes on equalling the picture drawn afresh
abbrev pub EachPictureStands : Type 0
EachPictureStands =
    (w : Which) (l r : Side) (clocks : List Clock)
    → pair_refusal l r ≡ 0
    → Valid (of w l r).state
    → (of w l r).frame ≡ picture_of (of w l r).seen (of w l r).state
    → (after_clocks w l r clocks).frame ≡ picture_of (of w l r).seen (after_clocks w l r clocks).state

-- on any other frame the named bytes become the picture's, and no other byte is altered
abbrev pub EachNamedBytesShown : Type 0
EachNamedBytesShown =
    (w : Which) (l r : Side) (clocks : List Clock) (i : ℕ)
    → pair_refusal l r ≡ 0
    → Valid (of w l r).state
    → i < 1024
    → let x = of w l r in
    get_or (after_clocks w l r clocks).frame i 0
    ≡ (when ever_named x.seen x.state x.frame (own_events w clocks) i
    then get_or (picture_of x.seen (after_clocks w l r clocks).state) i 0
    else get_or x.frame i 0)

-- each count is the number of bytes named, and with S = 0 a data transfer never names more than 64
abbrev pub EachCountIsNumber : Type 0
EachCountIsNumber =
    (w : Which) (l r : Side) (clock : Clock)
    → pair_refusal l r ≡ 0
    → (leaves w (pair_called l r clock)).count ≡ count 1024 (named_by (of w l r).state (own_event w clock))

abbrev pub EachAtMost64 : Type 0
EachAtMost64 =
    (w : Which) (l r : Side) (clock : Clock) (t : Transfer)
    → pair_refusal l r ≡ 0
    → reaching (taken_on (of w l r).state (own_event w clock)) ≡ Whole t
    → is_data t ≡ true
    → (of w l r).state.control.entry.s ≡ false
    → (leaves w (pair_called l r clock)).count ≤ 64

-- For other languages: number and counts are read from the bits of the one answer, and what one clock leaves as bytes the next reads as the
-- very state that the pair is then in.
abbrev pub AnswerIsRead : Type 0
AnswerIsRead =
    (el er : Seen) (l r : SideBytes) (clock : Clock)
    → let k = pair_called (spelled_side el l) (spelled_side er r) clock in
    let answer = (pair_reported el l er r clock).answer in
    (answer % 2 ^ 8 ≡ k.left.number) × (answer / 2 ^ 8 % 2 ^ 12 ≡ k.left.count) × (answer / 2 ^ 20 ≡ k.right.count)

abbrev pub BytesKeepThePair : Type 0
BytesKeepThePair =
    (el er : Seen) (l r : SideBytes) (clock : Clock)
    → Valid (spelled_side el l).state
    → Valid (spelled_side er r).state
    → let k = pair_called (spelled_side el l) (spelled_side er r) clock in
    (spelled_side el (pair_reported el l er r clock).left ≡ next_side (spelled_side el l) k.left)
    × (spelled_side er (pair_reported el l er r clock).right ≡ next_side (spelled_side er r) k.right)

pub record TwoPanels : Type 0 where
  pub clocks : EachClockAsAlone
  pub ends : EndsAsAlone
  pub answer : AnswersAsAlone
  pub counts : CountsAsAlone
  pub apart : NeverTouched
  pub refused : RefusedTouchesNeither
  pub stands : EachPictureStands
  pub shown : EachNamedBytesShown
  pub counted : EachCountIsNumber
  pub bounded : EachAtMost64
  pub read : AnswerIsRead
  pub bytes : BytesKeepThePair
