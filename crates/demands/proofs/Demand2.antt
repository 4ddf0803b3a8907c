-- Demand 2, from the laws of the links and of all sequences of calls.
use mathlib.Core.List.{List}
use Prim.Native.Nat.{ℕ}
use mathlib.Core.Bool.{false}
use mathlib.Core.Path.{◌≡◌, refl, ◌∙◌}
use lib.ListN.{length}
use borrow.Author.Tests.{le-ltb}
use Rattle.base.proofs.Counting.{count_none}
use Rattle.base.proofs.Painting.{painted-none}
use Rattle.controller.specs.Named.{covers}
use Rattle.deeds.specs.Transfers.{performed}
use Rattle.events.specs.declared.Event.TheVariants.{SelectLow}
use Rattle.links.specs.declared.Link.{Link}
use Rattle.links.specs.declared.Link.TheVariants.{Serial}
use Rattle.serial.specs.declared.Receiver.{Receiver}
use Rattle.links.specs.Idle.{idle}
use Rattle.links.specs.Taken.{taken_by}
use Rattle.picture.specs.Picture.{Seen}
use Rattle.repaint.specs.Repaint.{repainted, count_named, named}
use Rattle.calls.specs.State.{State, state}
use Rattle.calls.proofs.StaysInRange.{admitted, reset-fresh}
use Rattle.sender.specs.Sender.{sent}
use Rattle.picture.proofs.Accepted.{draws}
use Rattle.calls.specs.Calls.{unless_other}
use Rattle.demands.proofs.Yielded.{sequences_as_defined}
use Rattle.demands.proofs.Agreement.{call_is_connected, sent-is-received, writes_are_received, links_agree}
use Rattle.demands.proofs.Lost.{lost_when_busy, lost-leaves-all, quiet-calls-cost-nothing, carried_out_unless_lost, costs, status-shows-busy, pass_falls, time-is-kept, fresh-is-not-busy}
use Rattle.demands.proofs.Direction.{clear-turns, home-does-not, others_do_not, else_as_home_lem}
use Rattle.demands.proofs.Numbered.{no_two_share, each_is_some_codes, none_beyond, others_as_before_lem, end_not_asked_for_lem, shown-by-number, chosen_when_made_lem, chosen_at_reset_lem, kept_otherwise, seen_in_picture_alone, names_the_same_lem}
use Rattle.demands.proofs.WithoutTime.{as_before_time, no_time-passes}
use Rattle.demands.proofs.Waiting.{waiting-is-served}
use Rattle.demands.proofs.Waits.{none-lost-without-time, waiting_sender_is_served}
use Rattle.demands.proofs.NoneLost.{carried_out_where_none_lost}
use Rattle.demands.proofs.KeepDl.{function_sets-keep-dl}
use Rattle.demands.specs.Demand2.{SelectLowIdles, SendsThreeBytes, Demand2}
use Rattle.connector.proofs.HalvesPaired.{halves-read-whole}
use Rattle.demands.specs.Wires.{board}
use Rattle.demands.proofs.Stored.{words_stored}
use Rattle.demands.proofs.ReadBack.{read_back}
use Rattle.demands.proofs.Replies.{replies-to-reads}

sends_three_bytes : SendsThreeBytes
unfolding sent
sends_three_bytes register byte buffer h = rw (le-ltb (length buffer) 3 h)

taken_low :
    (e : Seen) (s : State) (frame : List ℕ) (l : Link) (receiver : Receiver)
    → l ≡ Serial receiver
    → unless_other e s frame (taken_by s.control.function.dl l SelectLow)
    ≡ record { state = state s.memories s.control (idle false); number = 0; reply = 0; count = 0; frame = frame }
unfolding taken_by performed repainted count_named named covers
taken_low e s frame l receiver h =
    rw (h, painted-none _ _ frame (λ i q. refl), count_none 1024 _ (λ i q. refl))

select_low_idles : SelectLowIdles
select_low_idles e s frame receiver fits h = admitted e s frame SelectLow fits ∙ taken_low e s frame s.link receiver h

pub demand_2 : Demand2
demand_2 =
    record {
      calls = call_is_connected;
      sequences = sequences_as_defined;
      replies = replies-to-reads;
      resets = reset-fresh;
      select_low = select_low_idles;
      draws = draws;
      turns = clear-turns;
      turns_not_by_home = home-does-not;
      turns_not_by_others = others_do_not;
      else_as_home = else_as_home_lem;
      numbers_once = no_two_share;
      numbers_all = each_is_some_codes;
      numbers_no_more = none_beyond;
      others_as_before = others_as_before_lem;
      end_not_asked_for = end_not_asked_for_lem;
      shown_by_number = shown-by-number;
      chosen_when_made = chosen_when_made_lem;
      chosen_at_reset = chosen_at_reset_lem;
      keeps_numbering = kept_otherwise;
      seen_alone = seen_in_picture_alone;
      names_the_same = names_the_same_lem;
      loses = lost_when_busy;
      leaves = lost-leaves-all;
      quiet = quiet-calls-cost-nothing;
      carries = carried_out_unless_lost;
      costs = costs;
      shows_busy = status-shows-busy;
      passes = pass_falls;
      keeps_time = time-is-kept;
      begins_idle = fresh-is-not-busy;
      as_before = as_before_time;
      no_time_passes = no_time-passes;
      serves = waiting-is-served;
      serves_sender = waiting_sender_is_served;
      stores = words_stored;
      reads_back = read_back;
      reads_halves = λ e. halves-read-whole (board e);
      sends = sends_three_bytes;
      receives = sent-is-received;
      receives_all = writes_are_received;
      carries_out = carried_out_where_none_lost;
      loses_none = none-lost-without-time;
      agrees = links_agree;
      keeps = function_sets-keep-dl;
    }
