-- At each turn, what is left of the capture replays as the whole does.
use Rattle.std.proofs.Common.{Some, Ok, ◌≡◌, ◌^◌, ◌<◌, length, refl, sym, arith, rules}
use borrow.Author.Tests.{eqb-false}
use Rattle.capture.specs.Record.{passed}
use Rattle.capture.proofs.Answers.{refusal_numbered}
use Rattle.playback.proofs.Going.{turned_away, begins, nearer, stops, stops-full, room_for-line, countable, turns, refuses}
use Rattle.playback.proofs.replaying.run.Goals as goal
use Rattle.playback.proofs.replaying.run.Goals.{in_default-answer-via-in-Ok+in_default, in_default-answer-via-in_default}

pub returns-in-Err-clause-leaves : goal.returns-in-Err-clause-leaves
returns-in-Err-clause-leaves g c = turned_away _ g.L.Lines.telling c.args.capture.now _ _ _ _ _ c.in-Err.ensures.number

pub loop-given-init : goal.loop-given-init
loop-given-init g c = begins _ _ _ _ _ _ _ c.in_default.ensures.number c.requires.valid

pub overflow_add-stop : goal.overflow_add-stop
overflow_add-stop g c =
    let found : c.taken_with-answer.result ≡ Ok (Some c.in-Ok-Some.given) = search rules in
    let few : length c.args.capture.now < 2 ^ 64 = omega arith in
    omega (
      arith,
      countable _ _ _ _ _ _ _ c.loop-given.invariant _ c.record_at-step.ensures c.taken_with-answer.ensures found _ c.in-Ok.ensures.leaves (sym c.if-not-room_for.ensures) c.requires.silent few,
    )

pub tell-requires : goal.tell-requires
tell-requires g c =
    let found : c.taken_with-answer.result ≡ Ok (Some c.in-Ok-Some.given) = search rules in
    room_for-line _ _ _ _ _ _ _ c.loop-given.invariant _ c.record_at-step.ensures c.taken_with-answer.ensures found _ c.in-Ok.ensures.leaves (sym c.if-not-room_for.ensures)

pub loop-given-smaller : goal.loop-given-smaller
loop-given-smaller g c =
    let found : c.taken_with-answer.result ≡ Ok (Some c.in-Ok-Some.given) = search rules in
    nearer _ _ _ _ _ _ _ c.loop-given.invariant _ c.record_at-step.ensures c.taken_with-answer.ensures found

pub loop-given-preserved : goal.loop-given-preserved
loop-given-preserved g c =
    let found : c.taken_with-answer.result ≡ Ok (Some c.in-Ok-Some.given) = search rules in
    turns _ _ _ _ _ _ _ c.loop-given.invariant _ c.record_at-step.ensures c.taken_with-answer.ensures found _ c.in-Ok.ensures.leaves (sym c.if-not-room_for.ensures) refl c.in-Ok.ensures.valid c.tell.ensures

pub returns-in_default-answer-clause-leaves : goal.returns-in_default-answer-clause-leaves
returns-in_default-answer-clause-leaves g c =
    let none : passed c.taken_with-answer.result ≡ 0 = elim c.in_default-answer.branch [
      | in_default-answer-via-in-Ok+in_default w ↦ search rules
      | in_default-answer-via-in_default w ↦ search rules
    ] in
    rw (c.halt_at-halt.ensures.number, c.halt_at-halt.ensures.full)
    (stops _ _ _ _ _ _ _ c.loop-given.invariant _ c.record_at-step.ensures _ c.taken_with-answer.ensures none)

pub returns-then-not-room_for-clause-leaves : goal.returns-then-not-room_for-clause-leaves
returns-then-not-room_for-clause-leaves g c =
    let found : c.taken_with-answer.result ≡ Ok (Some c.in-Ok-Some.given) = search rules in
    stops-full _ _ _ _ _ _ _ c.loop-given.invariant _ c.record_at-step.ensures c.taken_with-answer.ensures found (sym c.if-not-room_for.ensures)

pub returns-in-Err-obey-clause-leaves : goal.returns-in-Err-obey-clause-leaves
returns-in-Err-obey-clause-leaves g c =
    let found : c.taken_with-answer.result ≡ Ok (Some c.in-Ok-Some.given) = search rules in
    refuses _ _ _ _ _ _ _ c.loop-given.invariant _ c.record_at-step.ensures c.taken_with-answer.ensures found _ c.in-Err-obey.ensures.leaves (sym c.if-not-room_for.ensures) (eqb-false _ 0 (refusal_numbered _))
