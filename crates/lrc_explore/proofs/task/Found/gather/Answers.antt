use Rattle.std.proofs.Common.{◌≡◌, ◌<◌, true, false, arith}
use Rattle.lrc_orders_table.specs.Rows.{row_count}
use Rattle.lrc_explore.proofs.Seeking.{gathering_on, too_many_states}
use Rattle.lrc_explore.proofs.task.Found.gather.Goals as goal

pub returns-then-len-task-clause-faults : goal.returns-then-len-task-clause-faults
returns-then-len-task-clause-faults c =
    too_many_states c.args.task.now c.loop-place.self false c.loop-place.invariant.0.found
    (omega (arith, c.if-len-task.true, c.len-in-loop-place.ensures.len)) (λ looked. let x : false ≡ true = looked in cc)

pub loop-place-preserved : goal.loop-place-preserved
loop-place-preserved c =
    let i = c.loop-place.invariant.0 in
    let old = c.loop-place.self in
    let e = c.in_ok-take_outcome.ensures in
    let lt : c.loop-place.place < row_count old.table.rows = omega (arith, c.loop-place-test.true, c.len.ensures.len) in (
      gathering_on c.args.task.now c.args.self.now old c.take_outcome.new.self c.loop-place.outcomes.keys c.take_outcome.new.outcomes.keys
          c.loop-place.place i e.found e.more e.grows e.sound e.done lt,
      (λ le. omega (arith, le, c.if-len-task.false, c.len-in-loop-place.ensures.len, c.loop-place-test.true, c.len.ensures.len)),
    )

pub returns-clause-done : goal.returns-clause-done
returns-clause-done c = λ k lt key at.
    c.loop-place.invariant.0.done k (omega (arith, lt, c.loop-place-test.false, c.len.ensures.len)) key at
