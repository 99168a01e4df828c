use Rattle.std.proofs.Common.{◌<◌, arith}
use Rattle.lrc_orders_table.specs.Rows.{row_count}
use Rattle.lrc_explore.proofs.MeansOf.{means_are, means_of}
use Rattle.lrc_explore.proofs.Stepping.{key_at, known_at, row_at, row_of}
use Rattle.lrc_explore.proofs.ManyStates.{nowhere_on}
use Rattle.lrc_explore.proofs.task.Found.stuck_of_all.Goals as goal

pub loop-place-init : goal.loop-place-init
loop-place-init c = λ k key lt at. absurd (omega (arith, lt))

pub is_stuck-halts-requires : goal.is_stuck-halts-requires
is_stuck-halts-requires c =
    let found = c.args.self.now in
    let within : c.loop-place.place < row_count found.table.rows = omega (arith, c.loop-place-test.true, c.len-place-end.ensures.len) in
    known_at c.args.task.now found c.loop-place.place c.row-row.result c.requires.found within c.row-row.ensures

pub returns-then-halts : goal.returns-then-halts
returns-then-halts c =
    let task = c.args.task.now in
    let found = c.args.self.now in
    let place = c.loop-place.place in
    let f = c.requires.found in
    let within : place < row_count found.table.rows = omega (arith, c.loop-place-test.true, c.len-place-end.ensures.len) in
    let there = c.row-row.ensures in
    let row = c.row-row.result in
    let key = key_at task found place row f within there in
    let means = means_of task in
    let of = row_of task found place row f within there means (means_are task) in
    let halted = c.is_stuck-halts.ensures means key (f.table means (means_are task)) of in
    (key, row_at task found place row f within there, halted.0 c.if-halts.true)

pub loop-place-preserved : goal.loop-place-preserved
loop-place-preserved c =
    let task = c.args.task.now in
    let found = c.args.self.now in
    let place = c.loop-place.place in
    let f = c.requires.found in
    let within : place < row_count found.table.rows = omega (arith, c.loop-place-test.true, c.len-place-end.ensures.len) in
    let there = c.row-row.ensures in
    let row = c.row-row.result in
    let key = key_at task found place row f within there in
    let means = means_of task in
    let of = row_of task found place row f within there means (means_are task) in
    let halted = c.is_stuck-halts.ensures means key (f.table means (means_are task)) of in
    nowhere_on task found.table.rows place key (row_at task found place row f within there) c.loop-place.invariant c.is_stuck-halts.result halted c.if-halts.false

pub returns : goal.returns
returns c = λ k key lt at. c.loop-place.invariant k key (omega (arith, lt, c.loop-place-test.false, c.len-place-end.ensures.len)) at
