use Rattle.std.proofs.Common.{◌<◌, arith}
use Rattle.lrc_orders_table.specs.Rows.{row_count}
use Rattle.lrc_explore.proofs.MeansOf.{means_are, means_of}
use Rattle.lrc_explore.proofs.Seeking.{calm_on}
use Rattle.lrc_explore.proofs.Stepping.{key_at, known_at, row_at, row_of}
use Rattle.lrc_explore.proofs.task.Found.meeting_from.Goals as goal

pub meeting-requires : goal.meeting-requires
meeting-requires c =
    let within : c.loop-place.place < row_count c.args.self.now.table.rows = omega (arith, c.loop-place-test.true, c.len-place-end.ensures.len) in
    known_at c.args.task.now c.args.self.now c.loop-place.place c.row-row.result c.requires.found within c.row-row.ensures

pub returns-in-Some : goal.returns-in-Some
returns-in-Some c =
    let task = c.args.task.now in
    let found = c.args.self.now in
    let place = c.loop-place.place in
    let f = c.requires.found in
    let within : place < row_count found.table.rows = omega (arith, c.loop-place-test.true, c.len-place-end.ensures.len) in
    let there = c.row-row.ensures in
    let row = c.row-row.result in
    let key = key_at task found place row f within there in
    let at = row_at task found place row f within there in
    let means = means_of task in
    let known = f.table means (means_are task) in
    let of = row_of task found place row f within there means (means_are task) in
    let met = c.in-Some.ensures means key known of in
    (key, at, met.1, met.0)

pub loop-place-preserved : goal.loop-place-preserved
loop-place-preserved c =
    let task = c.args.task.now in
    let found = c.args.self.now in
    let place = c.loop-place.place in
    let f = c.requires.found in
    let within : place < row_count found.table.rows = omega (arith, c.loop-place-test.true, c.len-place-end.ensures.len) in
    let there = c.row-row.ensures in
    let row = c.row-row.result in
    let key = key_at task found place row f within there in
    let at = row_at task found place row f within there in
    let means = means_of task in
    let known = f.table means (means_are task) in
    let of = row_of task found place row f within there means (means_are task) in
    calm_on task found.table.rows place c.args.races key at c.loop-place.invariant (c.in_default.ensures means key known of)

pub returns : goal.returns
returns c = λ looked k key lt at. c.loop-place.invariant looked k key (omega (arith, lt, c.loop-place-test.false, c.len-place-end.ensures.len)) at
