use Rattle.std.proofs.Common.{◌<◌, ap, arith, length}
use Rattle.lrc_orders_table.specs.Rows.{row_count}
use Rattle.lrc_orders_table.proofs.RowLaws.{row_within}
use Rattle.lrc_explore.proofs.MeansOf.{means_are, means_of}
use Rattle.lrc_explore.proofs.Stepping.{key_at, known_at, row_at, row_of}
use Rattle.lrc_explore_ends.proofs.Answering.{said_on}
use Rattle.lrc_explore_ends.proofs.states.States.still_places.Goals as goal

pub loop-place-init : goal.loop-place-init
loop-place-init c = record { count = ap (λ l. length l) c.new-still.ensures.items; exact = λ k key lt. absurd (omega (arith, lt)) }

pub is_still-is-requires : goal.is_still-is-requires
is_still-is-requires c =
    known_at c.args.task.now c.args.self.now.found c.loop-place.place c.row-row.result c.requires (omega (arith, c.loop-place-test.true, c.len-place-end.ensures.len))
    c.row-row.ensures

pub loop-place-preserved : goal.loop-place-preserved
loop-place-preserved c =
    let task = c.args.task.now in
    let found = c.args.self.now.found in
    let place = c.loop-place.place in
    let within : place < row_count found.table.rows = omega (arith, c.loop-place-test.true, c.len-place-end.ensures.len) in
    let means = means_of task in
    let key = key_at task found place c.row-row.result c.requires within c.row-row.ensures in
    said_on task c.args.self.now c.loop-place.still.items c.push.new.self.items place c.is_still-is.result key
    (row_at task found place c.row-row.result c.requires within c.row-row.ensures)
    (c.is_still-is.ensures means key (c.requires.table means (means_are task))
    (row_of task found place c.row-row.result c.requires within c.row-row.ensures means (means_are task)))
    c.loop-place.invariant c.in_ok-push.ensures.items

pub returns-clause-count : goal.returns-clause-count
returns-clause-count c =
    let count = c.loop-place.invariant.count in
    omega (arith, count, c.loop-place-test.false, c.len-place-end.ensures.len)

pub returns-clause-exact : goal.returns-clause-exact
returns-clause-exact c place key at =
    c.loop-place.invariant.exact place key
    (let within = row_within c.args.self.now.found.table.rows place key at in omega (arith, within, c.loop-place-test.false, c.len-place-end.ensures.len)) at
