use Rattle.std.proofs.Common.{◌≡◌, ◌∙◌, sym, subst, true, false}
use Rattle.lrc_orders.specs.Stuck.{IsAtRest}
use Rattle.lrc_orders.proofs.Searching.{copy_same}
use Rattle.lrc_orders_table.proofs.RowLaws.{row_copy}
use Rattle.lrc_explore.proofs.MeansOf.{means_are, means_of}
use Rattle.lrc_explore.proofs.Seeking.{sound_on}
use Rattle.lrc_explore.proofs.Stepping.{key_at, known_at, row_at, row_of}
use Rattle.lrc_explore_less.proofs.Seeking.{gathered_at}
use Rattle.lrc_explore_less.proofs.less.Less.take_outcome.Goals as goal

pub is_still-still-requires : goal.is_still-still-requires
is_still-still-requires c =
    known_at c.args.task.now c.args.self.now.found c.args.place c.row-row.result c.requires.less.sound.found c.requires.within c.row-row.ensures

pub noted-requires : goal.noted-requires
noted-requires c = c.requires.less.sound.found.reached.full c.args.place c.requires.within

pub returns-in_ok-keep-clause-sound : goal.returns-in_ok-keep-clause-sound
returns-in_ok-keep-clause-sound c =
    let task = c.args.task.now in
    let found = c.args.self.now.found in
    let place = c.args.place in
    let f = c.requires.less.sound.found in
    let within = c.requires.within in
    let there = c.row-row.ensures in
    let row = c.row-row.result in
    let key = key_at task found place row f within there in
    let at = row_at task found place row f within there in
    let means = means_of task in
    let known = f.table means (means_are task) in
    let of = row_of task found place row f within there means (means_are task) in
    let other = c.in_ok-key.key in
    let copy = row_copy found.table.rows place key other at c.in_ok-key.ensures in
    let still = subst IsAtRest (copy_same task.flat key.state other.state copy.state) ((c.is_still-still.ensures means key known of).0 c.if-still.true) in
    sound_on task c.args.outcomes.now.keys c.keep.new.outcomes.keys other c.requires.sound c.in_ok-keep.ensures.only
    (f.reached.each place other c.in_ok-key.ensures) still

pub returns-in_ok-keep-clause-done : goal.returns-in_ok-keep-clause-done
returns-in_ok-keep-clause-done c =
    gathered_at c.args.task.now c.args.self.now.found.table.rows c.keep.new.outcomes.keys c.args.place c.in_ok-key.key c.in_ok-key.ensures
    (λ still. c.in_ok-keep.ensures.has)

pub returns-else-still-clause-done : goal.returns-else-still-clause-done
returns-else-still-clause-done c =
    let task = c.args.task.now in
    let found = c.args.self.now.found in
    let place = c.args.place in
    let f = c.requires.less.sound.found in
    let within = c.requires.within in
    let there = c.row-row.ensures in
    let row = c.row-row.result in
    let key = key_at task found place row f within there in
    let at = row_at task found place row f within there in
    let means = means_of task in
    let known = f.table means (means_are task) in
    let of = row_of task found place row f within there means (means_are task) in
    gathered_at task found.table.rows c.args.outcomes.now.keys place key at
    (λ still. let t = (c.is_still-still.ensures means key known of).1 still in let x : true ≡ false = sym t ∙ c.if-still.false in cc)
