use Rattle.std.proofs.Common.{◌≡◌, ◌∙◌, sym, subst, true, false}
use Rattle.lrc_orders.specs.Stuck.{IsAtRest}
use Rattle.lrc_orders.specs.declared.search.ExploreFault.TheVariants.{BadNodes, TooMany}
use Rattle.lrc_orders.proofs.Faults.{fault_up}
use Rattle.lrc_orders.proofs.Searching.{copy_same}
use Rattle.lrc_orders_table.proofs.RowLaws.{row_copy, row_grown, rows_not}
use Rattle.lrc_explore.specs.Answers.{IsFault}
use Rattle.lrc_explore.specs.Cut.{AreSteps}
use Rattle.lrc_explore.proofs.Keys.{within_more}
use Rattle.lrc_explore.proofs.MeansOf.{means_are, means_of}
use Rattle.lrc_explore.proofs.Seeking.{gathered_at, long_at, sound_on}
use Rattle.lrc_explore.proofs.Stepping.{key_at, known_at, row_at, row_of}
use Rattle.lrc_explore.proofs.task.Found.take_outcome.Goals as goal

pub is_still-still-requires : goal.is_still-still-requires
is_still-still-requires c = known_at c.args.task.now c.args.self.now c.args.place c.row-row.result c.requires.found c.requires.within c.row-row.ensures

pub noted-requires : goal.noted-requires
noted-requires c =
    let e = c.in_ok-steps.ensures in
    e.found.reached.full c.args.place
    (within_more c.args.task.now c.args.self.now c.expand.new.self c.args.place c.requires.found e.more c.requires.within)

pub returns-in_ok-keep-clause-sound : goal.returns-in_ok-keep-clause-sound
returns-in_ok-keep-clause-sound c =
    let task = c.args.task.now in
    let old = c.args.self.now in
    let place = c.args.place in
    let f = c.requires.found in
    let within = c.requires.within in
    let there = c.row-row.ensures in
    let row = c.row-row.result in
    let key = key_at task old place row f within there in
    let at = row_at task old place row f within there in
    let means = means_of task in
    let known = f.table means (means_are task) in
    let of = row_of task old place row f within there means (means_are task) in
    let e = c.in_ok-steps.ensures in
    let new = c.expand.new.self.table.rows in
    let other = c.in_ok-key.key in
    let copy = row_copy new place key other (row_grown old.table.rows new place key e.more.rows at) c.in_ok-key.ensures in
    let still = subst IsAtRest (copy_same task.flat key.state other.state copy.state) ((c.is_still-still.ensures means key known of).0 c.if-still.true) in
    sound_on task c.args.outcomes.now.keys c.keep.new.outcomes.keys other c.requires.sound c.in_ok-keep.ensures.only
    (e.found.reached.each place other c.in_ok-key.ensures) still

pub returns-in_ok-keep-clause-done : goal.returns-in_ok-keep-clause-done
returns-in_ok-keep-clause-done c =
    let new = c.expand.new.self.table.rows in
    let key = c.in_ok-key.key in
    let Q = AreSteps c.args.task.now new c.args.place in
    let steps = subst Q c.in_ok-or_too_long.ensures c.in_ok-steps.ensures.steps in
    gathered_at c.args.task.now new new c.keep.new.outcomes.keys c.args.place key (rows_not new) c.in_ok-key.ensures
    (steps.0 key c.in_ok-key.ensures) (λ still. c.in_ok-keep.ensures.has)

pub returns-else-still-clause-done : goal.returns-else-still-clause-done
returns-else-still-clause-done c =
    let task = c.args.task.now in
    let old = c.args.self.now in
    let place = c.args.place in
    let f = c.requires.found in
    let within = c.requires.within in
    let there = c.row-row.ensures in
    let row = c.row-row.result in
    let key = key_at task old place row f within there in
    let at = row_at task old place row f within there in
    let means = means_of task in
    let known = f.table means (means_are task) in
    let of = row_of task old place row f within there means (means_are task) in
    let e = c.in_ok-steps.ensures in
    let new = c.expand.new.self.table.rows in
    let steps = subst (AreSteps task new place) c.in_ok-or_too_long.ensures e.steps in
    gathered_at task old.table.rows new c.args.outcomes.now.keys place key e.more.rows at
    (steps.0 key (row_grown old.table.rows new place key e.more.rows at))
    (λ still. let t = (c.is_still-still.ensures means key known of).1 still in let x : true ≡ false = sym t ∙ c.if-still.false in cc)

pub returns-in_err-or_too_long-clause-faults : goal.returns-in_err-or_too_long-clause-faults
returns-in_err-or_too_long-clause-faults c =
    let task = c.args.task.now in
    let new = c.expand.new.self in
    let e = c.in_ok-steps.ensures in
    let fault = c.in_err-or_too_long.field-0.0 in
    let cut = subst (AreSteps task new.table.rows c.args.place) c.in_err-or_too_long.ensures.1 e.steps in
    fault_up c.from_residual-in_err-or_too_long.result fault (IsFault task) c.from_residual-in_err-or_too_long.ensures.1
    (record {
      nodes = λ is. let x : TooMany ≡ BadNodes = sym c.in_err-or_too_long.ensures.0 ∙ is in cc;
      many = λ is. long_at task new c.args.place e.found cut.0;
    })
