use Rattle.std.proofs.Common.{subst}
use Rattle.std.specs.Prelude.{is_some}
use Rattle.lrc_orders_table.proofs.RowLaws.{row_grown}
use Rattle.lrc_explore.specs.Cut.{AreSteps, trap_among}
use Rattle.lrc_explore.specs.Traps.{KeepsTrapless}
use Rattle.lrc_explore.proofs.MeansOf.{means_are, means_of}
use Rattle.lrc_explore.proofs.Stepping.{key_at, known_at, row_at, row_of}
use Rattle.lrc_explore.proofs.task.Found.visit.Goals as goal

pub meeting-requires : goal.meeting-requires
meeting-requires c = known_at c.args.task.now c.args.self.now c.args.place c.row-row.result c.requires.found c.requires.within c.row-row.ensures

pub is_stuck-stuck-requires : goal.is_stuck-stuck-requires
is_stuck-stuck-requires c = known_at c.args.task.now c.args.self.now c.args.place c.row-row.result c.requires.found c.requires.within c.row-row.ensures

pub returns-in-Some-clause-visit : goal.returns-in-Some-clause-visit
returns-in-Some-clause-visit c =
    let task = c.args.task.now in
    let old = c.args.self.now in
    let place = c.args.place in
    let f = c.requires.found in
    let within = c.requires.within in
    let there = c.row-row.ensures in
    let row = c.row-row.result in
    let key = key_at task old place row f within there in
    let at = row_at task old place row f within there in
    let means = means_of task in
    let known = f.table means (means_are task) in
    let of = row_of task old place row f within there means (means_are task) in
    let met = c.in-Some.ensures means key known of in
    (key, at, met.1, met.0)

pub returns-in-All-clause-visit : goal.returns-in-All-clause-visit
returns-in-All-clause-visit c =
    let task = c.args.task.now in
    let old = c.args.self.now in
    let place = c.args.place in
    let f = c.requires.found in
    let within = c.requires.within in
    let there = c.row-row.ensures in
    let row = c.row-row.result in
    let key = key_at task old place row f within there in
    let at = row_at task old place row f within there in
    let means = means_of task in
    let known = f.table means (means_are task) in
    let of = row_of task old place row f within there means (means_are task) in
    let e = c.in_ok-trap.ensures in
    let new = c.expand.new.self.table.rows in
    let later = row_grown old.table.rows new place key e.more.rows at in
    let steps = subst (AreSteps task new place) c.in-All.is e.steps in
    record {
      key = key;
      there = later;
      calm = c.in_default.ensures means key known of;
      expanded = steps.0 key later;
      halted = c.is_stuck-stuck.ensures means key known of;
      traps = steps.1 key later;
    }

pub returns-in-All-clause-keeps : goal.returns-in-All-clause-keeps
returns-in-All-clause-keeps c =
    let was = c.args.self.now.table.rows in
    let new = c.expand.new.self.table.rows in
    subst (λ s. KeepsTrapless c.args.task.now was new (is_some (trap_among s))) c.in-All.is
    c.in_ok-trap.ensures.trapless

pub returns-in-Cut-clause-visit : goal.returns-in-Cut-clause-visit
returns-in-Cut-clause-visit c =
    let new = c.expand.new.self.table.rows in
    subst (AreSteps c.args.task.now new c.args.place) c.in-Cut.is c.in_ok-trap.ensures.steps

pub returns-in-Cut-clause-keeps : goal.returns-in-Cut-clause-keeps
returns-in-Cut-clause-keeps c =
    let was = c.args.self.now.table.rows in
    let new = c.expand.new.self.table.rows in
    subst (λ s. KeepsTrapless c.args.task.now was new (is_some (trap_among s))) c.in-Cut.is
    c.in_ok-trap.ensures.trapless
