use Rattle.lrc_orders_table.proofs.RowLaws.{row_grown}
use Rattle.lrc_explore.proofs.MeansOf.{means_are, means_of}
use Rattle.lrc_explore.proofs.Stepping.{key_at, known_at, row_at, row_of}
use Rattle.lrc_explore_less.proofs.less.Less.visit.Goals as goal

pub meeting-requires : goal.meeting-requires
meeting-requires c =
    known_at c.args.task.now c.args.self.now.found c.args.place c.row-row.result c.requires.less.sound.found c.requires.within c.row-row.ensures

pub is_stuck-stuck-requires : goal.is_stuck-stuck-requires
is_stuck-stuck-requires c =
    known_at c.args.task.now c.args.self.now.found c.args.place c.row-row.result c.requires.less.sound.found c.requires.within c.row-row.ensures

pub returns-in-Some-clause-visit : goal.returns-in-Some-clause-visit
returns-in-Some-clause-visit c =
    let task = c.args.task.now in
    let old = c.args.self.now.found in
    let place = c.args.place in
    let f = c.requires.less.sound.found in
    let within = c.requires.within in
    let there = c.row-row.ensures in
    let row = c.row-row.result in
    let key = key_at task old place row f within there in
    let means = means_of task in
    let of = row_of task old place row f within there means (means_are task) in
    let met = c.in-Some.ensures means key (f.table means (means_are task)) of in
    (key, row_at task old place row f within there, met.1, met.0)

pub returns-in-Ok-clause-visit : goal.returns-in-Ok-clause-visit
returns-in-Ok-clause-visit c =
    let task = c.args.task.now in
    let old = c.args.self.now.found in
    let place = c.args.place in
    let f = c.requires.less.sound.found in
    let within = c.requires.within in
    let there = c.row-row.ensures in
    let row = c.row-row.result in
    let key = key_at task old place row f within there in
    let means = means_of task in
    let known = f.table means (means_are task) in
    let of = row_of task old place row f within there means (means_are task) in
    let e = c.in-Ok.ensures in
    record {
      key = key;
      there = row_grown old.table.rows c.expand.new.self.found.table.rows place key e.widens.found.rows (row_at task old place row f within there);
      calm = c.in_default.ensures means key known of;
      halted = c.is_stuck-stuck.ensures means key known of;
      done = e.done;
    }

pub returns-in-Err-TooMany-clause-less : goal.returns-in-Err-TooMany-clause-less
returns-in-Err-TooMany-clause-less c = (c.in-Err-TooMany.ensures.long c.in-Err-TooMany.field-0-is).less

pub returns-in-Err-TooMany-clause-widens : goal.returns-in-Err-TooMany-clause-widens
returns-in-Err-TooMany-clause-widens c = (c.in-Err-TooMany.ensures.long c.in-Err-TooMany.field-0-is).widens

pub returns-in-Err-TooMany-clause-visit : goal.returns-in-Err-TooMany-clause-visit
returns-in-Err-TooMany-clause-visit c = (c.in-Err-TooMany.ensures.long c.in-Err-TooMany.field-0-is).long
