use Rattle.std.proofs.Common.{subst}
use Rattle.lrc_orders_table.proofs.RowLaws.{row_within}
use Rattle.lrc_explore.specs.Ended.{IsFirstEnd}
use Rattle.lrc_explore.proofs.Ending.{run_to}
use Rattle.lrc_explore_less.proofs.Enough.{no_outcome}
use Rattle.lrc_explore_less.proofs.less.Less.run_with.Goals as goal

pub end_with-requires : goal.end_with-requires
end_with-requires c = c.requires.enough.less_is.sound.found

pub acts_to-requires-clause-found : goal.acts_to-requires-clause-found
acts_to-requires-clause-found c = c.requires.enough.less_is.sound.found

pub acts_to-requires-clause-within : goal.acts_to-requires-clause-within
acts_to-requires-clause-within c =
    let less = c.args.self.now in
    let first = subst (IsFirstEnd c.args.task.now less.found c.args.notes.now) c.in-Some.is c.in_ok-place.ensures in
    row_within less.found.table.rows c.in-Some.place first.0.key first.0.there

pub returns-in_ok-acts_to-in-Some-clause-run : goal.returns-in_ok-acts_to-in-Some-clause-run
returns-in_ok-acts_to-in-Some-clause-run c =
    let task = c.args.task.now in
    let less = c.args.self.now in
    let notes = c.args.notes.now in
    let first = subst (IsFirstEnd task less.found notes) c.in-Some.is c.in_ok-place.ensures in
    run_to task less.found notes c.in-Some.place c.in_ok-acts_to-in-Some.field-0.items c.requires.noting c.requires.enough.less_is.sound.found first.0
    c.in_ok-acts_to-in-Some.ensures.led

pub returns-in-None-clause-run : goal.returns-in-None-clause-run
returns-in-None-clause-run c =
    let task = c.args.task.now in
    let less = c.args.self.now in
    let notes = c.args.notes.now in
    let e = c.requires.enough in
    no_outcome task less e.less_is e.begun e.done notes c.requires.noting (subst (IsFirstEnd task less.found notes) c.in-None.is c.in_ok-place.ensures)
