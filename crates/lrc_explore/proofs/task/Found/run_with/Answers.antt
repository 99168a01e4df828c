use Rattle.std.proofs.Common.{subst}
use Rattle.lrc_explore.specs.Ended.{IsFirstEnd}
use Rattle.lrc_explore.proofs.Ending.{no_outcome, run_to}
use Rattle.lrc_explore.proofs.task.Found.run_with.Goals as goal

pub returns-in_ok-acts_to-in-Some-clause-run : goal.returns-in_ok-acts_to-in-Some-clause-run
returns-in_ok-acts_to-in-Some-clause-run c =
    let task = c.args.task.now in
    let found = c.args.self.now in
    let notes = c.args.notes.now in
    let first = subst (IsFirstEnd task found notes) c.in-Some.is c.in_ok-place.ensures in
    run_to task found notes c.in-Some.place c.in_ok-acts_to-in-Some.field-0.items c.requires.noting c.requires.all.are first.0 c.in_ok-acts_to-in-Some.ensures.led

pub returns-in-None-clause-run : goal.returns-in-None-clause-run
returns-in-None-clause-run c =
    let task = c.args.task.now in
    let found = c.args.self.now in
    let notes = c.args.notes.now in
    no_outcome task found notes c.requires.noting c.requires.all (subst (IsFirstEnd task found notes) c.in-None.is c.in_ok-place.ensures)
