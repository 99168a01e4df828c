use Rattle.std.proofs.Common.{subst}
use Rattle.lrc_lazy_run.specs.Ways.{IsEndFor}
use Rattle.lrc_lazy_run.proofs.Keeping.{run_there}
use Rattle.lrc_lazy_run.proofs.run.run_of.Goals as goal

pub returns-in-Some-clause-run : goal.returns-in-Some-clause-run
returns-in-Some-clause-run c =
    let sought = c.args.sought.now in
    let keys = c.find.new.self.states.keys in
    let found = subst (IsEndFor sought keys c.args.notes.now) c.in-Some.is c.in_ok-place.ensures.found in
    run_there sought keys c.in-Some.place c.args.notes.now c.in_ok-acts_to-in-Some.field-0.items c.requires found c.in_ok-acts_to-in-Some.ensures
