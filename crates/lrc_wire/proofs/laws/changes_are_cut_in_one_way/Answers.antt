use Rattle.lrc_wire.proofs.Runs.{runs_of-are, runs_are}
use Rattle.lrc_wire.proofs.laws.changes_are_cut_in_one_way.Goals as goal

pub returns-clause-runs : goal.returns-clause-runs
returns-clause-runs c = runs_of-are

pub returns-clause-no_others : goal.returns-clause-no_others
returns-clause-no_others c = runs_are
