-- From the state at which the walk back stands, the acts so far, turned round, lead to the last one.
use Rattle.std.proofs.Common.{◌<◌, length}
use Rattle.lrc_lazy_run.specs.Ways.{LeadsFrom}
use Rattle.lrc_lazy_run.proofs.ways.Ways.acts_to.Given as goal

abbrev pub invariant-loop-at : goal.invariant-loop-at
invariant-loop-at l = record {
  within : l.at < length l.self.states.keys;
  leads : LeadsFrom l.sought l.self.states.keys l.at l.acts.items l.place;
}

abbrev pub decreases-loop-at : goal.decreases-loop-at
decreases-loop-at l = l.at
