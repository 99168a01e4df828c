-- What was made leads along, and stays neat.
use Rattle.lrc_lazy_search.specs.Searching.{IsNeat}
use Rattle.lrc_lazy_run.specs.Ways.{IsAlong}
use Rattle.lrc_lazy_run.proofs.along.go_along.Given as goal

abbrev pub invariant-loop-step : goal.invariant-loop-step
invariant-loop-step l = record {
  along : IsAlong l.sought l.initial.state l.initial.acts.items l.state l.acts.items;
  neat : IsNeat l.sought.flat l.initial.state → IsNeat l.sought.flat l.state;
}
