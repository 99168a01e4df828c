-- What was made leads ahead, and stays neat; the earlier state was on the way.
use Rattle.lrc_lazy_search.specs.Searching.{IsAhead, IsNeat}
use Rattle.lrc_lazy_search.proofs.Ahead.{Since}
use Rattle.lrc_lazy_search.proofs.state.LazyState.go_far.Given as goal

abbrev pub invariant-loop-step : goal.invariant-loop-step
invariant-loop-step l = record {
  ahead : IsAhead l.flat l.initial.self l.self;
  neat : IsNeat l.flat l.initial.self → IsNeat l.flat l.self;
  since : Since l.flat l.initial.self l.self l.earlier;
}
