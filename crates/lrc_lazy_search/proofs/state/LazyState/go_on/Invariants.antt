-- What was made leads ahead, and stays neat.
use Rattle.lrc_lazy_search.specs.Searching.{IsAhead, IsNeat}
use Rattle.lrc_lazy_search.proofs.state.LazyState.go_on.Given as goal

abbrev pub invariant-loop : goal.invariant-loop
invariant-loop l = record {
  ahead : IsAhead l.flat l.initial.self l.self;
  neat : IsNeat l.flat l.initial.self → IsNeat l.flat l.self;
}
