-- The weights of known intervals.
use Rattle.std.specs.Prelude.{ℕ, ◌<◌, ◌≤◌, List}
use Rattle.lrc_trace.specs.declared.act.Act.{Act}
use Rattle.lrc_trace.specs.Synchronization.{IsWellSynchronized}
use Rattle.lrc_time.specs.Time.{entry}
use Rattle.lrc_clock.specs.Cover.{ClosesAt}
use Rattle.lrc_exact.specs.LocalRule.{state_before}
use Rattle.lrc_exact.specs.Rule.{Shape, State, exact_rule}
use Rattle.lrc_exact_known.specs.Known.{OfStates}

-- Where a state knows an interval, what the interval's node knew just before it closed the interval weighs less.
abbrev pub KnownWeighsLess : Type 0
KnownWeighsLess = OfStates (λ shape run states j node state. IsWellSynchronized shape.nodes run → (other index i p m : ℕ)
    → 1 ≤ index → index ≤ entry state.knows.time other → ClosesAt run other index i
    → 1 ≤ m → m ≤ entry (state_before (exact_rule shape) run states other i).knows.time p
    → (state.knows.interval p m).weight < (state.knows.interval other index).weight)

-- So of one node's intervals each weighs less than a later one.
abbrev pub WeightsOfANodeRise : Type 0
WeightsOfANodeRise = OfStates (λ shape run states j node state. IsWellSynchronized shape.nodes run → (other index later : ℕ)
    → 1 ≤ index → index < later → later ≤ entry state.knows.time other
    → (state.knows.interval other index).weight < (state.knows.interval other later).weight)
