use Rattle.std.proofs.Common.{◌≡◌, ℕ, filter, take}
use Rattle.lrc_named_parse.specs.SeenState.{state_seen}
use Rattle.lrc_named_may.specs.Stops.{takes_kind}
use Rattle.lrc_named_may.specs.Kind.{all_kinds}
use Rattle.lrc_named_may.proofs.first_fault.kinds_taken.Given as goal

-- the kinds so far
abbrev pub invariant-loop-kind : goal.invariant-loop-kind
invariant-loop-kind l = (at : ℕ) → l.kinds.items ≡ filter (takes_kind at (state_seen l.state)) (take l.kind-index all_kinds)
