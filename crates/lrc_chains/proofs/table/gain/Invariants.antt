-- The starts are as they were.
use Rattle.std.proofs.Common.{◌≡◌, ℕ, ◌+◌, ◌-◌, vec_len}
use Rattle.lrc_chains.specs.Table.{start_at}
use Rattle.lrc_chains.proofs.table.gain.Given as goal

abbrev pub invariant-loop-row : goal.invariant-loop-row
invariant-loop-row l = (other : ℕ) → start_at l.row.items other ≡ start_at l.initial.row.items other

abbrev pub decreases-loop-row : goal.decreases-loop-row
decreases-loop-row l = (l.index + 1) - vec_len l.row
