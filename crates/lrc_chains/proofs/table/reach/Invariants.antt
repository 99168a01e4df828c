-- The starts are as they were.
use Rattle.std.proofs.Common.{◌≡◌, ℕ, ◌+◌, ◌-◌, vec_len}
use Rattle.lrc_chains.specs.Table.{start_in}
use Rattle.lrc_chains.proofs.table.reach.Given as goal

abbrev pub invariant-loop-alloc : goal.invariant-loop-alloc
invariant-loop-alloc l = (other index : ℕ) → start_in l.rows.items other index ≡ start_in l.initial.rows.items other index

abbrev pub decreases-loop-alloc : goal.decreases-loop-alloc
decreases-loop-alloc l = (l.row + 1) - vec_len l.rows
