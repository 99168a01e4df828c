-- The entries are as they were.
use Rattle.std.proofs.Common.{◌≡◌, ℕ, ◌+◌, ◌-◌, vec_len}
use Rattle.lrc_races_detector.specs.Chunks.{entry_in}
use Rattle.lrc_races_detector.proofs.chunks.reach.Given as goal

abbrev pub invariant-loop-chunks : goal.invariant-loop-chunks
invariant-loop-chunks l = (other place : ℕ)
    → entry_in l.chunks.items other place ≡ entry_in l.initial.chunks.items other place

abbrev pub decreases-loop-chunks : goal.decreases-loop-chunks
decreases-loop-chunks l = (l.index + 1) - vec_len l.chunks
