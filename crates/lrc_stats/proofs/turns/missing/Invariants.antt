use Rattle.std.proofs.Common.{◌≡◌, ◌≤◌, take}
use Rattle.std.specs.Prelude.{count_by}
use Rattle.lrc_stats.specs.Turns.{is_miss}
use Rattle.lrc_stats.proofs.turns.missing.Given as goal

-- the misses among the turns so far
abbrev pub invariant-loop-entry : goal.invariant-loop-entry
invariant-loop-entry l = record { counted : l.count ≡ count_by is_miss (take l.entry-index l.log); few : l.count ≤ l.entry-index }
