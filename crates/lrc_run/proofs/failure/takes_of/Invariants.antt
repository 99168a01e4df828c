use Rattle.std.proofs.Common.{◌≡◌, ◌≤◌, take}
use Rattle.std.specs.Prelude.{count_by}
use Rattle.lrc_run.specs.Unfinished.{is_take}
use Rattle.lrc_run.proofs.failure.takes_of.Given as goal

-- those that the turns so far take
abbrev pub invariant-loop-entry : goal.invariant-loop-entry
invariant-loop-entry l = record { counted : l.count ≡ count_by is_take (take l.entry-index l.log); few : l.count ≤ l.entry-index }
