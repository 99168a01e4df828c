use Rattle.std.proofs.Common.{◌≡◌, ◌+◌, ◌-◌, drop}
use Rattle.lrc_wire.specs.Runs.{lead}
use Rattle.lrc_wire.proofs.writing.runs.run_end.Given as goal

abbrev pub invariant-loop-end : goal.invariant-loop-end
invariant-loop-end l = lead (drop l.start l.changes) ≡ (l.end - 1 - l.start) + lead (drop (l.end - 1) l.changes)
