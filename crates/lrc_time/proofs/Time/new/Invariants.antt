use Rattle.std.proofs.Common.{◌≡◌}
use Rattle.lrc_time.specs.Time.{zeros}
use Rattle.lrc_time.proofs.Time.new.Given as goal

abbrev pub invariant-loop : goal.invariant-loop
invariant-loop l = l.entries.items ≡ zeros l.counter
