use Rattle.std.proofs.Common.{◌≡◌, ◌+◌, ◌≤◌, take}
use Rattle.lrc_trace.specs.Interval.{closes}
use Rattle.lrc_trace.specs.Run.{count_of}
use Rattle.lrc_explore_text.proofs.last_races.interval_at.Given as goal

-- one more than the closing acts so far
abbrev pub invariant-loop-act : goal.invariant-loop-act
invariant-loop-act l = record {
  interval : l.interval ≡ 1 + count_of closes l.node (take l.act-index l.front);
  small : l.interval ≤ 1 + l.act-index;
}
