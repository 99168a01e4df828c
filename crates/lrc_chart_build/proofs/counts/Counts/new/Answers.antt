use Rattle.std.proofs.Common.{refl}
use Rattle.lrc_trace.specs.Interval.{closes}
use Rattle.lrc_trace.specs.Run.{is_arrive, is_depart}
use Rattle.lrc_chart_build.proofs.Counting.{next_none}
use Rattle.lrc_chart_build.proofs.counts.Counts.new.Goals as goal

pub returns-clause-counts : goal.returns-clause-counts
returns-clause-counts c acts = record {
  intervals = next_none closes _ refl;
  arrivals = next_none is_arrive _ refl;
  departures = next_none is_depart _ refl;
}
