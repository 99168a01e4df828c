-- The numbers of intervals and barriers at a position in a run, by nodes.
use Rattle.std.specs.Option.{ForSome}
use Rattle.std.specs.Prelude.{◌≡◌, ℕ, ◌+◌, ◌<◌, Bool, List, Option, slice_index, take}
use Rattle.lrc_trace.specs.declared.act.Act.{Act}
use Rattle.lrc_trace.specs.declared.act.Deed.{Deed}
use Rattle.lrc_trace.specs.Interval.{closes}
use Rattle.lrc_trace.specs.Run.{count_of, is_arrive, is_depart}
use Rattle.lrc_chart_build.specs.declared.counts.Counts.{Counts}

-- these are, by nodes, one more than how many of the acts are deeds of this kind
abbrev pub AreNext : (Deed → Bool) → List Act → List ℕ → Type 0
AreNext kind acts numbers = (node : ℕ) → node < 256 → slice_index numbers node ≡ 1 + count_of kind node acts

-- the counts are those of the acts before a position
pub record AreCounts (acts : List Act) (position : ℕ) (counts : Counts) : Type 0 where
  pub intervals : AreNext closes (take position acts) counts.intervals
  pub arrivals : AreNext is_arrive (take position acts) counts.arrivals
  pub departures : AreNext is_depart (take position acts) counts.departures

-- the same where there is an act, at its position
abbrev pub AreCountsAt : List Act → Option ℕ → Counts → Type 0
AreCountsAt acts act counts = ForSome act (λ position. AreCounts acts position counts)
