use Rattle.std.proofs.Common.{take}
use Rattle.lrc_stats.specs.Learned.{first_takings}
use Rattle.lrc_stats.specs.Seen.{HasSeen}
use Rattle.lrc_stats.proofs.SoFar.{IsSoFar}
use Rattle.lrc_stats.proofs.learned.learned_in.Given as goal

-- what the turns so far took, and what they brought
abbrev pub invariant-loop-entry : goal.invariant-loop-entry
invariant-loop-entry l = record {
  seen : HasSeen (first_takings (take l.entry-index l.log)) l.seen;
  so_far : IsSoFar l.entry-index (first_takings (take l.entry-index l.log)) l.learned;
}
