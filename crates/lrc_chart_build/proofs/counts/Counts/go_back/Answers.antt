use Rattle.std.proofs.Common.{subst, sym}
use Rattle.lrc_chart_build.specs.Counts.{AreCounts}
use Rattle.lrc_chart_build.proofs.counts.Counts.go_back.Goals as goal

pub returns-then-position-self-clause-counts : goal.returns-then-position-self-clause-counts
returns-then-position-self-clause-counts c acts before =
    subst (λ p. AreCounts acts p c.new.result) (sym c.new.ensures.position) (c.new.ensures.counts acts)
