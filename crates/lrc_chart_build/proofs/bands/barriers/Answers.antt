use Rattle.std.proofs.Common.{subst, sym}
use Rattle.lrc_chart_build.specs.Counts.{AreCounts}
use Rattle.lrc_chart_build.proofs.bands.barriers.Goals as goal

pub loop-place-init : goal.loop-place-init
loop-place-init c =
    let acts = c.args.acts.now in
    record {
      numbers = c.new-numbers.ensures.items;
      counts = subst (λ p. AreCounts acts p c.new-counts.result) (sym c.new-counts.ensures.position) (c.new-counts.ensures.counts acts);
    }
