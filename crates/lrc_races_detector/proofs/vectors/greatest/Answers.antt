-- One entry more.
use Rattle.std.proofs.Common.{max, sym, ap₂, ◌∙◌}
use Rattle.lrc_races_detector.proofs.Entries.{greatest_next}
use Rattle.lrc_races_detector.proofs.vectors.greatest.Goals as goal

pub loop-entry-preserved : goal.loop-entry-preserved
loop-entry-preserved c =
    let l = c.loop-entry in
    c.max-most.ensures ∙ ap₂ max c.apart_at.ensures l.invariant ∙ sym (greatest_next c.args.recent.now c.args.thread l.entry-index _ c.loop-entry-test.true)
