-- One entry more is raised.
use Rattle.lrc_races_detector.specs.Chunks.{values}
use Rattle.lrc_races_detector.proofs.Entries.{raised_next}
use Rattle.lrc_races_detector.proofs.vectors.raise_all.Goals as goal

pub loop-entry-preserved : goal.loop-entry-preserved
loop-entry-preserved c = λ thread.
    let l = c.loop-entry in
    raised_next c.args.recent.now thread l.entry-index _ (values c.args.chunks.now.items) (values l.chunks.items) (values c.raise.new.chunks.items)
    c.loop-entry-test.true (l.invariant thread) c.in_ok-raise.ensures
