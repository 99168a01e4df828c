use Rattle.lrc_labels.proofs.Fields.{kept_still}
use Rattle.lrc_labels.proofs.line.fields.Goals as goal

pub loop-piece-preserved : goal.loop-piece-preserved
loop-piece-preserved c =
    kept_still (λ piece. piece.now) _ c.loop-piece.piece-index _ _ _ c.loop-piece-test.true c.loop-piece.invariant c.in_ok-keep.ensures
