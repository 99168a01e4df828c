-- One more where it may be out of range.
use Rattle.std.proofs.Common.{sym, ◌∙◌}
use Rattle.lrc_named_address.proofs.Indices.{open_more, open_same}
use Rattle.lrc_named_address.proofs.element.open_ones.Goals as goal
use Rattle.lrc_named_address.proofs.element.open_ones.Goals.{then-may+in_ok-push, else-may}

pub loop-index-preserved : goal.loop-index-preserved
loop-index-preserved c =
    elim c.if-may.branch [
      | then-may+in_ok-push w ↦
          rw w.all-is (open_more c.loop-index.all.items _ c.args.indices.now c.loop-index.index-index c.index-item.result c.loop-index-test.true c.index-item.is
          (sym c.is_open-may.ensures ∙ w.if-may.true) w.in_ok-push.ensures.items c.loop-index.invariant)
      | else-may w ↦
          rw w.all-is (open_same c.loop-index.all.items c.args.indices.now c.loop-index.index-index c.index-item.result c.loop-index-test.true c.index-item.is
          (sym c.is_open-may.ensures ∙ w.if-may.false) c.loop-index.invariant)
    ]
