-- The text grows by each label.
use Rattle.lrc_named_text.proofs.Growing.{labels_step}
use Rattle.lrc_named_text.proofs.labels.push_labels.Goals as goal

pub loop-entry-preserved : goal.loop-entry-preserved
loop-entry-preserved c =
    labels_step c.args.declared.now c.loop-entry.entry-index c.entry-item.result
    c.args.text.now.items c.loop-entry.text.items c.push_label.new.text.items c.loop-entry-test.true c.entry-item.is
    c.loop-entry.invariant c.in_ok-push_label.ensures
