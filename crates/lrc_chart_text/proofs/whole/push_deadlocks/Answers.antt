use Rattle.std.proofs.Common.{refl}
use Rattle.lrc_chart_text.specs.Sketch.{deadlock_lines}
use Rattle.lrc_chart_text.proofs.Steps.{flat_lines}
use Rattle.lrc_chart_text.proofs.whole.push_deadlocks.Goals as goal

pub loop-words-preserved : goal.loop-words-preserved
loop-words-preserved c =
    flat_lines c.args.deadlocks.now c.args.deadlocks.now refl c.loop-words.words-index c.words-item.result c.loop-words-test.true
    c.words-item.is deadlock_lines c.extend_from_slice.new.self.items c.loop-words.text.items
    c.push_deadlock.new.text.items c.loop-words.invariant c.in_ok-push_deadlock.ensures
