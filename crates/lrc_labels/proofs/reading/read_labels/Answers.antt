use Rattle.lrc_labels.proofs.Readings.{said_all, said_more, idle_all, idle_more}
use Rattle.lrc_labels.proofs.reading.read_labels.Goals as goal

pub loop-place-preserved : goal.loop-place-preserved
loop-place-preserved c = (
  said_more c.args.words c.args.locks (λ line. line.now) _ c.loop-place.place _ c.loop-place-test.true _ _ c.loop-place.invariant.0 c.in_ok-read_line.ensures.said,
  idle_more c.args.words c.args.locks (λ line. line.now) _ c.loop-place.place _ c.loop-place-test.true _ _ _ c.loop-place.invariant.0 c.loop-place.invariant.1
      c.in_ok-read_line.ensures.idle,
  c.in_ok-read_line.ensures.known,
)

pub returns-clause-said : goal.returns-clause-said
returns-clause-said c =
    said_all (λ line. line.now) _ _ c.loop-place.place _ c.loop-place-test.false c.deref-line-items.ensures.value c.in_ok-lines.ensures
    c.args.words c.args.locks _ c.loop-place.invariant.0

pub returns-clause-idle : goal.returns-clause-idle
returns-clause-idle c =
    idle_all (λ line. line.now) _ _ c.loop-place.place _ c.loop-place-test.false c.deref-line-items.ensures.value c.in_ok-lines.ensures
    c.args.words c.args.locks _ c.loop-place.invariant.1
