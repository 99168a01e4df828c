use Rattle.std.proofs.Common.{◌≡◌, take, arith}
use Rattle.std.proofs.lemmas.List.{take_all}
use Rattle.std.proofs.lemmas.List.Folds.{length-flat_map-take}
use Rattle.lrc_wire.specs.Spelling.{interval}
use Rattle.lrc_wire.proofs.Lengths.{length_news}
use Rattle.lrc_wire.proofs.writing.sizes.news_len.Goals as goal

pub returns-then-len-gt-MOST_BODY_BYTES-clause-over : goal.returns-then-len-gt-MOST_BODY_BYTES-clause-over
returns-then-len-gt-MOST_BODY_BYTES-clause-over c =
    let item = c.record-item.result in
    let front = length-flat_map-take interval c.as_slice-record-items.result.now c.loop-record.record-index item c.loop-record-test.true in
    let here = rw (← c.record-item.is) at front in
    let whole = rw c.as_slice-record-items.ensures.all at here in
    let exact = rw (← c.told.view_is) at c.loop-record.invariant.exact in
    rw (← c.told.view_is) (omega (arith, whole, exact, length_news c.told.inside.time c.told.inside.intervals))

pub returns-clause-within : goal.returns-clause-within
returns-clause-within c =
    let past = rw c.as_slice-record-items.ensures.all at c.loop-record-test.false in
    let all : take c.loop-record.record-index c.told.inside.intervals ≡ c.told.inside.intervals =
    take_all c.loop-record.record-index c.told.inside.intervals past in
    let exact = rw (← c.told.view_is) at c.loop-record.invariant.exact in
    let here = rw all at exact in
    rw (← c.told.view_is) (omega (arith, here, length_news c.told.inside.time c.told.inside.intervals))
