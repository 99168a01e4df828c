use Rattle.std.proofs.Common.{Some}
use Rattle.std.proofs.lemmas.Result.{err_from_is_err_and}
use Rattle.lrc_wire.specs.Reading.{next_interval_at, known_by}
use Rattle.lrc_wire.proofs.Elements.{goes_on, ends, is_done}
use Rattle.lrc_wire.proofs.reading.intervals.read_intervals_of.Goals as goal

pub returns-in_err-key : goal.returns-in_err-key
returns-in_err-key c =
    let p = err_from_is_err_and c.from_residual-in_err-key.result c.from_residual-in_err-key.ensures.1 in
    rw (p.1, p.2) (ends (next_interval_at c.args.version c.args.nodes)
    (λ _ interval. Some (known_by interval)) c.in_err-key.field-0.0 c.loop.intervals.items c.args.count c.loop.counter c.loop.before c.loop.rest.now _
    c.loop-test.true c.in_err-key.ensures c.loop.invariant)

pub loop-preserved : goal.loop-preserved
loop-preserved c =
    let put = c.in_ok-key.ensures in
    rw (put.2, put.3) (goes_on (next_interval_at c.args.version c.args.nodes)
    (λ _ interval. Some (known_by interval)) c.loop.intervals.items c.args.count c.loop.counter c.loop.before c.loop.rest.now put.0
    c.read_next_interval.new.bytes.now _ c.loop-test.true put.1 c.loop.invariant)

pub returns : goal.returns
returns c = is_done (next_interval_at c.args.version c.args.nodes)
    (λ _ interval. Some (known_by interval)) c.loop.intervals.items c.args.count c.loop.counter c.loop.before c.loop.rest.now _ c.loop-test.false
    c.loop.invariant
