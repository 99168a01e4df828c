use Rattle.std.proofs.Common.{Some}
use Rattle.std.proofs.lemmas.Result.{err_from_is_err_and}
use Rattle.lrc_wire.specs.Reading.{next_index_at}
use Rattle.lrc_wire.proofs.Elements.{goes_on, ends, is_done}
use Rattle.lrc_wire.proofs.reading.indices.read_indices_of.Goals as goal

pub returns-in_err-index : goal.returns-in_err-index
returns-in_err-index c =
    let p = err_from_is_err_and c.from_residual-in_err-index.result c.from_residual-in_err-index.ensures.1 in
    rw (p.1, p.2) (ends next_index_at
    (λ _ index. Some index) c.in_err-index.field-0.0 c.loop.indices.items c.args.count c.loop.counter c.loop.before c.loop.bytes.now _ c.loop-test.true
    c.in_err-index.ensures.exact c.loop.invariant)

pub loop-preserved : goal.loop-preserved
loop-preserved c =
    rw c.in_ok-push.ensures.ok
    (goes_on next_index_at
    (λ _ index. Some index) c.loop.indices.items c.args.count c.loop.counter c.loop.before c.loop.bytes.now c.in_ok-index.index
    c.read_next_index.new.bytes.now _ c.loop-test.true c.in_ok-index.ensures.exact c.loop.invariant)

pub returns : goal.returns
returns c = is_done next_index_at
    (λ _ index. Some index) c.loop.indices.items c.args.count c.loop.counter c.loop.before c.loop.bytes.now _ c.loop-test.false c.loop.invariant
