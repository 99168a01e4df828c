-- One more of what is left, which is no more than the whole.
use Rattle.std.proofs.Common.{◌≤◌, ◌+◌, map, arith}
use Rattle.lrc_named_address.specs.Address.{base_of}
use Rattle.lrc_named_address.specs.View.{index_of}
use Rattle.lrc_named_address.proofs.Indices.{base_step_at, offset_small, sum_small}
use Rattle.lrc_named_address.proofs.element.known_base.Goals as goal

pub known_offset-offset-requires : goal.known_offset-offset-requires
known_offset-offset-requires c =
    offset_small c.args.indices.now c.loop-index.index-index c.loop-index.base (base_of c.args.first (map index_of c.args.indices.now)) c.index-item.result
    c.loop-index-test.true c.index-item.is c.loop-index.invariant c.requires

pub overflow_add-base : goal.overflow_add-base
overflow_add-base c =
    let h : c.loop-index.base + c.known_offset-offset.result ≤ 65536 =
    sum_small c.args.indices.now c.loop-index.index-index c.loop-index.base (base_of c.args.first (map index_of c.args.indices.now)) c.known_offset-offset.result
    c.index-item.result c.loop-index-test.true c.index-item.is c.loop-index.invariant c.requires c.known_offset-offset.ensures in
    omega (arith, h)

pub loop-index-preserved : goal.loop-index-preserved
loop-index-preserved c =
    base_step_at c.args.indices.now c.loop-index.index-index c.loop-index.base (base_of c.args.first (map index_of c.args.indices.now)) c.known_offset-offset.result
    c.index-item.result c.loop-index-test.true c.index-item.is c.loop-index.invariant c.known_offset-offset.ensures
