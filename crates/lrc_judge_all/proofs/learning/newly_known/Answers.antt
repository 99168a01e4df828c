use Rattle.std.proofs.Common.{◌≡◌, ◌<◌, arith, eqb, length}
use Rattle.std.proofs.lemmas.List.Filters.{dedup_is}
use Rattle.lrc_judge.specs.declared.TheConstants.{NODES}
use Rattle.lrc_judge_all.proofs.Readers.{batch_more, batch_sorted}
use Rattle.lrc_judge_all.proofs.learning.newly_known.Goals as goal

pub loop-node-preserved : goal.loop-node-preserved
loop-node-preserved c =
    let lt : c.loop-node.node < length c.loop-node.next = omega arith in
    batch_more c.args.order.now c.args.acts.now c.args.position c.args.next.now c.loop-node.node c.in_ok-next.field-0 c.loop-node.next
    c.loop-node.batch.items c.gather.new.batch.items c.loop-node.invariant lt c.in_ok-next.ensures

pub returns : goal.returns
returns c =
    let sorted = c.sort_unstable.new.self.items in
    let unique = c.dedup.new.self.items in
    let all : c.loop-node.node ≡ NODES = omega arith in
    batch_sorted c.args.order.now c.args.acts.now c.args.position c.loop-node.node c.args.next.now c.loop-node.next c.loop-node.batch.items sorted unique all
    c.loop-node.invariant c.sort_unstable.ensures.permutation c.sort_unstable.ensures.sorted (dedup_is eqb sorted unique c.dedup.ensures.filtered)
