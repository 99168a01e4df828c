use Rattle.std.proofs.Common.{◌≡◌, true, take, fold, sym, subst}
use Rattle.lrc_memory.specs.Turns.{is_mendable}
use Rattle.lrc_memory.specs.View.{NodeMemory}
use Rattle.lrc_protocol.specs.Pages.{repaired, copy_at}
use Rattle.lrc_node.specs.Keeping.{CanMend}
use Rattle.lrc_node.proofs.Keeping.{can_mend_next}
use Rattle.lrc_node.proofs.collections.clean.mend_all.Goals as goal

pub mend-requires-clause-fit : goal.mend-requires-clause-fit
mend-requires-clause-fit c =
    let n = c.args.memory.now in
    let k = c.loop-need.need-index in
    let need = c.need-item.result in
    let before = fold repaired n.memory (take k c.args.needs.now) in
    let can : CanMend n.size before need =
    subst (CanMend n.size before) (sym c.need-item.is)
    (can_mend_next n.size n.memory c.args.needs.now k need c.requires.apart c.requires.can c.loop-need-test.true) in
    subst (λ size. is_mendable size (copy_at c.loop-need.memory.memory need.page) need.base ≡ true) (sym c.loop-need.invariant.same.size)
    (subst (λ (m : NodeMemory). is_mendable n.size (copy_at m.memory need.page) need.base ≡ true) (sym c.loop-need.invariant.so_far) can.fit)
