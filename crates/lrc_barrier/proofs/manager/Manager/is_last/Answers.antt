use Rattle.std.proofs.Common.{◌≡◌, ◌∙◌, length, sym, ap, arith}
use Rattle.lrc_barrier.specs.Barrier.{ManagerRecord}
use Rattle.lrc_barrier.proofs.Filled.{all_but_one}
use Rattle.lrc_barrier.proofs.manager.Manager.is_last.Goals as goal

pub returns : goal.returns
returns c =
    let manager : ManagerRecord = c.args.self.now in
    let places : length manager.arrivals ≡ length manager.last = rw (← c.self.view_is) c.self.invariant.places in
    let items : length c.deref-place-items.result.now ≡ length manager.arrivals =
    ap length c.deref-place-items.ensures.0 ∙ ap (λ (m : ManagerRecord). length m.arrivals) c.self.view_is in
    λ arrival. sym (all_but_one arrival manager.arrivals c.args.from (omega (arith, places, c.requires))
    (λ k h other. c.loop-node.invariant k (omega (arith, h, items)) other))
