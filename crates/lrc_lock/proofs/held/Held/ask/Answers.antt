use Rattle.std.specs.Prelude.{None}
use Rattle.lrc_lock.specs.declared.state.LockState.TheVariants.{Awaited}
use Rattle.lrc_lock.proofs.Kept.{stays_held, with_state, same_place}
use Rattle.lrc_lock.proofs.held.Held.ask.Goals as goal

pub invariant_of-self : goal.invariant_of-self
invariant_of-self c =
    stays_held c.self.inside.me c.self.inside.nodes c.self.inside.locks.items c.deref_mut.result.now c.from.result (Awaited None)
    c.self.invariant c.deref_mut.ensures.value tt

pub returns : goal.returns
returns c =
    let me = c.self.inside.me in
    let nodes = c.self.inside.nodes in
    let locks = c.self.inside.locks.items in
    let now = c.deref_mut.result.now in
    let same = c.deref_mut.ensures.value in
    record {
      held = with_state me nodes locks now c.args.self.now c.from.result c.args.lock (Awaited None) c.self.view_is same c.from.ensures;
      place = same_place me nodes locks now c.args.self.now c.from.result (Awaited None) c.self.view_is same;
    }
