use Rattle.std.proofs.Common.{◌≡◌, ◌≢◌, ◌<◌, ◌∙◌, length, get_or, ap, sym, subst, arith}
use Rattle.std.specs.Prelude.{IfSome, IfOk, Option, Result}
use Rattle.lrc_lock.specs.declared.fault.LockFault.{LockFault}
use Rattle.lrc_lock.specs.declared.state.Pass.{Pass}
use Rattle.lrc_lock.specs.declared.state.Waiter.{Waiter}
use Rattle.lrc_lock.specs.Lock.{IsLockState, IsPass, IsWaiter}
use Rattle.lrc_lock.specs.Held.{HeldRecord, with_lock, lock_at, held_after, forwarded_at, answer_of, state_after}
use Rattle.lrc_lock.proofs.Kept.{stays_held, read_can_be, read_is, with_state, same_place, after_step, forwarded_can_be, forward_can_pass, of_another}
use Rattle.lrc_lock.proofs.held.Held.forward.Goals as goal

pub invariant_of-self : goal.invariant_of-self
invariant_of-self c =
    let me = c.self.inside.me in
    let nodes = c.self.inside.nodes in
    let locks = c.self.inside.locks.items in
    let now = c.deref_mut.result.now in
    let same = c.deref_mut.ensures.value in
    let waiter : Waiter = record { node = c.args.asker; time = c.args.time } in
    let within : c.from.result < length locks =
    omega (arith, c.from.ensures, ap (λ (h : HeldRecord). length h.locks) c.self.view_is, c.requires.lock) in
    let read : IsLockState me nodes (get_or now c.from.result c.index-deref_mut-from.result) =
    read_can_be me nodes locks now c.from.result c.index-deref_mut-from.result c.self.invariant same within in
    let nodes_are : nodes ≡ c.args.self.now.nodes = ap (λ (h : HeldRecord). h.nodes) c.self.view_is in
    let can_wait : IsWaiter me nodes waiter =
    record { another = c.if-asker-self.false; in_range = omega (arith, nodes_are, c.requires.asker); counted = c.requires.counted ∙ sym nodes_are } in
    stays_held me nodes locks now c.from.result c.forward.new.self c.self.invariant same
    (subst (IsLockState me nodes) (sym c.forward.ensures.state) (forwarded_can_be me nodes c.args.lock waiter _ read can_wait))

pub returns : goal.returns
returns c =
    let me = c.self.inside.me in
    let nodes = c.self.inside.nodes in
    let locks = c.self.inside.locks.items in
    let now = c.deref_mut.result.now in
    let same = c.deref_mut.ensures.value in
    let before = c.args.self.now in
    let lock = c.args.lock in
    let at = c.from.result in
    let d = c.index-deref_mut-from.result in
    let waiter : Waiter = record { node = c.args.asker; time = c.args.time } in
    let read : get_or now at d ≡ lock_at before lock =
    read_is me nodes locks now before at lock d c.self.view_is same c.from.ensures c.requires.lock in
    let within : at < length locks =
    omega (arith, c.from.ensures, ap (λ (h : HeldRecord). length h.locks) c.self.view_is, c.requires.lock) in
    let can_be : IsLockState me nodes (get_or now at d) = read_can_be me nodes locks now at d c.self.invariant same within in
    let nodes_are : nodes ≡ before.nodes = ap (λ (h : HeldRecord). h.nodes) c.self.view_is in
    let can_wait : IsWaiter me nodes waiter =
    record { another = c.if-asker-self.false; in_range = omega (arith, nodes_are, c.requires.asker); counted = c.requires.counted ∙ sym nodes_are } in
    let another : c.args.asker ≢ before.me = subst (λ (h : HeldRecord). c.args.asker ≢ h.me) c.self.view_is c.if-asker-self.false in
    let step = sym (of_another before lock c.args.asker c.args.time another) in
    record {
      answer = c.forward.ensures.answer ∙ ap (λ state. answer_of (forwarded_at lock waiter state)) read ∙ ap answer_of step;
      held =
          with_state me nodes locks now before at lock c.forward.new.self c.self.view_is same c.from.ensures
          ∙ ap (with_lock before lock) (c.forward.ensures.state ∙ ap (λ state. state_after state (forwarded_at lock waiter state)) read)
          ∙ after_step before lock (forwarded_at lock waiter (lock_at before lock)) ∙ ap (held_after before lock) step;
      place = same_place me nodes locks now before at c.forward.new.self c.self.view_is same;
      pass =
          subst (λ (h : HeldRecord). IfOk c.forward.result (λ pass. IfSome pass (IsPass h.me h.nodes))) c.self.view_is
          (subst (λ (r : Result (Option Pass) LockFault). IfOk r (λ pass. IfSome pass (IsPass me nodes))) (sym c.forward.ensures.answer)
          (forward_can_pass me nodes lock waiter _ can_be can_wait));
    }
