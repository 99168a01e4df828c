use Rattle.std.proofs.Common.{◌≡◌, ◌<◌, ◌∙◌, length, get_or, ap, sym, subst, arith}
use Rattle.lrc_lock.specs.Lock.{IsLockState}
use Rattle.lrc_lock.specs.Held.{HeldRecord, with_lock, lock_at, granted, granted_at, grant_answer, state_after}
use Rattle.lrc_lock.proofs.Kept.{stays_held, read_can_be, read_is, with_state, same_place, after_step, granted_can_be}
use Rattle.lrc_lock.proofs.held.Held.granted.Goals as goal

pub invariant_of-self : goal.invariant_of-self
invariant_of-self c =
    let me = c.self.inside.me in
    let nodes = c.self.inside.nodes in
    let locks = c.self.inside.locks.items in
    let now = c.deref_mut.result.now in
    let same = c.deref_mut.ensures.value in
    let within : c.from.result < length locks =
    omega (arith, c.from.ensures, ap (λ (h : HeldRecord). length h.locks) c.self.view_is, c.requires) in
    let read : IsLockState me nodes (get_or now c.from.result c.index-deref_mut-from.result) =
    read_can_be me nodes locks now c.from.result c.index-deref_mut-from.result c.self.invariant same within in
    stays_held me nodes locks now c.from.result c.granted.new.self c.self.invariant same
    (subst (IsLockState me nodes) (sym c.granted.ensures.state) (granted_can_be me nodes _ read))

pub returns : goal.returns
returns c =
    let me = c.self.inside.me in
    let nodes = c.self.inside.nodes in
    let locks = c.self.inside.locks.items in
    let now = c.deref_mut.result.now in
    let same = c.deref_mut.ensures.value in
    let before = c.args.self.now in
    let lock = c.args.lock in
    let read : get_or now c.from.result c.index-deref_mut-from.result ≡ lock_at before lock =
    read_is me nodes locks now before c.from.result lock c.index-deref_mut-from.result c.self.view_is same c.from.ensures c.requires in
    record {
      answer = c.granted.ensures.answer ∙ ap (λ state. grant_answer (granted_at state)) read;
      held =
          with_state me nodes locks now before c.from.result lock c.granted.new.self c.self.view_is same c.from.ensures
          ∙ ap (with_lock before lock) (c.granted.ensures.state ∙ ap (λ state. state_after state (granted_at state)) read)
          ∙ after_step before lock (granted before lock);
      place = same_place me nodes locks now before c.from.result c.granted.new.self c.self.view_is same;
    }
