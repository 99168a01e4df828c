use Rattle.std.proofs.Common.{◌≡◌, ◌<◌, ◌∙◌, length, get_or, ap, sym, subst, arith}
use Rattle.std.specs.Prelude.{IfSome, Option}
use Rattle.lrc_lock.specs.declared.state.Pass.{Pass}
use Rattle.lrc_lock.specs.Lock.{IsLockState, IsPass}
use Rattle.lrc_lock.specs.Held.{HeldRecord, with_lock, lock_at, released, released_at, pass_of, state_after}
use Rattle.lrc_lock.proofs.Kept.{stays_held, read_can_be, read_is, with_state, same_place, after_step, released_can_be, pass_can_be}
use Rattle.lrc_lock.proofs.held.Held.release.Goals as goal

pub invariant_of-self : goal.invariant_of-self
invariant_of-self c =
    let me = c.self.inside.me in
    let nodes = c.self.inside.nodes in
    let locks = c.self.inside.locks.items in
    let now = c.deref_mut.result.now in
    let same = c.deref_mut.ensures.value in
    let within : c.from.result < length locks =
    omega (arith, c.from.ensures, ap (λ (h : HeldRecord). length h.locks) c.self.view_is, c.requires.lock) in
    let read : IsLockState me nodes (get_or now c.from.result c.index-deref_mut-from.result) =
    read_can_be me nodes locks now c.from.result c.index-deref_mut-from.result c.self.invariant same within in
    stays_held me nodes locks now c.from.result c.release.new.self c.self.invariant same
    (subst (IsLockState me nodes) (sym c.release.ensures.state)
    (released_can_be me nodes c.args.lock c.args.now _ read (c.requires.counted ∙ sym (ap (λ (h : HeldRecord). h.nodes) c.self.view_is))))

pub returns : goal.returns
returns c =
    let me = c.self.inside.me in
    let nodes = c.self.inside.nodes in
    let locks = c.self.inside.locks.items in
    let now = c.deref_mut.result.now in
    let same = c.deref_mut.ensures.value in
    let before = c.args.self.now in
    let lock = c.args.lock in
    let at = c.from.result in
    let d = c.index-deref_mut-from.result in
    let read : get_or now at d ≡ lock_at before lock =
    read_is me nodes locks now before at lock d c.self.view_is same c.from.ensures c.requires.lock in
    let within : at < length locks =
    omega (arith, c.from.ensures, ap (λ (h : HeldRecord). length h.locks) c.self.view_is, c.requires.lock) in
    let can_be : IsLockState me nodes (get_or now at d) = read_can_be me nodes locks now at d c.self.invariant same within in
    let counted : length c.args.now ≡ nodes = c.requires.counted ∙ sym (ap (λ (h : HeldRecord). h.nodes) c.self.view_is) in
    record {
      answer = c.release.ensures.answer ∙ ap (λ state. pass_of (released_at lock c.args.now state)) read;
      held =
          with_state me nodes locks now before at lock c.release.new.self c.self.view_is same c.from.ensures
          ∙ ap (with_lock before lock) (c.release.ensures.state ∙ ap (λ state. state_after state (released_at lock c.args.now state)) read)
          ∙ after_step before lock (released before lock c.args.now);
      place = same_place me nodes locks now before at c.release.new.self c.self.view_is same;
      pass =
          subst (λ (h : HeldRecord). IfSome c.release.result (IsPass h.me h.nodes)) c.self.view_is
          (subst (λ (pass : Option Pass). IfSome pass (IsPass me nodes)) (sym c.release.ensures.answer)
          (pass_can_be me nodes lock c.args.now _ can_be counted));
    }
