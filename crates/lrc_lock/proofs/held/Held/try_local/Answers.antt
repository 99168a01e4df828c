use Rattle.std.proofs.Common.{◌<◌, length, get_or, ap, arith}
use Rattle.std.specs.Prelude.{None}
use Rattle.lrc_lock.specs.declared.state.LockState.TheVariants.{Held}
use Rattle.lrc_lock.specs.Held.{HeldRecord}
use Rattle.lrc_lock.proofs.Kept.{stays_held, read_can_be}
use Rattle.lrc_lock.proofs.held.Held.try_local.Goals as goal
use Rattle.lrc_lock.proofs.held.Held.try_local.Goals.{then-free, else-free}

pub invariant_of-self : goal.invariant_of-self
invariant_of-self c =
    let me = c.self.inside.me in
    let nodes = c.self.inside.nodes in
    let locks = c.self.inside.locks.items in
    let now = c.deref_mut.result.now in
    let at = c.from.result in
    let d = c.index-deref_mut-from.result in
    let same = c.deref_mut.ensures.value in
    let within : at < length locks =
    omega (arith, c.from.ensures, ap (λ (h : HeldRecord). length h.locks) c.self.view_is, c.requires) in
    elim c.if-free.branch [
      | then-free w ↦ rw w.self-inside-is (stays_held me nodes locks now at (Held None) c.self.invariant same tt)
      | else-free w ↦
          rw w.self-inside-is
          (stays_held me nodes locks now at (get_or now at d) c.self.invariant same
          (read_can_be me nodes locks now at d c.self.invariant same within))
    ]
