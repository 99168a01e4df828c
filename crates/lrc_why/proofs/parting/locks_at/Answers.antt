use Rattle.std.proofs.Common.{rules, ℕ, ◌≡◌, ◌<◌, ◌∙◌, get_or, length, sym, arith}
use Rattle.std.specs.Prelude.{false}
use Rattle.std.proofs.lemmas.List.{get_or_read}
use Rattle.std.proofs.lemmas.Bool.{false≢true}
use Rattle.lrc_trace.specs.Synchronization.{Holds}
use Rattle.lrc_why_chains.proofs.Exactly.{below_same, below_push, below_all}
use Rattle.lrc_why.proofs.parting.locks_at.Goals as goal
use Rattle.lrc_why.proofs.parting.locks_at.Goals.{then-is_held+in_ok-push, else-is_held}

pub loop-lock-preserved : goal.loop-lock-preserved
loop-lock-preserved c =
    let n = c.loop-lock.lock in
    let held = c.in_ok-held.ensures in
    let IsSo : ℕ → Type 0 = λ k. (k < 256) × Holds c.args.acts.now c.args.position c.args.node k in
    let lt : n < 256 = omega arith in
    let flags = c.in_ok-held.held.items in
    let flag = c.index-is_held.result.now in
    let many = held.all in
    let inside : n < length flags = omega (arith, lt, many) in
    let read : flag ≡ get_or flags n flag = search rules in
    let is = get_or_read flags n flag inside read false in
    elim c.if-is_held.branch [
      | then-is_held+in_ok-push w ↦
          rw w.locks-is (below_push IsSo c.loop-lock.locks.items _ n (lt, (held.exact n lt).0 (sym is ∙ w.if-is_held.true)) w.in_ok-push.ensures.items c.loop-lock.invariant)
      | else-is_held w ↦
          rw w.locks-is (below_same IsSo c.loop-lock.locks.items n (λ (less, h). false≢true (sym w.if-is_held.false ∙ is ∙ (held.exact n less).1 h))
          c.loop-lock.invariant)
    ]

pub returns : goal.returns
returns c =
    below_all (λ k. (k < 256) × Holds c.args.acts.now c.args.position c.args.node k) c.loop-lock.locks.items c.loop-lock.lock
    (λ i (less, h). omega arith) c.loop-lock.invariant
