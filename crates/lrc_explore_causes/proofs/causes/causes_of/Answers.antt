use Rattle.std.proofs.Common.{◌+◌, sym, subst, List}
use Rattle.std.proofs.lemmas.Option.{slice_get-get_or}
use Rattle.lrc_trace.specs.declared.act.Act.{Act}
use Rattle.lrc_explore_causes.specs.Causes.{IsCause, Keeps, beginning}
use Rattle.lrc_explore_causes.proofs.Choosing.{one_kept, one_left}
use Rattle.lrc_explore_causes.proofs.causes.causes_of.Goals as goal
use Rattle.lrc_explore_causes.proofs.causes.causes_of.Goals.{then-is_cause+in_ok-push, else-is_cause}

pub loop-position-init : goal.loop-position-init
loop-position-init c =
    subst (λ (l : List Act). Keeps c.args.acts.now (IsCause c.args.acts.now c.args.first c.args.second) 0 l) (sym c.new-told.ensures.items) beginning

pub loop-position-preserved : goal.loop-position-preserved
loop-position-preserved c =
    let run = c.args.acts.now in
    let i = c.args.first in
    let j = c.args.second in
    let n = c.loop-position.position in
    let old = c.loop-position.invariant in
    elim c.if-is_cause.branch [
      | then-is_cause+in_ok-push w ↦
          rw w.told-is (subst (λ (l : List Act). Keeps run (IsCause run i j) (n + 1) l) (sym w.in_ok-push.ensures.items)
          (one_kept run c.in_ok-order.order c.in_ok-order.ensures i j n c.loop-position.told.items _ (sym w.if-is_cause.ensures)
          (slice_get-get_or run n _ c.loop-position-test.true) old))
      | else-is_cause w ↦
          rw w.told-is (one_left run c.in_ok-order.order c.in_ok-order.ensures i j n c.loop-position.told.items (sym w.if-is_cause.ensures) old)
    ]
