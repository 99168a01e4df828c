use Rattle.std.proofs.Common.{◌<◌, ℕ, arith, length}
use Rattle.lrc_why_chains.proofs.Exactly.{below_all, below_none, below_push, below_same}
use Rattle.lrc_step.specs.Told.{IsTold}
use Rattle.lrc_step.proofs.Nodes.{told_within}
use Rattle.lrc_step.proofs.told.positions_told.Goals as goal
use Rattle.lrc_step.proofs.told.positions_told.Goals.{then-is_told+in_ok-push, else-is_told}

pub loop-position-init : goal.loop-position-init
loop-position-init c = below_none (IsTold c.args.acts.now c.args.part) c.new-found.result.items c.new-found.ensures.items

pub loop-position-preserved : goal.loop-position-preserved
loop-position-preserved c =
    let IsSo : ℕ → Type 0 = IsTold c.args.acts.now c.args.part in
    let found = c.loop-position.found.items in
    elim c.if-is_told.branch [
      | then-is_told+in_ok-push w ↦ rw w.found-is (below_push IsSo found _ c.loop-position.position w.if-is_told.ensures w.in_ok-push.ensures.items c.loop-position.invariant)
      | else-is_told w ↦ rw w.found-is (below_same IsSo found c.loop-position.position w.if-is_told.ensures c.loop-position.invariant)
    ]

pub returns : goal.returns
returns c = below_all (IsTold c.args.acts.now c.args.part) c.loop-position.found.items c.loop-position.position
    (λ i told. let lt : i < length c.args.acts.now = told_within c.args.acts.now c.args.part i told in omega arith) c.loop-position.invariant
