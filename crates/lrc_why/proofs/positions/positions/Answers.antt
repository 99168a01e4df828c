use Rattle.std.proofs.Common.{arith}
use Rattle.lrc_why_chains.proofs.Exactly.{below_same, below_push, below_all}
use Rattle.lrc_why.specs.Positions.{IsAsked}
use Rattle.lrc_why.proofs.Telling.{asked_within}
use Rattle.lrc_why.proofs.positions.positions.Goals as goal
use Rattle.lrc_why.proofs.positions.positions.Goals.{then-is_asked+in_ok-push, else-is_asked}

pub loop-k-preserved : goal.loop-k-preserved
loop-k-preserved c =
    let IsSo = IsAsked c.args.acts.now c.args.which in
    let found = c.loop-k.found.items in
    elim c.if-is_asked.branch [
      | then-is_asked+in_ok-push w ↦ rw w.found-is (below_push IsSo found _ c.loop-k.k w.if-is_asked.ensures w.in_ok-push.ensures.items c.loop-k.invariant)
      | else-is_asked w ↦ rw w.found-is (below_same IsSo found c.loop-k.k w.if-is_asked.ensures c.loop-k.invariant)
    ]

pub returns : goal.returns
returns c = below_all (IsAsked c.args.acts.now c.args.which) c.loop-k.found.items c.loop-k.k
    (λ i h. let lt = asked_within c.args.acts.now c.args.which i h in omega arith) c.loop-k.invariant
