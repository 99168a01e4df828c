use Rattle.std.proofs.Common.{arith}
use Rattle.lrc_trace.proofs.HappensBefore.{forward, within}
use Rattle.lrc_why_chains.proofs.chains.chain_told.Goals as goal
use Rattle.lrc_why_chains.proofs.chains.chain_told.Goals.{then-from-to-via-then-from-to, then-from-to-via-else-from-to+then-to-acts}

pub returns-then-from-to : goal.returns-then-from-to
returns-then-from-to c h = let lt = forward h in let inside = within h in
    elim c.then-from-to.branch [
      | then-from-to-via-then-from-to w ↦ omega (arith, w.if-from-to.true)
      | then-from-to-via-else-from-to+then-to-acts w ↦ omega (arith, w.if-to-acts.true)
    ]
