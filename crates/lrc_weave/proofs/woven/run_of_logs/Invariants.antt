use Rattle.std.proofs.Common.{◌≡◌, map, length}
use Rattle.lrc_weave.proofs.Heads.{AreHeads}
use Rattle.lrc_weave.proofs.Weaving.{to_come}
use Rattle.lrc_weave.proofs.Stepping.{WovenSo}
use Rattle.lrc_weave.proofs.woven.run_of_logs.Given as goal

abbrev pub invariant-loop-node : goal.invariant-loop-node
invariant-loop-node l =
    ((length l.come.items ≡ length l.fn.logs) × WovenSo (map (λ log. log.items) l.fn.logs) l.come.items l.flight.items l.events.items l.acts.items)
    × ((length l.stamps.items ≡ length l.fn.logs) × AreHeads (map (λ log. log.items) l.fn.logs) l.come.items l.stamps.items)

abbrev pub decreases-loop-node : goal.decreases-loop-node
decreases-loop-node l = to_come (map (λ log. log.items) l.fn.logs) l.come.items
