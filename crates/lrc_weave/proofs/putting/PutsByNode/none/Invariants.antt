use Rattle.std.proofs.Common.{◌≡◌, [], map, replicate}
use Rattle.lrc_weave.proofs.putting.PutsByNode.none.Given as goal

abbrev pub invariant-loop-node : goal.invariant-loop-node
invariant-loop-node l = map (λ line. map (λ wire. wire.now) line.items) l.lines.items ≡ replicate l._node []
