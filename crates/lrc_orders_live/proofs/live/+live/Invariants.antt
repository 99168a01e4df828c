use Rattle.std.proofs.Common.{drop}
use Rattle.lrc_orders_live.specs.Live.{AreNames, has, matters_among}
use Rattle.lrc_orders_live.proofs.live.+live.Given as goal

abbrev pub invariant-add_before_all-loop-place : goal.invariant-add_before_all-loop-place
invariant-add_before_all-loop-place l = AreNames l.names (matters_among (drop l.place l.statements) (has l.initial.names))
