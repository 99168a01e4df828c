-- What was found is so, and the place is one of it.
use Rattle.std.proofs.Common.{◌<◌}
use Rattle.lrc_orders_table.specs.Rows.{row_count}
use Rattle.lrc_explore.specs.Reached.{AreFound}
use Rattle.lrc_explore_less.proofs.soon.after_round.Given as goal

abbrev pub invariant-loop-node : goal.invariant-loop-node
invariant-loop-node l = record {
  found : AreFound l.task l.found;
  within : l.at < row_count l.found.table.rows;
}
