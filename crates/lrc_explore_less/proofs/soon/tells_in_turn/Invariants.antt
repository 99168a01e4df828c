-- What was found is so, and the place is one of it.
use Rattle.std.proofs.Common.{◌<◌}
use Rattle.lrc_orders_table.specs.Rows.{row_count}
use Rattle.lrc_explore.specs.Reached.{AreFound}
use Rattle.lrc_explore_less.proofs.soon.tells_in_turn.Given as goal

abbrev pub invariant-loop-round : goal.invariant-loop-round
invariant-loop-round l = record {
  found : AreFound l.task l.found;
  within : l.place < row_count l.found.table.rows;
}
