use Rattle.std.proofs.Common.{◌<◌, subst}
use Rattle.std.specs.Prelude.{IfSome}
use Rattle.lrc_orders_table.specs.Rows.{row_count}
use Rattle.lrc_explore_less.proofs.soon.after_round.Goals as goal

pub loop-node-preserved : goal.loop-node-preserved
loop-node-preserved c = record {
  found = c.in_ok-next.ensures.found;
  within = subst (λ o. IfSome o (λ there. there < row_count c.moved.new.found.table.rows)) c.in-Some.is c.in_ok-next.ensures.within;
}
