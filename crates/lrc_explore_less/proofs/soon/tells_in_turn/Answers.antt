use Rattle.std.proofs.Common.{◌<◌, refl, subst}
use Rattle.std.specs.Prelude.{IfSome}
use Rattle.lrc_orders_table.specs.Rows.{row_count}
use Rattle.lrc_explore_less.proofs.soon.tells_in_turn.Goals as goal

pub begin-requires-clause-found : goal.begin-requires-clause-found
begin-requires-clause-found c = c.none-found.ensures.found c.args.task.now refl

pub loop-round-init : goal.loop-round-init
loop-round-init c = record { found = c.in_ok-traps.ensures.found; within = c.in_ok-traps.ensures.some }

pub loop-round-preserved : goal.loop-round-preserved
loop-round-preserved c = record {
  found = c.in_ok-next.ensures.found;
  within = subst (λ o. IfSome o (λ there. there < row_count c.after_round.new.found.table.rows)) c.in-Some.is c.in_ok-next.ensures.within;
}
