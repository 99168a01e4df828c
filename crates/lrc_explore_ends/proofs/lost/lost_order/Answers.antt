use Rattle.std.proofs.Common.{◌<◌, subst, sym}
use Rattle.lrc_explore.specs.declared.task.Found.{Found}
use Rattle.lrc_orders_table.specs.Rows.{row_count}
use Rattle.lrc_explore_ends.proofs.lost.lost_order.Goals as goal

pub find_lost-requires-clause-stepped : goal.find_lost-requires-clause-stepped
find_lost-requires-clause-stepped c = c.of-states.ensures.stepped c.args.task.now c.requires.found

pub find_lost-requires-clause-some : goal.find_lost-requires-clause-some
find_lost-requires-clause-some c =
    subst (λ (f : Found). 0 < row_count f.table.rows) (sym c.of-states.ensures.found) c.requires.some
