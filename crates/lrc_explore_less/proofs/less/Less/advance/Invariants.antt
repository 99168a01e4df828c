-- Undisputed steps lead from the first state to the last.
use Rattle.std.proofs.Common.{◌+◌, ◌-◌}
use Rattle.lrc_orders_table.specs.Rows.{row_count}
use Rattle.lrc_explore_less.specs.Passing.{ArePassing, Widens}
use Rattle.lrc_explore_less.proofs.less.Less.advance.Given as goal

abbrev pub invariant-loop-alloc : goal.invariant-loop-alloc
invariant-loop-alloc l = record {
  passing : ArePassing l.task l.self l.first;
  widens : Widens l.fn.self l.self;
}

abbrev pub decreases-loop-alloc : goal.decreases-loop-alloc
decreases-loop-alloc l = l.most + 1 - row_count l.self.found.table.rows
