-- The states before the place were seen; past all of them there are no more than there may be.
use Rattle.std.proofs.Common.{◌≤◌, ◌-◌}
use Rattle.lrc_orders_table.specs.Rows.{row_count}
use Rattle.lrc_explore.proofs.Seeking.{Seeking}
use Rattle.lrc_explore.proofs.task.Found.seek.Given as goal

abbrev pub invariant-loop-place : goal.invariant-loop-place
invariant-loop-place l =
    Seeking l.task l.initial.self l.self l.place l.races l.stuck l.trap × (row_count l.self.table.rows ≤ l.place → row_count l.self.table.rows ≤ l.task.most)

abbrev pub decreases-loop-place : goal.decreases-loop-place
decreases-loop-place l = l.task.most - l.place
