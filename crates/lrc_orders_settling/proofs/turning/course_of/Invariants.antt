-- The walker has gone so many acts, and some of them since the earlier one.
use Rattle.lrc_orders_settling.proofs.Walking.{Walked}
use Rattle.lrc_orders_settling.proofs.turning.course_of.Given as goal

abbrev pub invariant-loop-step : goal.invariant-loop-step
invariant-loop-step l = Walked l.flat l.spot l.earlier l.walker l.step
