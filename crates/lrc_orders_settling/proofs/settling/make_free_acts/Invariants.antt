-- The thread settles by what was made, and by what it settles by from here.
use Rattle.lrc_exec.specs.Spots.{spot_thread}
use Rattle.lrc_orders_settling.proofs.SoFar.{SoFar}
use Rattle.lrc_orders_settling.proofs.settling.make_free_acts.Given as goal

abbrev pub invariant-loop-step : goal.invariant-loop-step
invariant-loop-step l = SoFar l.flat (spot_thread l.flat l.fn.spot) l.spot l.deeds.items l.stops l.step
