use Rattle.std.proofs.Common.{take}
use Rattle.lrc_race.specs.Pairs.{AreLanes}
use Rattle.lrc_race.proofs.detector.lanes_of.Given as goal

-- there is a lane for each of the traces so far
abbrev pub invariant-loop-trace : goal.invariant-loop-trace
invariant-loop-trace l = AreLanes (take l.trace-index l.traces) l.lanes.items
