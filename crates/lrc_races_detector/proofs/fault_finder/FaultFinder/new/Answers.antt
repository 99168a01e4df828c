-- Before any event nothing is wrong.
use Rattle.std.proofs.Common.{arith}
use Rattle.lrc_races_detector.proofs.fault_finder.FaultFinder.new.Goals as goal

pub returns : goal.returns
returns c = λ events. record {
  found = λ k a reason lt at holds. omega arith;
  kept = λ none. record { threads = c.new.ensures events; waits = c.new-2.ensures events; holders = c.new-3.ensures events };
}
