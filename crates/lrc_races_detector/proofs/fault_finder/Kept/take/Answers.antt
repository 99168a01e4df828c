-- Each part takes the event.
use Rattle.lrc_races_trace.specs.declared.fault.Reason.TheVariants.{Waits as WaitsAtOne, NotArrived}
use Rattle.lrc_races_detector.proofs.fault_finder.Kept.take.Goals as goal

pub returns : goal.returns
returns c = λ events n few here fine old. record {
  threads = c.in_ok-take.ensures events n here old.threads;
  waits = c.in_ok-take-2.ensures events n here
      (record { free = λ barrier line. fine (WaitsAtOne barrier line); arrived = λ barrier. fine (NotArrived barrier) }) old.waits;
  holders = c.in_ok-take-3.ensures events n few here old.holders;
}
