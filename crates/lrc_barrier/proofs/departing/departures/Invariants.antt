use Rattle.std.proofs.Common.{◌≡◌, map, take}
use Rattle.std.specs.List.{enumerate_from}
use Rattle.lrc_barrier.specs.Barrier.{departure_to}
use Rattle.lrc_barrier.specs.Filled.{all_with}
use Rattle.lrc_barrier.proofs.departing.departures.Given as goal

abbrev pub invariant-loop-node : goal.invariant-loop-node
invariant-loop-node l =
    l.list.items ≡ map (departure_to (all_with l.last l.kept)) (enumerate_from 0 (all_with l.last (take l.node l.kept)))
