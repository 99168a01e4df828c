use Rattle.std.proofs.Common.{◌≡◌, ◌++◌, take, drop}
use Rattle.std.specs.Prelude.{map}
use Rattle.lrc_table.specs.PageCopy.{without_twin}
use Rattle.lrc_table.proofs.table.PageTable.drop_twins.Given as goal

abbrev pub invariant-loop-slot : goal.invariant-loop-slot
invariant-loop-slot l =
    l.slot-items ≡ map without_twin (take l.slot-index l.initial.slot-items) ++ drop l.slot-index l.initial.slot-items
