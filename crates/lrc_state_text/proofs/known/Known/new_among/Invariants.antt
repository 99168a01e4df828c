use Rattle.std.proofs.Common.{◌≡◌, take}
use Rattle.lrc_state_text.specs.Intervals.{not_known}
use Rattle.lrc_state_text.proofs.known.Known.new_among.Given as goal

-- those so far that were not shown
abbrev pub invariant-loop-stored : goal.invariant-loop-stored
invariant-loop-stored l = l.found.items ≡ not_known l.self (take l.stored-index l.all)
