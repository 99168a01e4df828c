use Rattle.std.proofs.Common.{map, take}
use Rattle.lrc_named_tokens.specs.View.{located_of}
use Rattle.lrc_named_may.proofs.Stopping.{IsReadTo}
use Rattle.lrc_named_may.proofs.first_fault.first_fault_behind.Given as goal

abbrev pub invariant-loop-index : goal.invariant-loop-index
invariant-loop-index l = IsReadTo (map located_of (take l.index l.all)) l.index l.state l.limits
