use Rattle.std.proofs.Common.{map, take}
use Rattle.lrc_lang.specs.FirstFault.{placed}
use Rattle.lrc_lang.specs.Parser.Located.{located_of}
use Rattle.lrc_lang.proofs.Stopping.{IsReadTo}
use Rattle.lrc_lang.proofs.first_fault.first_fault_behind.Given as goal

abbrev pub invariant-loop-index : goal.invariant-loop-index
invariant-loop-index l = IsReadTo (map placed (map located_of (take l.index l.all))) l.state l.limits
