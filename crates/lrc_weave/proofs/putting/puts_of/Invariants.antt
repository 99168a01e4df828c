use Rattle.std.proofs.Common.{◌≡◌, take}
use Rattle.lrc_weave.specs.Compared.{puts_by_each, puts_in}
use Rattle.lrc_weave.proofs.putting.puts_of.Given as goal

abbrev pub invariant-loop-wire : goal.invariant-loop-wire
invariant-loop-wire l = puts_in l.puts ≡ puts_by_each l.nodes (take l.wire-index l.history)
