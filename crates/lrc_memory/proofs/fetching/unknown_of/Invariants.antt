use Rattle.std.proofs.Common.{◌≡◌, take}
use Rattle.lrc_protocol.specs.Pages.{unknown_of}
use Rattle.lrc_memory.proofs.fetching.unknown_of.Given as goal

abbrev pub invariant-loop-key : goal.invariant-loop-key
invariant-loop-key l = l.unknown.items ≡ unknown_of l.store (take l.key-index l.keys)
