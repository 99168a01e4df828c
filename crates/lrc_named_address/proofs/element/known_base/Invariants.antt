-- What is left leads to the whole.
use Rattle.std.proofs.Common.{◌≡◌, map, drop}
use Rattle.lrc_named_address.specs.Address.{base_of}
use Rattle.lrc_named_address.specs.View.{index_of}
use Rattle.lrc_named_address.proofs.element.known_base.Given as goal

abbrev pub invariant-loop-index : goal.invariant-loop-index
invariant-loop-index l = base_of l.base (map index_of (drop l.index-index l.indices)) ≡ base_of l.first (map index_of l.indices)
