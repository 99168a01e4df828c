-- Those so far.
use Rattle.std.proofs.Common.{◌≡◌, map, take, filter}
use Rattle.lrc_named_address.specs.Address.{is_open}
use Rattle.lrc_named_address.specs.View.{index_of}
use Rattle.lrc_named_address.proofs.element.open_ones.Given as goal

abbrev pub invariant-loop-index : goal.invariant-loop-index
invariant-loop-index l = map index_of l.all.items ≡ filter is_open (map index_of (take l.index-index l.indices))
