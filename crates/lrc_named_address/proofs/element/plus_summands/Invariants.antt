-- What is left to come makes the whole of what has come.
use Rattle.std.proofs.Common.{◌≡◌, map, drop}
use Rattle.lrc_named_core.specs.View.{expression_of}
use Rattle.lrc_named_address.specs.Address.{plus_summands}
use Rattle.lrc_named_address.specs.View.{index_of}
use Rattle.lrc_named_address.proofs.element.plus_summands.Given as goal

abbrev pub invariant-loop-index : goal.invariant-loop-index
invariant-loop-index l =
    plus_summands (expression_of l.sum) (map index_of (drop l.index-index l.indices)) ≡ plus_summands (expression_of l.initial.sum) (map index_of l.indices)
