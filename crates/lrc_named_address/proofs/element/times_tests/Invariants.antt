-- What is left to come makes the whole of what has come.
use Rattle.std.proofs.Common.{◌≡◌, map, drop}
use Rattle.lrc_named_core.specs.View.{expression_of}
use Rattle.lrc_named_address.specs.Address.{times_tests}
use Rattle.lrc_named_address.specs.View.{index_of}
use Rattle.lrc_named_address.proofs.element.times_tests.Given as goal

abbrev pub invariant-loop-index : goal.invariant-loop-index
invariant-loop-index l =
    times_tests (expression_of l.product) (map index_of (drop l.index-index l.indices)) ≡ times_tests (expression_of l.initial.product) (map index_of l.indices)
