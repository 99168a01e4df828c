-- The numbers of the threads so far are mixed.
use Rattle.std.proofs.Common.{◌≡◌, fold, take}
use Rattle.lrc_lazy_search.specs.RowHash.{mixed_number}
use Rattle.lrc_lazy_search.proofs.found.mixed_row.Given as goal

abbrev pub invariant-loop-number : goal.invariant-loop-number
invariant-loop-number l = l.all ≡ fold mixed_number 0 (take l.number-index l.row.threads)
