-- What was added so far.
use Rattle.std.proofs.Common.{◌≡◌, take}
use Rattle.lrc_state_text.proofs.intervals.numbers_of.Given as goal

abbrev pub invariant-loop-page : goal.invariant-loop-page
invariant-loop-page l = l.numbers.items ≡ take l.page-index l.page-items
