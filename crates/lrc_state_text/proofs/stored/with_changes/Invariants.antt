-- What was added so far.
use Rattle.std.proofs.Common.{◌≡◌, take}
use Rattle.std.specs.Prelude.{filter_map}
use Rattle.lrc_state_text.specs.Intervals.{page_changes}
use Rattle.lrc_state_text.proofs.stored.with_changes.Given as goal

abbrev pub invariant-loop-page : goal.invariant-loop-page
invariant-loop-page l = l.changes.items ≡ filter_map (page_changes l.memory.memory l.fn.interval) (take l.page-index l.page-items)
