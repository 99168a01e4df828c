-- What was added so far.
use Rattle.std.proofs.Common.{◌≡◌, not}
use Rattle.std.specs.Prelude.{filter}
use Rattle.std.specs.List.{range_with_len}
use Rattle.lrc_state_text.specs.Copies.{is_at_start}
use Rattle.lrc_state_text.proofs.copies.pages_shown.Given as goal

abbrev pub invariant-loop-page : goal.invariant-loop-page
invariant-loop-page l = l.shown.items ≡ filter (λ page. not (is_at_start l.memory.memory page)) (range_with_len 0 l.page)
