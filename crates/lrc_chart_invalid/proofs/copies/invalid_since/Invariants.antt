use Rattle.std.proofs.Common.{◌≡◌, false}
use Rattle.std.specs.Prelude.{◌&&◌, filter, slice_index_or}
use Rattle.std.specs.List.{range_with_len}
use Rattle.lrc_protocol.specs.Pages.{copy_at}
use Rattle.lrc_chart_invalid.specs.Invalidated.{is_invalid}
use Rattle.lrc_chart_invalid.proofs.copies.invalid_since.Given as goal

-- the pages so far
abbrev pub invariant-loop-page : goal.invariant-loop-page
invariant-loop-page l =
    l.found.items ≡ filter (λ page. slice_index_or l.before page false && is_invalid (copy_at l.memory.memory page)) (range_with_len 0 l.page)
