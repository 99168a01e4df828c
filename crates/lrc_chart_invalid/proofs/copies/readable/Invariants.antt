use Rattle.std.proofs.Common.{◌≡◌, map}
use Rattle.std.specs.List.{range_with_len}
use Rattle.lrc_protocol.specs.Pages.{copy_at, is_readable}
use Rattle.lrc_chart_invalid.proofs.copies.readable.Given as goal

-- the pages so far
abbrev pub invariant-loop-page : goal.invariant-loop-page
invariant-loop-page l = l.all.items ≡ map (λ page. is_readable (copy_at l.memory.memory page)) (range_with_len 0 l.page)
