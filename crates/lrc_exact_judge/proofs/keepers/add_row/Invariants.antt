use Rattle.std.proofs.Common.{◌≡◌, ◌≤◌}
use Rattle.lrc_exact.specs.Rule.{names_between}
use Rattle.lrc_exact_copies.specs.Made.{in_row}
use Rattle.lrc_exact_judge.specs.Keepers.{AddsKeeper}
use Rattle.lrc_exact_judge.proofs.keepers.add_row.Given as goal

-- the pages of the intervals so far are added
abbrev pub invariant-loop-index : goal.invariant-loop-index
invariant-loop-index l =
    (l.last ≤ l.first → l.index ≡ l.first)
    × AddsKeeper l.node (λ page. names_between (in_row l.row) page l.first l.index) l.initial.keepers l.keepers
