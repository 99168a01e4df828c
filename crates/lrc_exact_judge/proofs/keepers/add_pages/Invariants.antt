use Rattle.std.proofs.Common.{take}
use Rattle.lrc_exact_copies.specs.Made.{has}
use Rattle.lrc_exact_judge.specs.Keepers.{AddsKeeper}
use Rattle.lrc_exact_judge.proofs.keepers.add_pages.Given as goal

-- the pages so far are added
abbrev pub invariant-loop-page : goal.invariant-loop-page
invariant-loop-page l = AddsKeeper l.node (has (take l.page-index l.pages)) l.initial.keepers l.keepers
