use Rattle.std.proofs.Common.{◌≡◌, ◌++◌, take}
use Rattle.lrc_chart_build.specs.Waits.{listed}
use Rattle.lrc_chart_build.proofs.pages.push_pages.Given as goal

-- the pages so far
abbrev pub invariant-loop-page : goal.invariant-loop-page
invariant-loop-page l = l.text.items ≡ l.initial.text.items ++ listed (take l.page-index l.pages)
