use Rattle.std.proofs.Common.{◌≡◌, map}
use Rattle.lrc_chart_build.specs.Portrait.{column_names}
use Rattle.lrc_chart_build.proofs.portrait.columns_of.Given as goal

-- the columns so far
abbrev pub invariant-loop-node : goal.invariant-loop-node
invariant-loop-node l = map (λ name. name.items) l.columns.items ≡ column_names l.node
