use Rattle.std.proofs.Common.{◌≡◌, ◌++◌}
use Rattle.std.specs.Prelude.{replicate}
use Rattle.std.specs.List.{flat_map, range_with_len}
use Rattle.lrc_chart_text.specs.Columns.{width_of}
use Rattle.lrc_chart_text.proofs.columns.push_rules.Given as goal

abbrev pub invariant-loop-column : goal.invariant-loop-column
invariant-loop-column l =
    l.text.items ≡ l.initial.text.items ++ flat_map (λ column. replicate (width_of l.columns) 61) (range_with_len 0 l._column)
