-- The lines of the warnings so far were added.
use Rattle.std.proofs.Common.{◌≡◌, ◌++◌, map, take}
use Rattle.std.specs.List.{flat_map}
use Rattle.lrc_labels.specs.Reading.{label_seen}
use Rattle.lrc_lint.specs.Linted.{warning_line}
use Rattle.lrc_lint.proofs.told.push_warnings.Given as goal

abbrev pub invariant-loop-warning : goal.invariant-loop-warning
invariant-loop-warning l =
    l.out.items
    ≡ l.fn.out.items ++ flat_map (warning_line l.file (map (λ name. name.now) l.names) (map label_seen l.labels)) (take l.warning-index l.warnings)
