use Rattle.std.proofs.Common.{map}
use Rattle.lrc_labels.specs.Reading.{label_seen}
use Rattle.lrc_lint_lines.proofs.Grown.{grown_more}
use Rattle.lrc_lint.specs.Linted.{warning_line}
use Rattle.lrc_lint.proofs.told.push_warnings.Goals as goal

pub loop-warning-preserved : goal.loop-warning-preserved
loop-warning-preserved c =
    grown_more (warning_line c.args.file.now (map (λ name. name.now) c.args.names.now) (map label_seen c.args.labels.now)) c.args.warnings.now
    c.loop-warning.warning-index _ _ _ _ c.loop-warning-test.true c.loop-warning.invariant c.in_ok-push_warning.ensures
