use Rattle.lrc_named_expected.specs.Expected.{single_phrase}
use Rattle.lrc_lint_lines.proofs.Grown.{grown_more}
use Rattle.lrc_named_expected.proofs.expected.add_singles.Goals as goal

pub loop-kind-preserved : goal.loop-kind-preserved
loop-kind-preserved c =
    grown_more (single_phrase c.args.kinds.now) c.args.all.now c.loop-kind.kind-index _ _ _ _ c.loop-kind-test.true c.loop-kind.invariant
    c.in_ok-add_single.ensures
