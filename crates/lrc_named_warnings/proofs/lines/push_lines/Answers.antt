use Rattle.lrc_lint_warned.proofs.Lists.{flat_more}
use Rattle.lrc_named_warnings.specs.Lines.{line_text}
use Rattle.lrc_named_warnings.specs.Seen.{line_seen}
use Rattle.lrc_named_warnings.proofs.lines.push_lines.Goals as goal

pub loop-line-preserved : goal.loop-line-preserved
loop-line-preserved c =
    flat_more (line_text c.args.file.now) (λ line. line_seen line.now) c.args.lines.now c.loop-line.line-index c.line-item.result c.args.out.now.items _ _
    c.loop-line-test.true c.line-item.is c.loop-line.invariant c.in_ok-push_line.ensures
