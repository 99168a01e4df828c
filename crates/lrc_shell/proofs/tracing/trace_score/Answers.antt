-- What is told of the trace, and what says more of a file that could not be read.
use Rattle.lrc_shell_more.specs.More.{unread_seen}
use Rattle.lrc_shell_more.proofs.MoreLemmas.{named}
use Rattle.lrc_shell.proofs.tracing.trace_score.Goals as goal

pub returns : goal.returns
returns g c = record {
  between = g.E.Write.contents c.tell_score-status.new.err;
  tells = c.tell_score-status.ensures;
  unread = unread_seen c.unread.result;
  named = named c.unread.result c.args.scoring.now.file.now c.args.scoring.now.report.now c.unread.ensures;
  behind = c.tell_unread.ensures;
}
