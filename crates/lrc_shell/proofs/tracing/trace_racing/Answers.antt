-- What is told of the trace, and what says more of a file that could not be read.
use Rattle.lrc_shell_more.specs.More.{unread_seen}
use Rattle.lrc_shell_more.proofs.MoreLemmas.{named}
use Rattle.lrc_shell.proofs.tracing.trace_racing.Goals as goal

pub returns : goal.returns
returns g c = record {
  between = g.E.Write.contents c.tell_racing-status.new.err;
  tells = c.tell_racing-status.ensures;
  unread = unread_seen c.unread.result;
  named = named c.unread.result c.args.racing.now.file.now c.args.racing.now.file.now c.unread.ensures;
  behind = c.tell_unread.ensures;
}
