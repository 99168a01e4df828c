use Rattle.std.proofs.Common.{map}
use Rattle.lrc_lint_warned.specs.Found.{node_seen, statement_seen}
use Rattle.lrc_lint_warned.specs.Names.{never_set_of}
use Rattle.lrc_lint_warned.proofs.Lists.{count_more}
use Rattle.lrc_lint_warned.proofs.names.never_set_below.Goals as goal

pub loop-name-preserved : goal.loop-name-preserved
loop-name-preserved c =
    count_more (never_set_of (map node_seen c.args.nodes.now) (map statement_seen c.args.statements.now)) c.loop-name.name _ _ _ c.loop-name.invariant c.in_ok-never_set_of.ensures
