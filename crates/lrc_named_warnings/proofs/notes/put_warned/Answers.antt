use Rattle.lrc_lint_lines.proofs.Grown.{grown_more}
use Rattle.lrc_named_warnings.specs.Context.{context_seen}
use Rattle.lrc_named_warnings.specs.Notes.{warned_notes}
use Rattle.lrc_named_warnings.proofs.notes.put_warned.Goals as goal

pub loop-warning-preserved : goal.loop-warning-preserved
loop-warning-preserved c =
    grown_more (warned_notes (context_seen c.args.context.now)) c.args.warned.now c.loop-warning.warning-index _ _ _ _ c.loop-warning-test.true
    c.loop-warning.invariant c.in_ok-put_warning.ensures
