-- All is told.
use Rattle.std.proofs.Common.{sym, arith}
use Rattle.lrc_races_text.proofs.JudgedLemmas.{told_all, written, status_none, status_some}
use Rattle.lrc_races_text.proofs.judged.Judged.end.Goals as goal

pub returns-then-races-eq0-clause-ok : goal.returns-then-races-eq0-clause-ok
returns-then-races-eq0-clause-ok c = told_all c.args.form c.args.asked c.args.self.now c.list.result.now c.fault.result c.position.result c.args.out.now.items _ 0
    c.position.ensures (written c.args.out.now.items _ _ _ _ _ c.in_ok-extend_from_slice.ensures.items c.as_slice.ensures.value c.in_ok-push_end_lines.ensures c.clear.ensures.items)
    c.list.ensures c.fault.ensures (omega arith) (sym (status_none _ c.if-races-eq0.true))

pub returns-else-races-eq0-clause-ok : goal.returns-else-races-eq0-clause-ok
returns-else-races-eq0-clause-ok c = told_all c.args.form c.args.asked c.args.self.now c.list.result.now c.fault.result c.position.result c.args.out.now.items _ 3
    c.position.ensures (written c.args.out.now.items _ _ _ _ _ c.in_ok-extend_from_slice.ensures.items c.as_slice.ensures.value c.in_ok-push_end_lines.ensures c.clear.ensures.items)
    c.list.ensures c.fault.ensures (omega arith) (sym (status_some _ c.if-races-eq0.false))
