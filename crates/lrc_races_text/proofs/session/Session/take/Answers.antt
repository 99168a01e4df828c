-- Line after line, and what is left of the block.
use Rattle.lrc_races_text.proofs.SessionLemmas.{invariant_more, ends_ok, ends_bad, line_bad}
use Rattle.lrc_races_text.proofs.session.Session.take.Goals as goal

pub loop-part-preserved : goal.loop-part-preserved
loop-part-preserved c = invariant_more c.args.self.now _ c.args.block.now _ c.args.out.now.items _ c.loop-part.invariant c.in-Some.part.now
    c.in-Some.behind.now _ _ c.in-Some.ensures.0 c.in-Some.ensures.1 c.in-Ok.ensures.ok

pub returns-in-Err-clause-bad : goal.returns-in-Err-clause-bad
returns-in-Err-clause-bad c = line_bad c.args.self.now _ c.args.block.now _ c.args.out.now.items _ c.loop-part.invariant c.in-Some.part.now
    c.in-Some.behind.now _ _ c.in-Some.ensures.0 c.in-Some.ensures.1 c.in-Err.ensures.kept c.in-Err.ensures.bad c.in-Err.ensures.ill

pub returns-clause-ok : goal.returns-clause-ok
returns-clause-ok c = ends_ok c.args.self.now _ c.args.block.now _ c.args.out.now.items _ c.loop-part.invariant _ _ c.in_default.ensures c.keep.ensures.ok

pub returns-clause-bad : goal.returns-clause-bad
returns-clause-bad c = ends_bad c.args.self.now _ c.args.block.now _ c.args.out.now.items _ c.loop-part.invariant _ c.in_default.ensures c.keep.ensures.ill c.keep.ensures.bad
