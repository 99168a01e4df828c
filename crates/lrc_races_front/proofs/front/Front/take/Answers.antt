-- Line after line, and what is left of the block.
use Rattle.std.proofs.Common.{sym, true≢false, ◌∙◌}
use Rattle.lrc_races_front.proofs.FrontLemmas.{ends_bad, ends_ok, invariant_more, last_come, line_bad}
use Rattle.lrc_races_front.proofs.front.Front.take.Goals as goal

pub loop-part-preserved : goal.loop-part-preserved
loop-part-preserved g c = invariant_more g.K.Keep.has_kept c.args.self.now _ c.args.block.now _ c.loop-part.invariant c.in-Some.part.now c.in-Some.behind.now _
    c.in-Some.ensures.0 c.in-Some.ensures.1 c.in-Ok.ensures.ok (λ same. true≢false (sym (c.has_come.ensures.1 same) ∙ c.if-has_come.false))

pub returns-then-has_come-clause-ok : goal.returns-then-has_come-clause-ok
returns-then-has_come-clause-ok g c = last_come g.K.Keep.has_kept c.args.self.now _ c.args.block.now _ c.loop-part.invariant c.in-Some.part.now c.in-Some.behind.now _
    c.in-Some.ensures.0 c.in-Some.ensures.1 c.in-Ok.ensures.ok (c.has_come.ensures.0 c.if-has_come.true)

pub returns-in-Err-clause-bad : goal.returns-in-Err-clause-bad
returns-in-Err-clause-bad g c = line_bad g.K.Keep.has_kept c.args.self.now _ c.args.block.now _ c.loop-part.invariant c.in-Some.part.now c.in-Some.behind.now _ _
    c.in-Some.ensures.0 c.in-Some.ensures.1 c.in-Err.ensures.bad

pub returns-clause-ok : goal.returns-clause-ok
returns-clause-ok g c = ends_ok g.K.Keep.has_kept c.args.self.now _ c.args.block.now _ c.loop-part.invariant _ _ c.in_default.ensures c.take_cut.ensures.ok

pub returns-clause-bad : goal.returns-clause-bad
returns-clause-bad g c = ends_bad g.K.Keep.has_kept c.args.self.now _ c.args.block.now _ c.loop-part.invariant _ _ c.in_default.ensures c.take_cut.ensures.bad
