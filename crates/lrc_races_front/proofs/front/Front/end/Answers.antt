-- The last line, where it has no line feed.
use Rattle.std.proofs.Common.{sym, true≢false, ◌∙◌}
use Rattle.lrc_races_front.proofs.FrontLemmas.{end_bad, ended_before, ended_with}
use Rattle.lrc_races_front.proofs.front.Front.end.Goals as goal

pub returns-then-is_between-clause-ok : goal.returns-then-is_between-clause-ok
returns-then-is_between-clause-ok g c = ended_before g.K.Keep.has_kept c.args.self.now (c.is_between.ensures.0 c.if-is_between.true)

pub returns-in-Ok-clause-ok : goal.returns-in-Ok-clause-ok
returns-in-Ok-clause-ok g c = ended_with g.K.Keep.has_kept c.args.self.now _ c.has_come.result
    (λ none. true≢false (sym (c.is_between.ensures.1 none) ∙ c.if-is_between.false)) c.in-Ok.ensures.ok (λ come. c.has_come.ensures.0 come)
    (λ before same. true≢false (sym (c.has_come.ensures.1 same) ∙ before))

pub returns-in-Err-clause-bad : goal.returns-in-Err-clause-bad
returns-in-Err-clause-bad g c = end_bad g.K.Keep.has_kept c.args.self.now _ _ (λ none. true≢false (sym (c.is_between.ensures.1 none) ∙ c.if-is_between.false))
    c.in-Err.ensures.bad
