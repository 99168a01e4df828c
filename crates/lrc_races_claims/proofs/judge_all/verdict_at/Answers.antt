-- It was kept, or is judged now.
use Rattle.std.proofs.Common.{◌<◌, length, sym, subst, ◌∙◌, ap, arith}
use Rattle.std.specs.Prelude.{Some}
use Rattle.std.proofs.lemmas.Option.{slice_get-get_or, same_Some}
use Rattle.std.proofs.lemmas.Result.{IfOk-weaker}
use Rattle.lrc_races_score.specs.Claims.{statement_of}
use Rattle.lrc_races_score.specs.declared.report.LinedClaim.{LinedClaim}
use Rattle.lrc_races_claims.specs.Truth.{IsJudged}
use Rattle.lrc_races_claims.proofs.judge_all.verdict_at.Goals as goal

pub returns-in-Some-clause-judged : goal.returns-in-Some-clause-judged
returns-in-Some-clause-judged c = λ sought naming last claim at is slots.
    let within : c.args.place < length c.args.slots.now = omega arith in
    slots.each c.args.place claim c.in-Some.verdict at (slice_get-get_or c.args.slots.now c.args.place _ within ∙ ap Some c.in-Some.is)

pub returns-in-None-clause-judged : goal.returns-in-None-clause-judged
returns-in-None-clause-judged c =
    IfOk-weaker c.claim.result _ _ (λ verdict says sought naming last claim at is slots.
    subst (λ (l : LinedClaim). IsJudged sought naming c.args.events.now last (statement_of l.claim) verdict)
    (same_Some _ claim (sym (slice_get-get_or c.args.claims.now c.args.place _ c.requires.within) ∙ at)) (says sought naming last is)) c.claim.ensures.judged
