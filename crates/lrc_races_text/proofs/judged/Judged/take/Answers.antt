-- The event is judged, and told.
use Rattle.std.proofs.Common.{◌∙◌, ◌+◌, ap, arith}
use Rattle.std.proofs.lemmas.Result.{err_from_is_err_and}
use Rattle.lrc_races_text.proofs.JudgedLemmas.{judged_ill, judged_one, telling_as}
use Rattle.lrc_races_text.proofs.judged.Judged.take.Goals as goal

pub returns-clause-ok : goal.returns-clause-ok
returns-clause-ok c = judged_one _ _ _ c.in_ok-event.event _ _ c.in_ok-event.ensures.mentioned c.in_ok-event.ensures.event (omega arith)
    c.in_ok-take.ensures c.in_ok-take-2.ensures c.in_ok-heed.ensures.permitted (c.in_ok-self.ensures.ok ∙ ap (λ n. c.args.self.now.races + n) (c.len.ensures ∙ c.take.new.told.ok.0)) (telling_as c.as_slice.ensures.value c.in_ok-tell.ensures.ok)

pub returns-in_err-heed-clause-ill : goal.returns-in_err-heed-clause-ill
returns-in_err-heed-clause-ill c =
    let p = err_from_is_err_and c.from_residual-in_err-heed.result c.from_residual-in_err-heed.ensures.1 in
    rw (p.1, p.2) (judged_ill {form = c.args.form} {asked = c.args.asked} c.args.self.now _ _ _ c.in_ok-event.event _ c.in_ok-event.ensures.mentioned
    c.in_ok-event.ensures.event (omega arith) c.in_ok-take-2.ensures c.in_err-heed.ensures.ill)
