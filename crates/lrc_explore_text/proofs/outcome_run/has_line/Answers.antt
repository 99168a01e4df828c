use Rattle.std.proofs.Common.{◌∙◌, sym, ap}
use Rattle.lrc_explore_text.specs.Outcomes.{outcome_line}
use Rattle.lrc_explore_text.proofs.outcome_run.has_line.Goals as goal

pub returns : goal.returns
returns c =
    let text = c.deref-2.ensures.value ∙ c.in_ok-own.ensures ∙ ap (outcome_line c.args.nodes) c.deref.ensures.value in
    (λ holds. sym text ∙ c.is_same.ensures.0 holds, λ equal. c.is_same.ensures.1 (text ∙ equal))
