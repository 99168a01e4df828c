use Rattle.std.proofs.Common.{◌≡◌, ◌++◌, ◌∙◌, List, ap}
use Rattle.std.proofs.lemmas.Result.{IfOk-weaker}
use Rattle.lrc_text.specs.Parts.{whole_text}
use Rattle.lrc_lazy_text.specs.declared.listed.ToldOutcome.{ToldOutcome}
use Rattle.lrc_lazy_text.specs.Listed.{marked_lines}
use Rattle.lrc_exact_text.specs.Listed.{ListsExactOutcomes}
use Rattle.lrc_exact_text.proofs.Telling.{listed}
use Rattle.lrc_exact_text.proofs.listed.outcomes_listed.Goals as goal

pub returns : goal.returns
returns c =
    let nodes = c.args.nodes in
    let outcomes = c.args.outcomes.now in
    let seeds = c.args.seeds.now in
    let told = c.in_ok-told.told.items in
    let head = c.in_ok-head.head.items in
    IfOk-weaker c.all_lines.result (λ parts. whole_text parts.items ≡ head ++ marked_lines c.deref.result.now)
    (λ parts. ListsExactOutcomes nodes outcomes seeds (whole_text parts.items))
    (λ parts whole. listed nodes outcomes seeds told head (whole_text parts.items) c.in_ok-told.ensures c.in_ok-head.ensures
    (whole ∙ ap (λ (l : List ToldOutcome). head ++ marked_lines l) c.deref.ensures.value)) c.all_lines.ensures
