use Rattle.std.proofs.Common.{ℕ, Option, subst}
use Rattle.lrc_why_text.specs.Answers.{RefusesActs}
use Rattle.lrc_why_text.specs.declared.asked.Asked.{Asked}
use Rattle.lrc_cli.specs.Answer.{foreign_nodes}
use Rattle.lrc_cli_answer.proofs.FaultLemmas.{fault_up}
use Rattle.lrc_cli.proofs.AnswerLemmas.{why_fault}
use Rattle.lrc_cli.proofs.reasoned.reasoned.Goals as goal

pub returns-in_err-parts-clause-err : goal.returns-in_err-parts-clause-err
returns-in_err-parts-clause-err c =
    fault_up c.from_residual.result _ _ c.from_residual.ensures.1
    (why_fault c.args.acts.now c.args.asking.now c.args.text.now c.in_err-parts.field-0.0
    (subst (λ (asked : Asked). RefusesActs (foreign_nodes c.args.acts.now) asked c.args.text.now c.in_err-parts.field-0.0) c.asked_of.ensures.value
    (subst (λ (nodes : Option ℕ). RefusesActs nodes c.asked_of.result c.args.text.now c.in_err-parts.field-0.0) c.nodes_of.ensures.value
    c.in_err-parts.ensures.err)))
