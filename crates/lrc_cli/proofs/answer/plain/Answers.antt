use Rattle.std.proofs.Common.{◌∙◌, ℕ, List, ap, inl, subst}
use Rattle.lrc_program.specs.declared.Program.{Program}
use Rattle.lrc_setting.specs.declared.setting.Nodes.{Nodes}
use Rattle.lrc_text.specs.Parts.{whole_text}
use Rattle.lrc_cli_answer.specs.Texts.{IsTextFault, IsTextOf}
use Rattle.lrc_cli_answer.proofs.FaultLemmas.{fault_up, text_fault}
use Rattle.lrc_cli.specs.Answer.{IsPrintoutOfRounds}
use Rattle.lrc_cli.specs.Reading.{nodes_for}
use Rattle.lrc_cli.proofs.ReadingLemmas.{faulty_as_read, holds_as_read}
use Rattle.lrc_cli.proofs.answer.plain.Goals as goal

pub returns-in_err-reading-clause-err : goal.returns-in_err-reading-clause-err
returns-in_err-reading-clause-err c =
    fault_up c.from_residual.result _ _ c.from_residual.ensures.1 (inl c.in_err-reading.ensures.err)

pub returns-in_err-program-clause-err : goal.returns-in_err-program-clause-err
returns-in_err-program-clause-err c =
    fault_up c.from_residual-in_err-program.result _ _ c.from_residual-in_err-program.ensures.1
    (faulty_as_read c.args.text.now _ _ c.text-core.result.now _ (λ nodes core. IsTextFault core _) c.in_ok-reading.ensures.ok c.text-core.ensures
    (text_fault c.text-core.result.now c.in_err-program.field-0.0 c.in_err-program.ensures.fault))

pub returns-clause-ok : goal.returns-clause-ok
returns-clause-ok c =
    let run = c.args.run.now in
    let out : List ℕ = whole_text c.in_ok-in_rounds.field-0.parts.items in
    let status : ℕ = c.in_ok-in_rounds.field-0.status in
    holds_as_read c.args.text.now _ _ c.text-core.result.now
    (λ asked core. (program : Program) × IsTextOf core program
    × IsPrintoutOfRounds program (nodes_for run.nodes_given run.nodes asked).count run.steps.count out status) c.in_ok-reading.ensures.ok c.text-core.ensures (
      c.in_ok-program.program,
      c.in_ok-program.ensures.program,
      subst (λ (nodes : Nodes). IsPrintoutOfRounds c.in_ok-program.program nodes.count run.steps.count out status)
          (c.nodes_for-nodes.ensures ∙ ap (nodes_for run.nodes_given run.nodes) c.nodes.ensures) c.in_ok-in_rounds.ensures,
    )
