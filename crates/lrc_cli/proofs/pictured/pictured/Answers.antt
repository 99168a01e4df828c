use Rattle.std.proofs.Common.{◌∙◌, ℕ, List, Option, refl, subst, sym}
use Rattle.lrc_chart_acts.specs.Picture.{IsActsPortrait, IsActsPortraitFault}
use Rattle.lrc_chart_build.specs.declared.part.Part.{Part}
use Rattle.lrc_chart_title.specs.Title.{title_text_of_acts}
use Rattle.lrc_cli.specs.Answer.{charted_nodes}
use Rattle.lrc_cli_runs.specs.Charted.{IsDrawn}
use Rattle.lrc_cli_answer.proofs.FaultLemmas.{fault_up}
use Rattle.lrc_cli.proofs.AnswerLemmas.{acts_chart_fault}
use Rattle.lrc_cli.proofs.pictured.pictured.Goals as goal

pub returns-in_err-picture-clause-err : goal.returns-in_err-picture-clause-err
returns-in_err-picture-clause-err c =
    let fault = c.in_err-picture.field-0.0 in
    let text = c.args.text.now in
    fault_up c.from_residual-in_err-picture.result _ _ c.from_residual-in_err-picture.ensures.1
    (acts_chart_fault c.args.acts.now c.args.charting.now text fault
    (subst (λ (part : Part). IsActsPortraitFault (charted_nodes c.args.acts.now) text part fault) c.part_of.ensures
    (subst (λ (nodes : Option ℕ). IsActsPortraitFault nodes text c.part_of.result fault) c.nodes_of-nodes.ensures.value
    c.in_err-picture.ensures.err)))

pub returns-clause-ok : goal.returns-clause-ok
returns-clause-ok c =
    let picture = c.in_ok-picture.picture in
    let text = c.args.text.now in
    record {
      picture = picture;
      portrait =
          subst (λ (part : Part). IsActsPortrait (title_text_of_acts c.args.acts.now c.args.charting.now) (charted_nodes c.args.acts.now) text part picture)
          c.part_of.ensures
          (subst (λ (nodes : Option ℕ). IsActsPortrait (title_text_of_acts c.args.acts.now c.args.charting.now) nodes text c.part_of.result picture)
          c.nodes_of-nodes.ensures.value
          (subst (λ (title : List ℕ). IsActsPortrait title c.nodes_of-nodes.result text c.part_of.result picture)
          (c.deref.ensures.value ∙ c.in_ok-title.ensures) c.in_ok-picture.ensures.ok));
      drawn = subst (λ (out : List ℕ). IsDrawn c.args.charting.now.text picture out) (sym c.in_ok-parts.ensures) c.in_ok-part.ensures;
      ended = refl;
    }
