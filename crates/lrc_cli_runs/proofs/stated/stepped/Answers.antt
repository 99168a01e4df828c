use Rattle.std.proofs.Common.{◌<◌, ◌∙◌, ℕ, All, List, ap, subst, sym}
use Rattle.lrc_trace.specs.declared.act.Act.{Act}
use Rattle.lrc_judge.specs.Order.{IsOrderOf}
use Rattle.lrc_text.specs.Parts.{whole_text}
use Rattle.lrc_source.specs.Telling.{shown_text}
use Rattle.lrc_step.specs.EndLines.{TellsEnds}
use Rattle.lrc_step.specs.Lines.{document, run_lines}
use Rattle.lrc_cli_runs.specs.Stated.{IsStatesFault, name_of}
use Rattle.lrc_cli_answer.proofs.FaultLemmas.{fault_up}
use Rattle.lrc_cli_runs.proofs.RunLemmas.{acts_of_few}
use Rattle.lrc_cli_runs.proofs.stated.stepped.Goals as goal

pub happens_before-requires : goal.happens_before-requires
happens_before-requires c =
    subst (λ (acts : List Act). All (λ act. act.node < 16) acts) (sym c.deref.ensures.value)
    (acts_of_few c.args.source.now.program c.args.options.now c.requires.ran.0 c.args.run.now c.requires.ran.1)

pub explained_text-requires-clause-order : goal.explained_text-requires-clause-order
explained_text-requires-clause-order c =
    subst (λ (acts : List Act). IsOrderOf acts c.in_ok-order.order) c.deref.ensures.value c.in_ok-order.ensures

pub races_text-requires-clause-order : goal.races_text-requires-clause-order
races_text-requires-clause-order c =
    subst (λ (acts : List Act). IsOrderOf acts c.in_ok-order.order) c.deref.ensures.value c.in_ok-order.ensures

pub reasons_text-requires-clause-order : goal.reasons_text-requires-clause-order
reasons_text-requires-clause-order c =
    subst (λ (acts : List Act). IsOrderOf acts c.in_ok-order.order) c.deref.ensures.value c.in_ok-order.ensures

pub returns-in_err-states-clause-err : goal.returns-in_err-states-clause-err
returns-in_err-states-clause-err c =
    fault_up c.from_residual.result c.in_err-states.field-0.0
    (IsStatesFault c.args.part c.args.source.now.text c.args.source.now.program c.args.options.now c.args.run.now)
    c.from_residual.ensures.1 c.in_err-states.ensures.err

pub returns-clause-ok : goal.returns-clause-ok
returns-clause-ok c =
    let text = c.args.source.now.text in
    let program = c.args.source.now.program in
    let options = c.args.options.now in
    let acts = c.args.run.now.report.acts.items in
    let ends = c.in_ok-ends.ends.items in
    let races = c.in_ok-races.races.items in
    let reasons = c.in_ok-reasons.reasons.items in
    record {
      states = whole_text c.in_ok-states.states.items;
      are_states = c.in_ok-states.ensures.ok;
      explained = c.in_ok-explained.explained.items;
      is_explained = c.in_ok-explained.ensures;
      ends = ends;
      tells_ends = subst (λ (explained : List ℕ). TellsEnds text program options.nodes.count options.steps.count acts explained ends) c.deref-2.ensures.value
          c.in_ok-ends.ensures;
      lines = c.in_ok-races.ensures.0;
      are_lines = c.in_ok-races.ensures.1;
      races = races;
      tells_races = c.in_ok-races.ensures.2;
      reasons = reasons;
      tells_whys = c.in_ok-reasons.ensures;
      whole =
          c.in_ok-document.ensures
          ∙ ap (λ (shown : List ℕ). document (run_lines c.deref-3.result.now shown (whole_text c.in_ok-states.states.items) ends races reasons))
          (c.shown-text.ensures ∙ ap shown_text c.text.ensures)
          ∙ ap (λ (name : List ℕ). document (run_lines name (shown_text text) (whole_text c.in_ok-states.states.items) ends races reasons))
          (c.deref-3.ensures.value ∙ c.in_ok-name.ensures ∙ ap name_of c.as_bytes.ensures.value);
    }
