use Rattle.std.proofs.Common.{◌≡◌, ◌<◌, ◌∙◌, ℕ, All, List, Vec, Global, ap, subst, sym}
use Rattle.std.proofs.lemmas.Result.{IfOk-weaker}
use Rattle.lrc_trace.specs.declared.act.Act.{Act}
use Rattle.lrc_judge.specs.Order.{IsOrderOf}
use Rattle.lrc_text.specs.Parts.{whole_text}
use Rattle.lrc_cli_runs.specs.Explained.{IsExplained}
use Rattle.lrc_cli_runs.proofs.RunLemmas.{acts_of_few}
use Rattle.lrc_cli_runs.proofs.StatedLemmas.{explained_so}
use Rattle.lrc_cli_runs.proofs.stated.explained_text.Goals as goal

pub explained-requires-clause-order : goal.explained-requires-clause-order
explained-requires-clause-order c =
    subst (λ (acts : List Act). IsOrderOf acts c.args.order.now) (sym c.as_slice-acts.ensures.value) c.requires.order

pub explained-requires-clause-nodes : goal.explained-requires-clause-nodes
explained-requires-clause-nodes c =
    subst (λ (acts : List Act). All (λ act. act.node < 16) acts) (sym c.as_slice-acts.ensures.value)
    (acts_of_few c.args.source.now.program c.args.options.now c.requires.ran.0 c.args.run.now c.requires.ran.1)

pub returns : goal.returns
returns c =
    let text = c.args.source.now.text in
    let program = c.args.source.now.program in
    let options = c.args.options.now in
    let report = c.args.run.now.report in
    IfOk-weaker c.joined.result (λ (told : Vec ℕ Global). told.items ≡ whole_text c.deref.result.now)
    (λ (told : Vec ℕ Global). IsExplained text program options report.acts.items report.first_race told.items)
    (λ told whole.
    explained_so text program options report.acts.items c.as_slice-acts.result.now report.first_race (whole_text c.in_ok-parts.parts.items) told.items
    c.as_slice-acts.ensures.value (whole ∙ ap whole_text c.deref.ensures.value) c.in_ok-parts.ensures)
    c.joined.ensures
