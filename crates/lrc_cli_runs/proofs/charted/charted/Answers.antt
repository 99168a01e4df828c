use Rattle.std.proofs.Common.{◌∙◌, ◌<◌, ℕ, All, List, Option, ap, ap₂, map, sym, subst}
use Rattle.std.specs.Prelude.{Vec}
use Rattle.std.specs.declared.alloc.Global.{Global}
use Rattle.lrc_chart_invalid.proofs.Finding.{pages_in}
use Rattle.lrc_judge.specs.FirstPairs.{AreFirstPairs}
use Rattle.lrc_judge.specs.declared.lanes.Pair.{Pair}
use Rattle.lrc_labels.specs.Reading.{label_seen}
use Rattle.lrc_program.specs.declared.Program.{Program}
use Rattle.lrc_cli_answer.specs.Labels.{labels_in}
use Rattle.lrc_trace.specs.declared.act.Act.{Act}
use Rattle.lrc_chart_build.specs.Course.{CourseRecord}
use Rattle.lrc_timeline.specs.Timeline.{times_in}
use Rattle.lrc_turns_text.specs.Turns.{turns_told}
use Rattle.lrc_cli_args.specs.declared.choice.Shape.TheVariants.{Chart}
use Rattle.lrc_chart_title.specs.Title.{title_text}
use Rattle.lrc_source.specs.Telling.{ReadText, shown_text}
use Rattle.lrc_world.specs.declared.keep.Keep.TheVariants.{All as Whole}
use Rattle.lrc_cli_runs.specs.Charted.{AreInvalidIn, AreWaitsIn, IsChart, IsCourse}
use Rattle.lrc_cli_runs.specs.Lines.{AreLinesIn}
use Rattle.lrc_cli_runs.specs.Shown.{IsShowFault}
use Rattle.lrc_cli_answer.proofs.FaultLemmas.{fault_up}
use Rattle.lrc_cli_runs.proofs.CourseLemmas.{chart_unshown, course_of_run}
use Rattle.lrc_cli_runs.proofs.RunLemmas.{acts_of_few, statements_of, times_of}
use Rattle.lrc_cli_runs.proofs.charted.charted.Goals as goal

pub pairs_of-requires : goal.pairs_of-requires
pairs_of-requires c =
    subst (λ (acts : List Act). All (λ act. act.node < 16) acts) (sym c.as_slice-acts.ensures.value)
    (acts_of_few c.args.source.now.program c.args.choice.now.options Whole c.args.run.now c.requires)

pub returns-in_err-part-clause-err : goal.returns-in_err-part-clause-err
returns-in_err-part-clause-err c =
    let options = c.args.choice.now.options in
    let acts = c.as_slice-acts.result.now in
    let known = course_of_run c.args.source.now.text c.args.source.now.program options c.args.run.now
    c.as_slice-turns.result.now (pages_in c.as_slice-invalid.result.now) acts c.as_slice-lines.result.now (times_in c.args.run.now.origins.times) c.as_slice-pairs.result.now (map label_seen c.as_slice-labels.result.now) c.as_slice-waits.result.now
    (c.as_slice-turns.ensures.value ∙ c.in_ok-made.ensures ∙ ap (λ logs. turns_told (map (λ log. log.items) logs) c.deref-3.result.now) c.deref-2.ensures.value
    ∙ ap (turns_told (map (λ log. log.items) c.args.run.now.report.logs.items))
    (c.deref-3.ensures.value ∙ c.in_ok-order.ensures c.args.source.now.program options c.requires))
    (subst (λ (pages : List (Vec ℕ Global)). AreInvalidIn c.args.source.now.program options c.args.run.now.events.items (pages_in pages))
    (sym c.as_slice-invalid.ensures.value) c.in_ok-pages.ensures)
    c.as_slice-acts.ensures.value
    (subst (λ (lines : List ℕ). AreLinesIn c.args.source.now.text c.args.source.now.program options.nodes.count acts lines) (sym c.as_slice-lines.ensures.value)
    (c.in_ok-places.ensures.lines options.nodes.count acts
    (statements_of c.args.source.now.program options c.args.run.now acts c.requires c.as_slice-acts.ensures.value c.deref.result.now c.deref.ensures.value)))
    (times_of c.args.source.now.program options c.args.run.now acts c.requires c.as_slice-acts.ensures.value)
    (subst (λ (pairs : List Pair). AreFirstPairs acts pairs) (sym c.as_slice-pairs.ensures.value) c.in_ok-found.ensures)
    (ap (map label_seen) c.as_slice-labels.ensures.value ∙ c.in_ok-labelling.ensures.said
    ∙ ap₂ (λ (program : Program) (text : List ℕ). labels_in text program) c.program-program.ensures.program
    (c.as_slice-copied.ensures.value ∙ c.in_ok-bytes.ensures.items ∙ c.core.ensures ∙ ap (λ (text : ReadText). text.core) c.text-read.ensures))
    (subst (λ (waits : List (Option ℕ)). AreWaitsIn c.args.source.now.text c.args.source.now.program options acts waits) (sym c.as_slice-waits.ensures.value)
    c.in_ok-standing.ensures) in
    fault_up c.from_residual-in_err-part.result c.in_err-part.field-0.0
    (IsShowFault (Chart c.args.charting) c.args.choice.now c.args.source.now.text c.args.source.now.program c.args.run.now)
    c.from_residual-in_err-part.ensures.1
    (chart_unshown c.args.charting c.args.choice.now c.args.source.now.text c.args.source.now.program c.args.run.now
    _ c.in_err-part.field-0.0 known c.in_err-part.ensures.err)

pub returns-clause-ok : goal.returns-clause-ok
returns-clause-ok c =
    let options = c.args.choice.now.options in
    let acts = c.as_slice-acts.result.now in
    let labels = map label_seen c.as_slice-labels.result.now in
    let course : CourseRecord = record {
      turns = c.as_slice-turns.result.now;
      invalid = pages_in c.as_slice-invalid.result.now;
      known = record { acts = acts; lines = c.as_slice-lines.result.now; times = (times_in c.args.run.now.origins.times); pairs = c.as_slice-pairs.result.now; labels = labels };
      waits = c.as_slice-waits.result.now;
    } in
    let known : IsCourse c.args.source.now.text c.args.source.now.program options c.args.run.now course =
    course_of_run c.args.source.now.text c.args.source.now.program options c.args.run.now
    c.as_slice-turns.result.now (pages_in c.as_slice-invalid.result.now) acts c.as_slice-lines.result.now (times_in c.args.run.now.origins.times) c.as_slice-pairs.result.now labels c.as_slice-waits.result.now
    (c.as_slice-turns.ensures.value ∙ c.in_ok-made.ensures ∙ ap (λ logs. turns_told (map (λ log. log.items) logs) c.deref-3.result.now) c.deref-2.ensures.value
    ∙ ap (turns_told (map (λ log. log.items) c.args.run.now.report.logs.items))
    (c.deref-3.ensures.value ∙ c.in_ok-order.ensures c.args.source.now.program options c.requires))
    (subst (λ (pages : List (Vec ℕ Global)). AreInvalidIn c.args.source.now.program options c.args.run.now.events.items (pages_in pages))
    (sym c.as_slice-invalid.ensures.value) c.in_ok-pages.ensures)
    c.as_slice-acts.ensures.value
    (subst (λ (lines : List ℕ). AreLinesIn c.args.source.now.text c.args.source.now.program options.nodes.count acts lines) (sym c.as_slice-lines.ensures.value)
    (c.in_ok-places.ensures.lines options.nodes.count acts
    (statements_of c.args.source.now.program options c.args.run.now acts c.requires c.as_slice-acts.ensures.value c.deref.result.now c.deref.ensures.value)))
    (times_of c.args.source.now.program options c.args.run.now acts c.requires c.as_slice-acts.ensures.value)
    (subst (λ (pairs : List Pair). AreFirstPairs acts pairs) (sym c.as_slice-pairs.ensures.value) c.in_ok-found.ensures)
    (ap (map label_seen) c.as_slice-labels.ensures.value ∙ c.in_ok-labelling.ensures.said
    ∙ ap₂ (λ (program : Program) (text : List ℕ). labels_in text program) c.program-program.ensures.program
    (c.as_slice-copied.ensures.value ∙ c.in_ok-bytes.ensures.items ∙ c.core.ensures ∙ ap (λ (text : ReadText). text.core) c.text-read.ensures))
    (subst (λ (waits : List (Option ℕ)). AreWaitsIn c.args.source.now.text c.args.source.now.program options acts waits) (sym c.as_slice-waits.ensures.value)
    c.in_ok-standing.ensures) in (
      course,
      known,
      subst (λ (out : List ℕ). IsChart c.args.charting (title_text c.args.choice.now c.args.charting) options.nodes.count course (shown_text c.args.source.now.text) out)
          (sym c.in_ok-in_one.ensures)
          (subst (λ (title : List ℕ). IsChart c.args.charting title options.nodes.count course (shown_text c.args.source.now.text) c.in_ok-part.part.items)
          (c.deref-4.ensures.value ∙ c.in_ok-title.ensures)
          (subst (λ (text : List ℕ). IsChart c.args.charting c.deref-4.result.now options.nodes.count course text c.in_ok-part.part.items)
          (c.shown.ensures ∙ ap shown_text c.text-read.ensures) c.in_ok-part.ensures.ok)),
    )
