use Rattle.std.proofs.Common.{◌≡◌, ◌∙◌, List, ap, map}
use Rattle.std.proofs.lemmas.Result.{IfOk-weaker}
use Rattle.lrc_labels.specs.Reading.{Label, label_seen}
use Rattle.lrc_acts_text.specs.Json.{json_of_acts}
use Rattle.lrc_cli_answer.specs.Labels.{labels_in}
use Rattle.lrc_timeline.specs.Timeline.{times_in}
use Rattle.lrc_cli_runs.proofs.trace.json_of.Goals as goal

pub returns : goal.returns
returns c =
    let run = c.args.run.now in
    let times = times_in run.origins.times in
    let said : map label_seen c.labels.result.now ≡ labels_in c.args.source.now.text.core c.args.source.now.program =
    c.labels.ensures.labels ∙ c.labels.ensures.text in
    IfOk-weaker c.json_part.result _ _
    (λ part is.
    is ∙ ap (λ acts. json_of_acts (map label_seen c.labels.result.now) acts c.args.lines.now times) c.as_slice-acts.ensures.value
    ∙ ap (λ (labels : List Label). json_of_acts labels run.report.acts.items c.args.lines.now times) said)
    c.json_part.ensures
