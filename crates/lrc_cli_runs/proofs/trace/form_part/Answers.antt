use Rattle.std.proofs.Common.{◌≡◌, ◌∙◌, IfOk, List, map, sym, subst}
use Rattle.std.proofs.lemmas.Result.{IfOk-weaker}
use Rattle.lrc_program.specs.declared.Program.{Program}
use Rattle.lrc_trace.specs.declared.act.Act.{Act}
use Rattle.lrc_events.specs.Writing.{events_text}
use Rattle.lrc_acts_text.specs.ActsText.{acts_text}
use Rattle.lrc_acts_text.specs.Rapid.{rapid_text}
use Rattle.lrc_turns_text.specs.TurnsText.{messages_text}
use Rattle.lrc_cli_args.specs.declared.choice.Form.{Form}
use Rattle.lrc_world.specs.declared.turned.Turned.{Turned}
use Rattle.lrc_timeline.specs.Timeline.{times_in}
use Rattle.lrc_cli_runs.specs.Runs.{turns_in}
use Rattle.lrc_cli_runs.specs.Shown.{IsWrittenAs}
use Rattle.lrc_cli_runs.proofs.RunLemmas.{turned_whole}
use Rattle.lrc_cli_runs.proofs.trace.form_part.Goals as goal

pub json_of-requires-clause-timed : goal.json_of-requires-clause-timed
json_of-requires-clause-timed c = c.requires.ran.origins.times.timed

pub returns-in-Acts : goal.returns-in-Acts
returns-in-Acts c =
    subst (λ (form : Form). IfOk c.acts_part.result (λ part. IsWrittenAs form c.args.source.now.text c.args.source.now.program c.args.options.now
    c.args.run.now c.args.lines.now part.items)) (sym c.in-Acts.is)
    (subst (λ (acts : List Act). IfOk c.acts_part.result (λ part. part.items ≡ acts_text acts c.args.lines.now))
    c.as_slice-acts.ensures.value c.acts_part.ensures)

pub returns-in-Rapid : goal.returns-in-Rapid
returns-in-Rapid c =
    subst (λ (form : Form). IfOk c.rapid_part.result (λ part. IsWrittenAs form c.args.source.now.text c.args.source.now.program c.args.options.now
    c.args.run.now c.args.lines.now part.items)) (sym c.in-Rapid.is)
    (subst (λ (program : Program). IfOk c.rapid_part.result (λ part. part.items
    ≡ rapid_text program.locks c.args.options.now.nodes.count c.args.run.now.report.acts.items c.args.lines.now)) c.program.ensures.program
    (subst (λ (acts : List Act). IfOk c.rapid_part.result (λ part. part.items
    ≡ rapid_text c.program.result.now.locks c.args.options.now.nodes.count acts c.args.lines.now))
    c.as_slice-acts.ensures.value c.rapid_part.ensures))

pub returns-in-Json : goal.returns-in-Json
returns-in-Json c =
    subst (λ (form : Form). IfOk c.json_of.result (λ part. IsWrittenAs form c.args.source.now.text c.args.source.now.program c.args.options.now
    c.args.run.now c.args.lines.now part.items)) (sym c.in-Json.is)
    (IfOk-weaker c.json_of.result _ _ (λ part is. (times_in c.args.run.now.origins.times, c.requires.ran.origins.times, is)) c.json_of.ensures)

pub returns-in-Messages : goal.returns-in-Messages
returns-in-Messages c =
    subst (λ (form : Form). IfOk c.messages_of.result (λ part. IsWrittenAs form c.args.source.now.text c.args.source.now.program c.args.options.now
    c.args.run.now c.args.lines.now part.items)) (sym c.in-Messages.is)
    (subst (λ logs. IfOk c.messages_of.result (λ part. part.items ≡ messages_text (map (λ log. log.items) logs)
    (map (λ turn. turn.node) (turns_in c.args.source.now.program c.args.options.now c.args.run.now.events.items)) c.args.lines.now))
    c.as_slice-logs.ensures.value
    (subst (λ (made : List Turned). IfOk c.messages_of.result (λ part. part.items
    ≡ messages_text (map (λ log. log.items) c.as_slice-logs.result.now) (map (λ turn. turn.node) made) c.args.lines.now))
    (c.as_slice-turns.ensures.value ∙ turned_whole c.args.source.now.program c.args.options.now c.args.run.now c.requires.ran) c.messages_of.ensures))

pub returns-in-Events : goal.returns-in-Events
returns-in-Events c =
    subst (λ (form : Form). IfOk c.events_of.result (λ part. IsWrittenAs form c.args.source.now.text c.args.source.now.program c.args.options.now
    c.args.run.now c.args.lines.now part.items)) (sym c.in-Events.is)
    (subst (λ (made : List Turned). IfOk c.events_of.result (λ part. part.items ≡ events_text (map (λ turn. turn.event) made)))
    (c.as_slice-turns.ensures.value ∙ turned_whole c.args.source.now.program c.args.options.now c.args.run.now c.requires.ran) c.events_of.ensures)
