use Rattle.std.proofs.Common.{ap, ◌∙◌}
use Rattle.std.proofs.lemmas.Result.{IfOk-weaker}
use Rattle.lrc_cli_words.specs.Commands.{treadmarks, with_hints, with_questions, with_reports, with_topics}
use Rattle.lrc_cli_words.proofs.commands.command_line.Goals as goal

pub returns : goal.returns
unfolding treadmarks
returns c =
    let reports_are = c.in_ok-command.ensures ∙ ap with_reports c.in_ok-bare_command_line.ensures in
    let questions_are = c.in_ok-command-2.ensures ∙ ap with_questions reports_are in
    let hints_are = c.in_ok-taking_hints.ensures ∙ ap with_hints questions_are in
    IfOk-weaker c.taking_topics.result _ _ (λ r h. h ∙ ap with_topics hints_are) c.taking_topics.ensures
