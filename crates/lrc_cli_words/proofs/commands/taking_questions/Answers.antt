use Rattle.std.proofs.Common.{refl}
use Rattle.clap.specs.Words.{app_of}
use Rattle.lrc_cli_words.proofs.commands.taking_questions.Goals as goal

pub returns : goal.returns
returns c =
    let one = c.having-command.ensures (app_of c.args.command) _ refl c.trace_command.ensures.app c.trace_command.ensures.local in
    let two = c.having-command-2.ensures _ _ one c.step_command.ensures.app c.step_command.ensures.local in
    let three = c.having-command-3.ensures _ _ two c.explain_command.ensures.app c.explain_command.ensures.local in
    let four = c.having-command-4.ensures _ _ three c.stats_command.ensures.app c.stats_command.ensures.local in
    let five = c.having-command-5.ensures _ _ four c.chart_command.ensures.app c.chart_command.ensures.local in
    let six = c.having-command-6.ensures _ _ five c.judge_command.ensures.app c.judge_command.ensures.local in
    c.having.ensures _ _ six c.explore_command.ensures.app c.explore_command.ensures.local
