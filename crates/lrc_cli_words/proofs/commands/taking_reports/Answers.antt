use Rattle.std.proofs.Common.{refl}
use Rattle.clap.specs.Words.{app_of}
use Rattle.lrc_cli_words.proofs.commands.taking_reports.Goals as goal

pub returns : goal.returns
returns c =
    let one = c.having-command.ensures (app_of c.args.command) _ refl c.check_command.ensures.app c.check_command.ensures.local in
    let two = c.having-command-2.ensures _ _ one c.core_command.ensures.app c.core_command.ensures.local in
    let three = c.having-command-3.ensures _ _ two c.plain_command.ensures.app c.plain_command.ensures.local in
    let four = c.having-command-4.ensures _ _ three c.sim_command.ensures.app c.sim_command.ensures.local in
    c.having.ensures _ _ four c.run_command.ensures.app c.run_command.ensures.local
