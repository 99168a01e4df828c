use Rattle.std.proofs.Common.{refl}
use Rattle.clap.specs.Words.{app_of}
use Rattle.lrc_cli_words.proofs.commands.taking_hints.Goals as goal

pub returns : goal.returns
returns c =
    let one = c.having-command.ensures (app_of c.args.command) _ refl c.why_command.ensures.app c.why_command.ensures.local in
    let two = c.having-command-2.ensures _ _ one c.lint_command.ensures.app c.lint_command.ensures.local in
    c.having.ensures _ _ two c.races_command.ensures.app c.races_command.ensures.local
