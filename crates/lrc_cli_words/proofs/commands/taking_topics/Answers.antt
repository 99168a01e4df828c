use Rattle.std.proofs.Common.{refl}
use Rattle.clap.specs.Words.{app_of}
use Rattle.lrc_cli_words.proofs.commands.taking_topics.Goals as goal

pub returns : goal.returns
returns c =
    let one = c.having-command.ensures (app_of c.args.command) _ refl c.help_command.ensures.app c.help_command.ensures.local in
    c.having.ensures _ _ one c.version_command.ensures.app c.version_command.ensures.local
