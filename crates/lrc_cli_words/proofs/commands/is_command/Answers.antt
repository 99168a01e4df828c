use Rattle.lrc_cli_words.specs.Commands.{command_names, treadmarks}
use Rattle.lrc_cli_words.proofs.commands.is_command.Goals as goal

pub returns : goal.returns
unfolding treadmarks command_names
returns c = c.contains.ensures.value
