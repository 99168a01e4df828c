use Rattle.lrc_cli_words.proofs.commands.taking_showing_options.Goals as goal

pub returns-clause-app : goal.returns-clause-app
returns-clause-app c =
    c.taking.ensures.app _ _ c.flag_option.ensures.local c.flag_option.ensures.rule c.taking_way_options-command.ensures.app

pub returns-clause-local : goal.returns-clause-local
returns-clause-local c = c.taking.ensures.local c.flag_option.ensures.local c.taking_way_options-command.ensures.local
