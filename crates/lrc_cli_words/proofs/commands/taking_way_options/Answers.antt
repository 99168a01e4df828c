use Rattle.lrc_cli_words.proofs.commands.taking_way_options.Goals as goal

pub returns-clause-app : goal.returns-clause-app
returns-clause-app c = c.taking_ways.ensures.app _ c.taking_run_options.ensures.app

pub returns-clause-local : goal.returns-clause-local
returns-clause-local c = c.taking_ways.ensures.local c.taking_run_options.ensures.local
