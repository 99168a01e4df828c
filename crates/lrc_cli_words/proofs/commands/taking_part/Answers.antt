use Rattle.lrc_cli_words.proofs.commands.taking_part.Goals as goal

pub returns-clause-app : goal.returns-clause-app
returns-clause-app c app given =
    let one = c.taking-command.ensures.app app _ c.bare_number.ensures.local c.bare_number.ensures.rule given in
    c.taking.ensures.app _ _ c.bare_number-2.ensures.local c.bare_number-2.ensures.rule one

pub returns-clause-local : goal.returns-clause-local
returns-clause-local c given =
    let one = c.taking-command.ensures.local c.bare_number.ensures.local given in
    c.taking.ensures.local c.bare_number-2.ensures.local one
