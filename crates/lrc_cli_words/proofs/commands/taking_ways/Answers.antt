use Rattle.lrc_cli_words.proofs.commands.taking_ways.Goals as goal

pub returns-clause-app : goal.returns-clause-app
returns-clause-app c app given =
    let one = c.taking-command.ensures.app app _ c.text.ensures.local c.text.ensures.rule given in
    let two = c.taking-command-2.ensures.app _ _ c.text-2.ensures.local c.text-2.ensures.rule one in
    c.taking.ensures.app _ _ c.bare_number.ensures.local c.bare_number.ensures.rule two

pub returns-clause-local : goal.returns-clause-local
returns-clause-local c given =
    let one = c.taking-command.ensures.local c.text.ensures.local given in
    let two = c.taking-command-2.ensures.local c.text-2.ensures.local one in
    c.taking.ensures.local c.bare_number.ensures.local two
