use Rattle.lrc_cli_words.proofs.commands.taking_counts.Goals as goal

pub returns-clause-app : goal.returns-clause-app
returns-clause-app c app given =
    let one = c.taking-command.ensures.app app _ c.nodes.ensures.local c.nodes.ensures.rule given in
    let two = c.taking-command-2.ensures.app _ _ c.steps.ensures.local c.steps.ensures.rule one in
    let three = c.taking-command-3.ensures.app _ _ c.collect.ensures.local c.collect.ensures.rule two in
    let four = c.taking-command-4.ensures.app _ _ c.order.ensures.local c.order.ensures.rule three in
    c.taking.ensures.app _ _ c.page.ensures.local c.page.ensures.rule four

pub returns-clause-local : goal.returns-clause-local
returns-clause-local c given =
    let one = c.taking-command.ensures.local c.nodes.ensures.local given in
    let two = c.taking-command-2.ensures.local c.steps.ensures.local one in
    let three = c.taking-command-3.ensures.local c.collect.ensures.local two in
    let four = c.taking-command-4.ensures.local c.order.ensures.local three in
    c.taking.ensures.local c.page.ensures.local four
