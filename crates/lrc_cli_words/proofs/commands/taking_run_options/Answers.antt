use Rattle.std.proofs.Common.{refl}
use Rattle.clap.specs.Words.{app_of}
use Rattle.lrc_cli_words.proofs.commands.taking_run_options.Goals as goal

pub returns-clause-app : goal.returns-clause-app
returns-clause-app c =
    let one = c.taking.ensures.app (app_of c.args.command) _ c.file.ensures.local c.file.ensures.rule refl in
    c.taking_counts.ensures.app _ one

pub returns-clause-local : goal.returns-clause-local
returns-clause-local c = c.taking_counts.ensures.local (c.taking.ensures.local c.file.ensures.local c.requires)
