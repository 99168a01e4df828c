use Rattle.std.proofs.Common.{refl}
use Rattle.lrc_cli_args.proofs.runs.showing_choice.Goals as goal

pub returns-clause-ok : goal.returns-clause-ok
returns-clause-ok c = (c.in_ok-showing_run.field-0, refl, c.in_ok-showing_run.ensures.ok)
