use Rattle.lrc_cli_args.proofs.chart.names_run_option.Goals as goal

pub returns : goal.returns
returns c = rw c.as_slice.ensures at c.is_any_given.ensures
