use Rattle.lrc_cli_args.proofs.judge.names_exact_option.Goals as goal

pub returns : goal.returns
returns c = rw c.as_slice.ensures at c.is_any_given.ensures
