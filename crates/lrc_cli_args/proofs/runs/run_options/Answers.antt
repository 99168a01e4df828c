use Rattle.std.proofs.Common.{refl}
use Rattle.lrc_cli_args.proofs.runs.run_options.Goals as goal

pub returns-clause-ok : goal.returns-clause-ok
returns-clause-ok c = record {
  plain = record { file = c.text_of.ensures; nodes = c.in_ok-nodes_of.ensures.ok; given_is = c.is_given.ensures; steps = c.in_ok-steps_of.ensures.ok };
  default_nodes = refl;
  collect = c.in_ok-collect_of.ensures.ok;
  size = c.in_ok-size.ensures.ok;
}
