use Rattle.lrc_exact_search.specs.Run.{still}
use Rattle.lrc_exact_search.proofs.Standing.{node_among}
use Rattle.lrc_exact_search.proofs.run.ExactRun.spins.Goals as goal

pub goes_round-requires-clause-node : goal.goes_round-requires-clause-node
goes_round-requires-clause-node c =
    node_among c.args.task.now c.requires.task c.args.self.now c.requires.at c.in-Some.act.node c.in-Some.act.deed
    (c.lowest.ensures c.in-Some.act c.in-Some.is).longer

pub returns-in-None-clause-ahead : goal.returns-in-None-clause-ahead
returns-in-None-clause-ahead c = still
