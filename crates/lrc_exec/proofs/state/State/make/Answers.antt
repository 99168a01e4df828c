use Rattle.lrc_exec.proofs.Spots.{wished}
use Rattle.lrc_exec.proofs.state.State.make.Goals as goal

pub take-requires-clause-number : goal.take-requires-clause-number
take-requires-clause-number c = wished c.args.flat.now c.args.self.now c.args.node c.index.result.now c.index.ensures c.wish-number.result c.wish-number.ensures
