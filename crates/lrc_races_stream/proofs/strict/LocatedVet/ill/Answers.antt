-- They were looked through as they came.
use Rattle.lrc_races_stream.proofs.StrictLemmas.{located_tells}
use Rattle.lrc_races_stream.proofs.strict.LocatedVet.ill.Goals as goal

pub returns : goal.returns
returns c = located_tells c.args.self.now c.fault.result c.ill_if_any.result c.fault.ensures c.ill_if_any.ensures
