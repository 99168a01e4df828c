-- The events that are kept are looked through.
use Rattle.lrc_races_stream.proofs.StrictLemmas.{traced_tells}
use Rattle.lrc_races_stream.proofs.strict.TracedVet.ill.Goals as goal

pub returns : goal.returns
returns c = traced_tells c.args.self.now c.deref.result.now c.first_ill.result c.deref.ensures.value c.first_ill.ensures
