-- The events that are kept are looked through.
use Rattle.lrc_races_stream.proofs.StrictLemmas.{kept_tells}
use Rattle.lrc_races_stream.proofs.strict.KeptVet.ill.Goals as goal

pub returns : goal.returns
returns c = kept_tells c.args.self.now c.deref.result.now c.first_ill.result c.deref.ensures.value c.first_ill.ensures
