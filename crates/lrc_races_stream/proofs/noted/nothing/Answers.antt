-- No line is known.
use Rattle.lrc_races_stream.proofs.NotedLemmas.{new_notes}
use Rattle.lrc_races_stream.proofs.noted.nothing.Goals as goal

pub returns : goal.returns
returns c = new_notes c.new.result c.new.ensures.empty
