-- One key more.
use Rattle.lrc_races_missed.proofs.KeyLemmas.{key_added}
use Rattle.lrc_races_missed.proofs.key.add.Goals as goal

pub returns : goal.returns
returns c = λ other. key_added c.args.keys.now.keys c.insert.new.self.keys c.args.key c.in_ok-insert.ensures.keys other
