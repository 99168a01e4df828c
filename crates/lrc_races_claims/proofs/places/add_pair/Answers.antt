-- Two places more.
use Rattle.lrc_races_claims.proofs.Pairing.{key_added}
use Rattle.lrc_races_claims.proofs.places.add_pair.Goals as goal

pub returns : goal.returns
returns c = λ places.
    key_added c.args.pairs.now.keys c.insert.new.self.keys (record { earlier = c.args.earlier; later = c.args.later }) c.in_ok-insert.ensures.keys places
