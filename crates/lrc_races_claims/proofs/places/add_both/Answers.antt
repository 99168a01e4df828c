-- Both have numbers, or one has none.
use Rattle.lrc_races_claims.proofs.Pairing.{only_found, none_found, pair_added, same_pairs, none_earlier}
use Rattle.lrc_races_claims.proofs.places.add_both.Goals as goal

pub returns-in_ok-add_pair-in-Some-later : goal.returns-in_ok-add_pair-in-Some-later
returns-in_ok-add_pair-in-Some-later c = λ naming names pair name other e f known known' both.
    pair_added naming names pair c.args.pairs.now.keys c.add_pair.new.pairs.keys name other c.in-Some.earlier c.in-Some-later.later e f
    (only_found names name c.args.earlier c.in-Some.earlier c.in-Some.is known)
    (only_found names other c.args.later c.in-Some-later.later c.in-Some-later.is known')
    c.in_ok-add_pair-in-Some-later.ensures both

pub returns-in-None : goal.returns-in-None
returns-in-None c = λ naming names pair name other e f known known' both.
    same_pairs naming names pair c.args.pairs.now.keys both
    (none_earlier naming names pair name e (none_found names name c.args.earlier c.in-None.is known) both)
