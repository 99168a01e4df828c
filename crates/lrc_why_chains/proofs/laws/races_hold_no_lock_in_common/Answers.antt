use Rattle.lrc_why_chains.proofs.Unordered.{held_in_order}
use Rattle.lrc_why_chains.proofs.laws.races_hold_no_lock_in_common.Goals as goal

pub returns-clause-ordered : goal.returns-clause-ordered
returns-clause-ordered c nodes run sync i j p q l a b lt first second h g = held_in_order sync i j p q l a b lt first second h g

pub returns-clause-races : goal.returns-clause-races
returns-clause-races c nodes run sync i j p q l a b race first second h g =
    race.unordered (held_in_order sync i j p q l a b race.earlier first second h g)
