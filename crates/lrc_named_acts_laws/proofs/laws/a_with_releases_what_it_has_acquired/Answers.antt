-- The number of the lock is the same.
use Rattle.lrc_named_core.specs.Tree.{behind, only, release}
use Rattle.lrc_named_statements.specs.Statements.{at_item, closing}
use Rattle.lrc_named_acts_laws.proofs.Locking.{acquired, with_releases}
use Rattle.lrc_named_acts_laws.proofs.laws.a_with_releases_what_it_has_acquired.Goals as goal

pub returns-clause-acquires : goal.returns-clause-acquires
returns-clause-acquires c = λ numbers token close p word inside more t l stands value d after g.
    acquired numbers t (at_item token p) word (behind inside (only (release (closing token close p) word))) more l value stands.here stands d after g

pub returns-clause-releases : goal.returns-clause-releases
returns-clause-releases c = λ numbers token close p word inside more t s u l ds stands value steady g stays at_end d after h.
    with_releases numbers t s u (at_item token p) (closing token close p) word inside more l ds stands value steady g stays at_end d after h
