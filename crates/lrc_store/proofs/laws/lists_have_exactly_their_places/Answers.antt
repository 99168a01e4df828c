use Rattle.lrc_store.proofs.ListPlaces.{list_of-exactly, list_of-falls}
use Rattle.lrc_store.proofs.laws.lists_have_exactly_their_places.Goals as goal

pub returns-clause-exactly : goal.returns-clause-exactly
returns-clause-exactly c = λ keys key place. list_of-exactly keys key place

pub returns-clause-newest_first : goal.returns-clause-newest_first
returns-clause-newest_first c = λ keys key. list_of-falls keys key
