use Rattle.std.proofs.Common.{◌≡◌, false, is_some, None, Some, get_or, refl, set}
use Rattle.std.specs.List.{list_all}
use Rattle.std.proofs.lemmas.List.{get_or_default}
use Rattle.lrc_barrier.specs.Barrier.{departures_of}
use Rattle.lrc_barrier.specs.Filled.{all_with}
use Rattle.lrc_barrier.proofs.Filled.{all_but_one, one_lacks}
use Rattle.lrc_barrier.proofs.Steps.{all_depart}
use Rattle.lrc_barrier.proofs.laws.all_depart_with_the_last_arrival.Goals as goal

pub returns-clause-last : goal.returns-clause-last
returns-clause-last c = λ manager from arrival within next here others. (
  departures_of (all_with arrival manager.arrivals),
  all_depart manager from arrival within next here (all_but_one arrival manager.arrivals from within others),
)

pub returns-clause-earlier : goal.returns-clause-earlier
returns-clause-earlier c = λ manager from other arrival within next here inside differ lacks.
    let some : list_all is_some (set manager.arrivals from (Some arrival)) ≡ false =
    one_lacks arrival manager.arrivals from other (get_or manager.arrivals other None) inside differ
    (get_or_default manager.arrivals other None (get_or manager.arrivals other None) inside) lacks in
    rw (next, here, some) refl
