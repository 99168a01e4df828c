use Rattle.lrc_reading_laws.proofs.Asked.Once.{on_its_way_once}
use Rattle.lrc_reading_laws.proofs.requests.what_is_awaited_is_on_its_way_once.Goals as goal

pub returns : goal.returns
returns c = λ program nodes options events world n q w l e at. on_its_way_once program nodes options world (record { events = events; runs = e }) n q w l at
