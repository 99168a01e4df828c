use Rattle.lrc_lazy.proofs.Front.{from_beginning}
use Rattle.lrc_lazy.proofs.front_laws.lazy_outcomes_are_those_from_the_beginning.Goals as goal

pub returns : goal.returns
returns c = from_beginning
