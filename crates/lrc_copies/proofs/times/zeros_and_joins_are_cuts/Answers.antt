use Rattle.std.proofs.Common.{⊎_elim}
use Rattle.lrc_time.specs.Time.{joined}
use Rattle.lrc_time.proofs.Times.{covers-joined_first, covers-joined_second}
use Rattle.lrc_copies.proofs.Stamping.{zeros_cut, joined_cut, joined_knows, covered-up}
use Rattle.lrc_copies.proofs.times.zeros_and_joins_are_cuts.Goals as goal

pub returns-clause-none : goal.returns-clause-none
returns-clause-none g c = λ s nodes count all. zeros_cut s nodes count all

pub returns-clause-joins : goal.returns-clause-joins
returns-clause-joins g c = λ s all t u. joined_cut s all t u

pub returns-clause-either : goal.returns-clause-either
returns-clause-either g c = λ s t u a. (
  joined_knows s t u a,
  ⊎_elim (covered-up s t (joined t u) a (covers-joined_first t u)) (covered-up s u (joined t u) a (covers-joined_second t u)),
)
