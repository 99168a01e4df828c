-- Where the answer is that no order races, no run that reads lazily does.
use Rattle.std.proofs.Common.{ℕ}
use Rattle.lrc_program.specs.declared.Program.{Program}
use Rattle.lrc_consistency_laws.specs.Racing.{HasNoRace}
use Rattle.lrc_consistency_laws.proofs.Racing.{race_free}
use Rattle.lrc_consistency_laws.proofs.UpToRace.{without_race}
use Rattle.lrc_orders.specs.declared.search.Verdict.{Verdict}
use Rattle.lrc_orders.specs.declared.search.Verdict.TheVariants.{RaceFree, Racy}
use Rattle.lrc_orders.specs.Verdict.{FindsNoRace}
use Rattle.lrc_explore.specs.Answers.{IsAnswer}
use Rattle.lrc_explore.proofs.laws.runs_of_explored_programs_are_plain.Goals as goal

has_no_race : (program : Program) (nodes : ℕ) (verdict : Verdict) → IsAnswer program nodes verdict → FindsNoRace verdict → HasNoRace program nodes
has_no_race program nodes (RaceFree findings) is free = is.0
has_no_race program nodes (Racy order) is free = absurd free

pub returns : goal.returns
returns c = λ program nodes verdict run is free follows synchronized lazily.
    let none = race_free program nodes run follows synchronized lazily (has_no_race program nodes verdict is free) in
    (none, without_race program nodes run follows synchronized lazily none)
