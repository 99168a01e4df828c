use Rattle.std.proofs.Common.{◌<◌, sym, subst}
use Rattle.lrc_judge.specs.declared.lanes.Pair.{Pair}
use Rattle.lrc_explore_causes.specs.Told.{IsEarliestRace}
use Rattle.lrc_explore_causes.proofs.Choosing.{earliest, some_pair}
use Rattle.lrc_explore_causes.proofs.told.earliest_race.Goals as goal

pub index-requires : goal.index-requires
index-requires c =
    subst (λ n. 0 < n) (sym c.in_ok-pairs.pairs.ok.0)
    (some_pair c.args.acts.now c.in_ok-pairs.pairs.items c.requires.races.0 c.requires.races.1 c.in_ok-pairs.ensures c.requires.races.2)

pub returns : goal.returns
returns c =
    subst (λ (p : Pair). IsEarliestRace c.args.acts.now p.earlier p.later) (sym c.index.ensures)
    (earliest c.args.acts.now c.in_ok-pairs.pairs.items _ c.in_ok-pairs.ensures
    (some_pair c.args.acts.now c.in_ok-pairs.pairs.items c.requires.races.0 c.requires.races.1 c.in_ok-pairs.ensures c.requires.races.2))
