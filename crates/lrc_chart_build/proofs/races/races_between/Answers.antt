use Rattle.std.proofs.Common.{◌+◌, [], ℕ, List, get_or, map, refl}
use Rattle.lrc_judge.specs.declared.lanes.Pair.{Pair}
use Rattle.lrc_chart_build.specs.Races.{race_at}
use Rattle.lrc_chart_build.specs.Seen.{SeenRace, seen_race}
use Rattle.lrc_chart_build.proofs.Steps.{each_step, no_pair}
use Rattle.lrc_chart_build.proofs.races.races_between.Goals as goal

pub loop-before-preserved : goal.loop-before-preserved
loop-before-preserved c =
    let known = c.args.known.now in
    let places = c.args.places.now in
    let found = c.args.found.now in
    let before = c.loop-before.before in
    let of : ℕ → Pair → List SeenRace = λ before pair. race_at known places (before + 1) pair in
    each_step of found before no_pair (get_or found before no_pair) [] (map seen_race c.loop-before.races.items)
    (map seen_race c.push_race.new.races.items) c.loop-before-test.true refl c.loop-before.invariant c.in_ok-push_race.ensures
