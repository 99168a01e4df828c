use Rattle.std.proofs.Common.{◌≡◌, ◌<◌, ◌∙◌, List, length, sym, subst, ap}
use Rattle.std.specs.Prelude.{All, Contains}
use Rattle.std.specs.List.{flat_map}
use Rattle.std.proofs.lemmas.List.Filters.{dedup_is}
use Rattle.lrc_trace.specs.declared.race.Race.{Race}
use Rattle.lrc_judge.specs.declared.lanes.Pair.{Pair}
use Rattle.lrc_judge.proofs.Ascending.{race_eq, unique-ascending, unique-contains}
use Rattle.lrc_explore_text.specs.LastRaces.{race_ending_at}
use Rattle.lrc_explore_text.proofs.Naming.{pairs_within, races_at_are}
use Rattle.lrc_explore_text.proofs.last_races.races_at.Goals as goal

pub races_between-requires-clause-earlier : goal.races_between-requires-clause-earlier
races_between-requires-clause-earlier c =
    let run = c.args.acts.now in
    let pairs = c.in_ok-pairs.pairs.items in
    subst (λ (ps : List Pair). All (λ (pair : Pair). pair.earlier < length run) ps) (sym c.deref.ensures.value)
    (λ k d lt. (pairs_within run pairs c.in_ok-pairs.ensures k d lt).0)

pub races_between-requires-clause-later : goal.races_between-requires-clause-later
races_between-requires-clause-later c =
    let run = c.args.acts.now in
    let pairs = c.in_ok-pairs.pairs.items in
    subst (λ (ps : List Pair). All (λ (pair : Pair). pair.later < length run) ps) (sym c.deref.ensures.value)
    (λ k d lt. (pairs_within run pairs c.in_ok-pairs.ensures k d lt).1)

pub returns : goal.returns
returns c =
    let run = c.args.acts.now in
    let position = c.args.position in
    let pairs = c.in_ok-pairs.pairs.items in
    let found = c.in_ok-races.races.items in
    let sorted = c.sort_unstable.new.self.items in
    let unique = c.dedup.new.self.items in
    let permutation = c.sort_unstable.ensures.permutation in
    let in_order = c.sort_unstable.ensures.sorted in
    let is = dedup_is race_eq sorted unique c.dedup.ensures.filtered in
    let are : found ≡ flat_map (race_ending_at run position) pairs =
    c.in_ok-races.ensures ∙ ap (λ (ps : List Pair). flat_map (race_ending_at run position) ps) c.deref.ensures.value in
    record {
      ascending = unique-ascending found sorted unique permutation in_order is;
      exact = λ race.
          let same = unique-contains found sorted unique permutation in_order is race in
          let at = races_at_are run pairs position race c.in_ok-pairs.ensures in (
            λ h. at.0 (subst (λ (l : List Race). Contains l race) are (same.0 h)),
            λ h. same.1 (subst (λ (l : List Race). Contains l race) (sym are) (at.1 h)),
          );
    }
