use Rattle.std.proofs.Common.{[], arith}
use Rattle.std.proofs.lemmas.List.Filters.{dedup_is}
use Rattle.lrc_judge.proofs.Ascending.{race_eq, unique-ascending, unique-contains}
use Rattle.lrc_judge.proofs.Additions.{below-none, below-more}
use Rattle.lrc_race.proofs.Found.{IsRaceOfTrace, found-all}
use Rattle.lrc_race.proofs.detector.races.Goals as goal

pub loop-i-init : goal.loop-i-init
loop-i-init c = rw c.new-races.ensures.items (below-none (IsRaceOfTrace c.args.traces.now) [])

pub loop-i-preserved : goal.loop-i-preserved
loop-i-preserved c =
    below-more (IsRaceOfTrace c.args.traces.now) [] c.loop-i.races.items c.add_races_with.new.races.items c.loop-i.i
    c.loop-i.invariant c.in_ok-add_races_with.ensures

pub returns : goal.returns
returns c =
    let traces = c.args.traces.now in
    let found = c.loop-i.races.items in
    let sorted = c.sort.new.self.items in
    let unique = c.dedup.new.self.items in
    let permutation = c.sort.ensures.permutation in
    let in_order = c.in_ok-sort.ensures.sorted in
    let is = dedup_is race_eq sorted unique c.dedup.ensures.filtered in
    record {
      ascending = unique-ascending found sorted unique permutation in_order is;
      exact = λ race.
          let same = unique-contains found sorted unique permutation in_order is race in
          let all = found-all traces c.loop-i.i found (omega arith) c.loop-i.invariant race in
          (λ h. all.0 (same.0 h), λ h. same.1 (all.1 h));
    }
