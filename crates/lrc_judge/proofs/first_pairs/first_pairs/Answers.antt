-- The leaders of the sorted pairs are the first pairs, and stay so when they are sorted and each is kept once.
use Rattle.std.proofs.Common.{ℕ, ◌<◌, List, length, get_or, sym, subst, arith}
use Rattle.std.proofs.lemmas.List.{get_or_default}
use Rattle.std.proofs.lemmas.List.Filters.{dedup_is}
use Rattle.std.proofs.lemmas.List.Sorted.{Contains-permutation, IsPermutation-sym}
use Rattle.lrc_trace.specs.Conflict.{Races}
use Rattle.lrc_judge.specs.declared.lanes.Pair.{Pair}
use Rattle.lrc_judge.specs.Leaders.{AreLeaders}
use Rattle.lrc_judge.proofs.Touching.{Races-within}
use Rattle.lrc_judge.proofs.PairOrder.{pair_eq, unique-ascending, unique-contains}
use Rattle.lrc_judge.proofs.Firstness.{first_leads, leader_first}
use Rattle.lrc_judge.proofs.first_pairs.first_pairs.Goals as goal

pub leaders_of-requires-clause-earlier : goal.leaders_of-requires-clause-earlier
leaders_of-requires-clause-earlier c =
    let run = c.args.acts.now in
    let found = c.in_ok-pairs.pairs.items in
    let sorted = c.sort_unstable.new.self.items in
    subst (λ (ps : List Pair). (k : ℕ) (d : Pair) → k < length ps → (get_or ps k d).earlier < length run) (sym c.as_slice-3.ensures.value)
    (λ k d lt.
    let pair = get_or sorted k d in
    let has = Contains-permutation sorted found pair (IsPermutation-sym found sorted c.sort_unstable.ensures.permutation)
    (k, lt, get_or_default sorted k pair d lt) in
    let r : Races run pair.earlier pair.later = c.in_ok-pairs.ensures.sound pair has in
    let within = Races-within run pair.earlier pair.later r in
    let before = r.earlier in
    omega (arith, within, before))

pub leaders_of-requires-clause-later : goal.leaders_of-requires-clause-later
leaders_of-requires-clause-later c =
    let run = c.args.acts.now in
    let found = c.in_ok-pairs.pairs.items in
    let sorted = c.sort_unstable.new.self.items in
    subst (λ (ps : List Pair). (k : ℕ) (d : Pair) → k < length ps → (get_or ps k d).later < length run) (sym c.as_slice-3.ensures.value)
    (λ k d lt.
    let pair = get_or sorted k d in
    let has = Contains-permutation sorted found pair (IsPermutation-sym found sorted c.sort_unstable.ensures.permutation)
    (k, lt, get_or_default sorted k pair d lt) in
    Races-within run pair.earlier pair.later (c.in_ok-pairs.ensures.sound pair has))

pub returns : goal.returns
returns c =
    let run = c.args.acts.now in
    let intervals = c.in_ok-intervals.intervals.items in
    let found = c.in_ok-pairs.pairs.items in
    let sorted = c.sort_unstable.new.self.items in
    let leaders = c.in_ok-leaders.leaders.items in
    let ordered = c.sort_unstable-2.new.self.items in
    let unique = c.dedup.new.self.items in
    let is = dedup_is pair_eq ordered unique c.dedup.ensures.filtered in
    let leading : AreLeaders run intervals sorted leaders =
    subst (λ (ps : List Pair). AreLeaders run intervals ps leaders) c.as_slice-3.ensures.value
    (subst (λ (ns : List ℕ). AreLeaders run ns c.as_slice-3.result.now leaders) c.as_slice-2.ensures.value c.in_ok-leaders.ensures) in
    record {
      ascending = unique-ascending leaders ordered unique c.sort_unstable-2.ensures.permutation c.sort_unstable-2.ensures.sorted is;
      exact = λ pair.
          let same = unique-contains leaders ordered unique c.sort_unstable-2.ensures.permutation c.sort_unstable-2.ensures.sorted is pair in (
            λ h. leader_first run intervals c.in_ok-intervals.ensures found sorted leaders c.in_ok-pairs.ensures c.sort_unstable.ensures.permutation
                c.sort_unstable.ensures.sorted leading pair (same.0 h),
            λ (race, first).
                same.1 (first_leads run intervals c.in_ok-intervals.ensures found sorted leaders c.in_ok-pairs.ensures c.sort_unstable.ensures.permutation
                c.sort_unstable.ensures.sorted leading pair race first),
          );
    }
