-- The names of the pairs are those of the run, and stay so when they are sorted and each is kept once.
use Rattle.std.proofs.Common.{ℕ, ◌<◌, [], List, length, get_or, inl, inr, sym, subst, arith}
use Rattle.std.proofs.lemmas.List.{get_or_default}
use Rattle.std.proofs.lemmas.List.Filters.{dedup_is}
use Rattle.lrc_trace.specs.declared.race.Race.{Race}
use Rattle.lrc_judge.specs.declared.lanes.Pair.{Pair}
use Rattle.lrc_judge.specs.Adding.{Adds, IsOfSome}
use Rattle.lrc_judge.specs.Races.{IsNameOf}
use Rattle.lrc_judge.proofs.Touching.{Races-within}
use Rattle.lrc_judge.proofs.Naming.{name_is, is_name, named_pair}
use Rattle.lrc_judge.proofs.Ascending.{race_eq, unique-ascending, unique-contains}
use Rattle.lrc_judge.proofs.races.named_races.Goals as goal

pub add_names-requires-clause-earlier : goal.add_names-requires-clause-earlier
add_names-requires-clause-earlier c =
    let run = c.args.acts.now in
    let pairs = c.in_ok-pairs.pairs.items in
    subst (λ (ps : List Pair). (k : ℕ) (d : Pair) → k < length ps → (get_or ps k d).earlier < length run) (sym c.as_slice-3.ensures.value)
    (λ k d lt.
    let pair = get_or pairs k d in
    let r = c.in_ok-pairs.ensures.sound pair (k, lt, get_or_default pairs k pair d lt) in
    let within = Races-within run pair.earlier pair.later r in
    let before = r.earlier in
    omega (arith, within, before))

pub add_names-requires-clause-later : goal.add_names-requires-clause-later
add_names-requires-clause-later c =
    let run = c.args.acts.now in
    let pairs = c.in_ok-pairs.pairs.items in
    subst (λ (ps : List Pair). (k : ℕ) (d : Pair) → k < length ps → (get_or ps k d).later < length run) (sym c.as_slice-3.ensures.value)
    (λ k d lt.
    let pair = get_or pairs k d in
    let r = c.in_ok-pairs.ensures.sound pair (k, lt, get_or_default pairs k pair d lt) in
    Races-within run pair.earlier pair.later r)

pub returns : goal.returns
returns c =
    let run = c.args.acts.now in
    let intervals = c.in_ok-intervals.intervals.items in
    let pairs = c.in_ok-pairs.pairs.items in
    let found = c.add_names.new.races.items in
    let sorted = c.sort_unstable.new.self.items in
    let unique = c.dedup.new.self.items in
    let permutation = c.sort_unstable.ensures.permutation in
    let in_order = c.sort_unstable.ensures.sorted in
    let is = dedup_is race_eq sorted unique c.dedup.ensures.filtered in
    let adds : Adds [] found (IsOfSome pairs (IsNameOf run intervals)) =
    subst (λ (ps : List Pair). Adds [] found (IsOfSome ps (IsNameOf run intervals))) c.as_slice-3.ensures.value
    (subst (λ (ns : List ℕ). Adds [] found (IsOfSome c.as_slice-3.result.now (IsNameOf run ns))) c.as_slice-2.ensures.value
    (subst (λ (zs : List Race). Adds zs found (IsOfSome c.as_slice-3.result.now (IsNameOf run c.as_slice-2.result.now))) c.new-races.ensures.items
    c.in_ok-add_names.ensures)) in
    let are = c.in_ok-intervals.ensures in
    record {
      ascending = unique-ascending found sorted unique permutation in_order is;
      exact = λ race.
          let same = unique-contains found sorted unique permutation in_order is race in (
            λ h. elim ((adds.exact race).0 (same.0 h)) [
              | inl (k, lt, _) ↦ absurd (omega arith)
              | inr (pair, has, name) ↦ name_is run intervals are pair race (c.in_ok-pairs.ensures.sound pair has) name
            ],
            λ n.
                let (other, of_other) = named_pair run race n in
                let (pair, has, of, _, _) = c.in_ok-pairs.ensures.complete race other of_other in
                same.1 ((adds.exact race).1 (inr (pair, has, is_name run intervals are pair race of.named))),
          );
    }
