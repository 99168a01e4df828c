-- What is added is what races with the act, and stays so when it is sorted and each is kept once.
use Rattle.std.proofs.Common.{◌≡◌, ◌<◌, ◌≤◌, [], ℕ, List, Vec, Global, inl, inr, sym, subst, ap, ◌∙◌, get_or, length, arith}
use Rattle.std.specs.Prelude.{◌↔◌, Contains}
use Rattle.std.proofs.lemmas.List.{get_or_default}
use Rattle.std.proofs.lemmas.List.Filters.{dedup_is}
use Rattle.lrc_trace.specs.declared.act.Act.{Act}
use Rattle.lrc_trace.specs.declared.act.Deed.TheVariants.{Quiet}
use Rattle.lrc_trace.specs.Conflict.{Races}
use Rattle.lrc_trace.proofs.Positions.{Does-read}
use Rattle.lrc_judge.specs.declared.lanes.Pair.{Pair}
use Rattle.lrc_judge.specs.Adding.{Adds}
use Rattle.lrc_judge.specs.Pairs.{IsPairOfAct}
use Rattle.lrc_judge.proofs.OfOne.{conflicts_searchable, pairs_of_act, nothing_races_past_the_end}
use Rattle.lrc_judge.proofs.PairOrder.{pair_eq, unique-ascending, unique-contains}
use Rattle.lrc_judge.proofs.pairs.Conflicts.pairs_with_later.Goals as goal
use Rattle.lrc_judge.proofs.pairs.Conflicts.pairs_with_later.Goals.{then-later-acts+in_ok-add_pairs_of, else-later-acts}

pub add_pairs_of-requires : goal.add_pairs_of-requires
add_pairs_of-requires c = record { searchable = conflicts_searchable c.args.acts.now c.args.self.now c.requires.conflicts }

nothing_is_there : (pair : Pair) → Contains [] pair → ⊥
nothing_is_there pair (k, lt, is) = omega arith

pub returns : goal.returns
returns c =
    let run = c.args.acts.now in
    let later = c.args.later in
    let conflicts = c.args.self.now in
    let found = c.if-later-acts.pairs.items in
    let sorted = c.sort_unstable.new.self.items in
    let unique = c.dedup.new.self.items in
    let permutation = c.sort_unstable.ensures.permutation in
    let in_order = c.sort_unstable.ensures.sorted in
    let is = dedup_is pair_eq sorted unique c.dedup.ensures.filtered in
    let exact : (pair : Pair) → Contains found pair ↔ ((pair.later ≡ later) × Races run pair.earlier pair.later) =
    elim c.if-later-acts.branch [
      | then-later-acts+in_ok-add_pairs_of w ↦
          let quiet : Act = record { node = 0; deed = Quiet } in
          let act : Act = get_or run later quiet in
          let does = Does-read run later quiet w.if-later-acts.true in
          let added : Adds c.new-pairs.result.items found (IsPairOfAct conflicts act.node act.deed later) =
          subst (λ (v : Vec Pair Global). Adds c.new-pairs.result.items v.items (IsPairOfAct conflicts act.node act.deed later)) (sym w.pairs-is)
          w.in_ok-add_pairs_of.ensures in
          let adds : Adds [] found (IsPairOfAct conflicts act.node act.deed later) =
          subst (λ xs. Adds xs found (IsPairOfAct conflicts act.node act.deed later)) c.new-pairs.ensures.items added in
          λ pair.
          let race = pairs_of_act run conflicts c.requires.conflicts c.requires.acts act.node later act.deed does pair in (
            λ h. race.0 (elim ((adds.exact pair).0 h) [ inl (k, lt, _) ↦ absurd (omega arith) | inr one ↦ one ]),
            λ r. (adds.exact pair).1 (inr (race.1 r)),
          )
      | else-later-acts w ↦
          let none : found ≡ [] = ap (λ (v : Vec Pair Global). v.items) w.pairs-is ∙ c.new-pairs.ensures.items in
          let past : length run ≤ later = w.if-later-acts.false in
          λ pair. (
            λ h. absurd (nothing_is_there pair (subst (λ xs. Contains xs pair) none h)),
            λ (at, r). absurd (nothing_races_past_the_end run pair later at (λ within. omega (arith, past, within)) r),
          )
    ] in
    record {
      ascending = unique-ascending found sorted unique permutation in_order is;
      exact = λ pair.
          let same = unique-contains found sorted unique permutation in_order is pair in
          (λ h. (exact pair).0 (same.0 h), λ r. same.1 ((exact pair).1 r));
    }
