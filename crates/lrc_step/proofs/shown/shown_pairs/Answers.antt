use Rattle.std.proofs.Common.{◌≡◌, ◌<◌, ◌≤◌, [], ℕ, List, arith, inl, inr, subst}
use Rattle.std.proofs.lemmas.List.Filters.{dedup_is}
use Rattle.lrc_judge.specs.declared.lanes.Pair.{Pair}
use Rattle.lrc_judge.specs.Adding.{Adds}
use Rattle.lrc_judge.proofs.Additions.{IsBelow, adds-iff, adds-same, below-more}
use Rattle.lrc_step.specs.Shown.{IsShown, StandsFor, StandsForNode}
use Rattle.lrc_step.proofs.PairOrder.{pair_eq, unique-ascending, unique-contains}
use Rattle.lrc_step.proofs.Standing.{IsOfAct}
use Rattle.lrc_step.proofs.shown.shown_pairs.Goals as goal

pub loop-position-init : goal.loop-position-init
loop-position-init c =
    let run = c.args.acts.now in
    let part = c.args.part in
    adds-same c.new-pairs.result.items (IsBelow (IsOfAct run part) part.from) (λ pair (k, less, (shown, of)). let least = shown.0 in absurd (omega (arith, less, least)))

pub loop-position-preserved : goal.loop-position-preserved
loop-position-preserved c =
    let run = c.args.acts.now in
    let part = c.args.part in
    let at = c.loop-position.position in
    let shown : IsShown part at = (omega arith, omega arith) in
    below-more (IsOfAct run part) c.new-pairs.result.items c.loop-position.pairs.items c.add_pairs_of.new.pairs.items at c.loop-position.invariant
    (adds-iff c.loop-position.pairs.items c.add_pairs_of.new.pairs.items (λ pair. (node : ℕ) × StandsForNode run part at node pair) (IsOfAct run part at)
    (λ pair of. (shown, of)) (λ pair (here, of). of) c.in_ok-add_pairs_of.ensures)

pub returns : goal.returns
returns c =
    let run = c.args.acts.now in
    let part = c.args.part in
    let end = c.loop-position.position in
    let all : part.until ≤ end = omega arith in
    let found = c.loop-position.pairs.items in
    let sorted = c.sort_unstable.new.self.items in
    let unique = c.dedup.new.self.items in
    let adds : Adds [] found (IsBelow (IsOfAct run part) end) =
    subst (λ (zs : List Pair). Adds zs found (IsBelow (IsOfAct run part) end)) c.new-pairs.ensures.items c.loop-position.invariant in
    let is = dedup_is pair_eq sorted unique c.dedup.ensures.filtered in
    let permutation = c.sort_unstable.ensures.permutation in
    let in_order = c.sort_unstable.ensures.sorted in
    record {
      ascending = unique-ascending found sorted unique permutation in_order is;
      exact = λ pair.
          let same = unique-contains found sorted unique permutation in_order is pair in (
            λ h. elim ((adds.exact pair).0 (same.0 h)) [
              | inl (k, lt, _) ↦ absurd (omega arith)
              | inr (position, less, (shown, (node, of))) ↦ record { position = position; shown = shown; node = node; of_node = of }
            ],
            λ s. let less = s.shown.1 in same.1 ((adds.exact pair).1 (inr (s.position, omega arith, (s.shown, (s.node, s.of_node))))),
          );
    }
