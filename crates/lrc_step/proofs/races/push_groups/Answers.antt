use Rattle.std.proofs.Common.{◌≡◌, ◌∙◌, ◌++◌, ℕ, List, ap, append_assoc, get_or, sym, take}
use Rattle.lrc_judge.specs.declared.lanes.Pair.{Pair}
use Rattle.lrc_text.specs.Each.{each}
use Rattle.lrc_text.proofs.Each.{each_more}
use Rattle.lrc_step.specs.RaceLines.{group_line}
use Rattle.lrc_step.proofs.races.push_groups.Goals as goal

abbrev no_pair : Pair
no_pair = record { later = 0; earlier = 0 }

pub loop-place-preserved : goal.loop-place-preserved
loop-place-preserved c =
    let of : ℕ → Pair → List ℕ = group_line c.args.acts.now c.args.lines.now c.args.pairs.now in
    let leaders = c.args.leaders.now in
    let n = c.loop-place.place in
    let line = of n (get_or leaders n no_pair) in
    c.in_ok-push_group.ensures
    ∙ ap (λ (l : List ℕ). l ++ line) c.loop-place.invariant
    ∙ append_assoc c.args.text.now.items (each of (take n leaders)) line
    ∙ ap (λ (l : List ℕ). c.args.text.now.items ++ l) (sym (each_more of leaders n no_pair c.loop-place-test.true))
