use Rattle.std.proofs.Common.{◌≡◌, ◌∙◌, ◌++◌, ℕ, List, ap}
use Rattle.lrc_judge.specs.declared.lanes.Pair.{Pair}
use Rattle.lrc_text.specs.Each.{each}
use Rattle.lrc_step.specs.RaceLines.{group_line, rest_line}
use Rattle.lrc_step.proofs.races.races_of.Goals as goal

pub returns : goal.returns
returns c =
    let groups : List ℕ = each (group_line c.args.acts.now c.args.lines.now c.args.pairs.now) c.args.leaders.now in
    c.in_ok-push_rest.ensures
    ∙ ap (λ (l : List ℕ). l ++ rest_line c.deref.result.now) (c.in_ok-push_groups.ensures ∙ ap (λ (l : List ℕ). l ++ groups) c.new-text.ensures.items)
    ∙ ap (λ (ps : List Pair). groups ++ rest_line ps) (c.deref.ensures.value ∙ c.in_ok-rest.ensures)
