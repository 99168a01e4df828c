-- What is missed, and then the sorts.
use Rattle.std.proofs.Common.{◌∙◌, ◌++◌, ap, append_assoc}
use Rattle.lrc_races_scored.specs.Spelled.{missed_lines, score_lines}
use Rattle.lrc_races_scored.proofs.score.push_rest.Goals as goal

pub returns : goal.returns
returns c = λ naming e f.
    let missed = c.args.missed.now in
    let sorts = score_lines c.args.claims.now c.args.verdicts.now missed in (
      c.in_ok-push_score_lines.ensures ∙ ap (λ t. t ++ sorts) (c.in_ok-push_missed.ensures naming e f)
          ∙ append_assoc c.args.text.now.items (missed_lines naming missed) sorts,
      c.status_of.ensures,
    )
