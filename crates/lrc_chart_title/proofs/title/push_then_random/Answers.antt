use Rattle.std.specs.Prelude.{codes}
use Rattle.lrc_chart_title.specs.Title.{option_text}
use Rattle.lrc_chart_title.proofs.Steps.{added, on_ok}
use Rattle.lrc_chart_title.proofs.title.push_then_random.Goals as goal

pub returns : goal.returns
returns c =
    on_ok c.push_unless.result _ _ (added c.args.text.now.items (codes " --then random") (option_text (codes " --seed ") 0 c.args.seed) _ _
    c.in_ok-extend_from_slice.ensures.items) c.push_unless.ensures
