use Rattle.std.proofs.Common.{◌∙◌, append_assoc}
use Rattle.std.specs.Prelude.{codes, decimal}
use Rattle.lrc_lines.proofs.Following.{on_ok}
use Rattle.lrc_explain.specs.Access.{act_words}
use Rattle.lrc_explain.proofs.access.push_place.Goals as goal

pub returns : goal.returns
unfolding act_words
returns c = on_ok c.push_number.result (λ e. e ∙ append_assoc c.args.text.now.items (codes " act ") (decimal c.args.number)) c.push_number.ensures.ok
