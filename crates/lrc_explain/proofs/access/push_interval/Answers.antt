use Rattle.std.proofs.Common.{◌∙◌, append_assoc}
use Rattle.std.specs.Prelude.{codes, decimal}
use Rattle.lrc_lines.proofs.Following.{on_ok}
use Rattle.lrc_explain.specs.Access.{interval_words}
use Rattle.lrc_explain.proofs.access.push_interval.Goals as goal

pub returns : goal.returns
unfolding interval_words
returns c = on_ok c.push_number.result (λ e. e ∙ append_assoc c.args.text.now.items (codes " interval ") (decimal c.args.number)) c.push_number.ensures.ok
